use Rattle.std.proofs.lemmas.Result.{err_from_is_err_and}
use Rattle.rdf_disk.specs.AnswerLaws.{on_err}
use Rattle.rdf_gatelog.specs.RestLaws.{rests_reads}
use Rattle.rdf_gatelog.proofs.LogDisks.{rests_settled, discard_first, discard_sync, not_discarded_first, not_discarded_sync}
use Rattle.rdf_gatelog.proofs.logs.discard.Goals as goal

pub returns-in_err-remove-clause-err : goal.returns-in_err-remove-clause-err
returns-in_err-remove-clause-err g c = λ tells. on_err c.from_residual.result _ (λ logs rests.
    discard_first logs c.args.file (g.D.Disk.files c.args.disk.now) (rests_settled logs (g.D.Disk.files c.args.disk.now) rests) (rests_reads logs (g.D.Disk.files c.args.disk.now) rests) c.remove.result (g.D.Disk.files c.remove.new.self) (c.remove.ensures.files tells))

pub returns-in_err-sync-clause-err : goal.returns-in_err-sync-clause-err
returns-in_err-sync-clause-err g c = λ tells. on_err c.from_residual-in_err-sync.result _ (λ logs rests.
    discard_sync logs c.args.file (g.D.Disk.files c.args.disk.now) (rests_settled logs (g.D.Disk.files c.args.disk.now) rests) (rests_reads logs (g.D.Disk.files c.args.disk.now) rests) c.remove.result c.sync.result (g.D.Disk.files c.remove.new.self) (g.D.Disk.files c.sync.new.self) (c.remove.ensures.files tells) (c.sync.ensures.files tells))

pub returns-in_err-remove-clause-err_reads : goal.returns-in_err-remove-clause-err_reads
returns-in_err-remove-clause-err_reads g c = λ tells. on_err c.from_residual.result _ (λ logs still reads.
    discard_first logs c.args.file (g.D.Disk.files c.args.disk.now) still reads c.remove.result (g.D.Disk.files c.remove.new.self) (c.remove.ensures.files tells))

pub returns-in_err-sync-clause-err_reads : goal.returns-in_err-sync-clause-err_reads
returns-in_err-sync-clause-err_reads g c = λ tells. on_err c.from_residual-in_err-sync.result _ (λ logs still reads.
    discard_sync logs c.args.file (g.D.Disk.files c.args.disk.now) still reads c.remove.result c.sync.result (g.D.Disk.files c.remove.new.self) (g.D.Disk.files c.sync.new.self) (c.remove.ensures.files tells) (c.sync.ensures.files tells))

pub returns-in_err-remove-clause-files : goal.returns-in_err-remove-clause-files
returns-in_err-remove-clause-files g c = λ tells.
    let r = err_from_is_err_and c.from_residual.result c.from_residual.ensures.1 in
    rw r.1 (not_discarded_first c.args.file c.remove.result (g.D.Disk.files c.args.disk.now) (g.D.Disk.files c.remove.new.self) (c.remove.ensures.files tells))

pub returns-in_err-sync-clause-files : goal.returns-in_err-sync-clause-files
returns-in_err-sync-clause-files g c = λ tells.
    let r = err_from_is_err_and c.from_residual-in_err-sync.result c.from_residual-in_err-sync.ensures.1 in
    rw r.1 (not_discarded_sync c.args.file c.remove.result c.sync.result (g.D.Disk.files c.args.disk.now) (g.D.Disk.files c.remove.new.self) (g.D.Disk.files c.sync.new.self) (c.remove.ensures.files tells) (c.sync.ensures.files tells))
