use Rattle.rdf_disk.specs.OutcomeLaws.{syncs_narrows}
use Rattle.rdf_disk.specs.AnswerLaws.{on_err}
use Rattle.audit_trail.proofs.OpeningLaws.{was_may}
use Rattle.audit_trail.proofs.opening.make_log.Goals as goal

pub returns-in_err-sync-clause-err : goal.returns-in_err-sync-clause-err
returns-in_err-sync-clause-err g c = λ tells. on_err c.from_residual.result _
    (was_may (g.D.Disk.files c.args.disk.now) (g.D.Disk.files c.sync.new.self) (syncs_narrows c.sync.result (g.D.Disk.files c.args.disk.now) (g.D.Disk.files c.sync.new.self) (c.sync.ensures.files tells)))
