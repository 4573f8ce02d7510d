use Rattle.rdf_disk.specs.OutcomeLaws.{syncs_narrows}
use Rattle.rdf_disk.specs.AnswerLaws.{on_err}
use Rattle.rdf_gatelog.specs.RestLaws.{rests_surely}
use Rattle.image_trails.proofs.generations.settle.Goals as goal

pub returns-in_err-sync-clause-err : goal.returns-in_err-sync-clause-err
returns-in_err-sync-clause-err g c = λ tells. on_err c.from_residual.result _ (λ logs rests d may m.
    rests_surely m (logs m) (g.D.Disk.files c.args.disk.now) (rests m) (d m) (syncs_narrows c.sync.result (g.D.Disk.files c.args.disk.now) (g.D.Disk.files c.sync.new.self) (c.sync.ensures.files tells) m (d m) (may m)))

pub returns-in_err-sync-clause-narrows : goal.returns-in_err-sync-clause-narrows
returns-in_err-sync-clause-narrows g c = λ tells. syncs_narrows c.sync.result (g.D.Disk.files c.args.disk.now) (g.D.Disk.files c.sync.new.self) (c.sync.ensures.files tells)
