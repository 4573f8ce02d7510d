use Rattle.rdf_gatelog.proofs.LogDisks.{mount_answers_ok, keeps_logs}
use Rattle.rdf_gatelog.proofs.logs.mount.Goals as goal

pub returns-clause-ok : goal.returns-clause-ok
returns-clause-ok g c = λ tells. mount_answers_ok c.args.file (g.D.Disk.files c.args.disk.now) (g.D.Disk.files c.mount.new.disk) _ _ c.mount.result (c.mount.ensures.files tells)

pub returns-clause-keeps : goal.returns-clause-keeps
returns-clause-keeps g c = λ tells. keeps_logs (g.D.Disk.files c.args.disk.now) (g.D.Disk.files c.mount.new.disk) (c.mount.ensures.keeps tells)
