use Rattle.rdf_gatelog.proofs.LogDisks.{create_answers_err, create_answers_ok}
use Rattle.rdf_gatelog.proofs.logs.create.Goals as goal

pub returns-clause-err : goal.returns-clause-err
returns-clause-err g c = λ tells. create_answers_err c.args.file (g.D.Disk.files c.args.disk.now) (g.D.Disk.files c.create.new.disk) _ c.create.result (c.requires.absent tells) (c.create.ensures.files tells)

pub returns-clause-ok : goal.returns-clause-ok
returns-clause-ok g c = λ tells. create_answers_ok c.args.file (g.D.Disk.files c.args.disk.now) (g.D.Disk.files c.create.new.disk) _ c.create.result (c.create.ensures.files tells)
