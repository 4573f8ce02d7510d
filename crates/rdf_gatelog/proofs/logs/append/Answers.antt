use Rattle.std.proofs.Common.{◌∷◌, []}
use Rattle.rdf_gatelog.proofs.LogDisks.{append_answers_ok, append_answers_err}
use Rattle.rdf_gatelog.proofs.logs.append.Goals as goal

pub returns-clause-ok : goal.returns-clause-ok
returns-clause-ok g c = λ tells. append_answers_ok c.args.log.now.file c.args.log.now.end c.append.new.self.end (c.args.payload.now ∷ []) (g.D.Disk.files c.args.disk.now) (g.D.Disk.files c.append.new.disk) c.append.result (c.append.ensures.files tells)

pub returns-clause-err : goal.returns-clause-err
returns-clause-err g c = λ tells. append_answers_err c.args.log.now.file c.args.log.now.end c.append.new.self.end (c.args.payload.now ∷ []) (g.D.Disk.files c.args.disk.now) (g.D.Disk.files c.append.new.disk) c.append.result (c.append.ensures.files tells)
