use Rattle.rdf_gatelog.specs.Parsed.{lists_of}
use Rattle.rdf_gatelog.proofs.LogDisks.{append_answers_ok, append_answers_err}
use Rattle.rdf_gatelog.proofs.logs.append_all.Goals as goal

pub returns-clause-ok : goal.returns-clause-ok
returns-clause-ok g c = λ tells. append_answers_ok c.args.log.now.file c.args.log.now.end c.append_all.new.self.end (lists_of c.args.payloads.now) (g.D.Disk.files c.args.disk.now) (g.D.Disk.files c.append_all.new.disk) c.append_all.result (c.append_all.ensures.files tells)

pub returns-clause-err : goal.returns-clause-err
returns-clause-err g c = λ tells. append_answers_err c.args.log.now.file c.args.log.now.end c.append_all.new.self.end (lists_of c.args.payloads.now) (g.D.Disk.files c.args.disk.now) (g.D.Disk.files c.append_all.new.disk) c.append_all.result (c.append_all.ensures.files tells)
