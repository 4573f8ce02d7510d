use Rattle.std.proofs.Common.{◌+◌, length}
use Rattle.rdf_gatelog.proofs.AdditionDisks.{finish_answers_ok, finish_answers_err}
use Rattle.rdf_gatelog.proofs.additions.finish.Goals as goal

pub returns-clause-ok : goal.returns-clause-ok
returns-clause-ok g c = λ tells.
    finish_answers_ok c.args.addition (c.args.addition.end + 5 + length c.args.last.now) c.args.last.now (g.D.Disk.files c.args.disk.now) (g.D.Disk.files c.finish.new.disk) c.finish.result (c.finish.ensures.files tells) c.finish.ensures.place

pub returns-clause-err : goal.returns-clause-err
returns-clause-err g c = λ tells.
    finish_answers_err c.args.addition (c.args.addition.end + 5 + length c.args.last.now) c.args.last.now (g.D.Disk.files c.args.disk.now) (g.D.Disk.files c.finish.new.disk) c.finish.result (c.finish.ensures.files tells)
