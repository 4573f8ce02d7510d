use Rattle.std.proofs.Common.{◌+◌, length}
use Rattle.rdf_gatelog.proofs.AdditionDisks.{push_answers_ok, push_answers_err}
use Rattle.rdf_gatelog.proofs.additions.push.Goals as goal

pub returns-clause-ok : goal.returns-clause-ok
returns-clause-ok g c = λ tells.
    push_answers_ok c.args.addition.now c.push.new.self (c.args.addition.now.end + 5 + length c.args.payload.now) c.args.payload.now (g.D.Disk.files c.args.disk.now) (g.D.Disk.files c.push.new.disk) c.push.result (c.push.ensures.files tells) c.push.ensures.end

pub returns-clause-err : goal.returns-clause-err
returns-clause-err g c = λ tells.
    push_answers_err c.args.addition.now c.push.new.self c.args.addition.now.end c.args.payload.now (g.D.Disk.files c.args.disk.now) (g.D.Disk.files c.push.new.disk) c.push.result (c.push.ensures.files tells)
