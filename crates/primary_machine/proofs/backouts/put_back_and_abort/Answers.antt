use Rattle.primary_machine.proofs.CutLaws.{pushed}
use Rattle.primary_machine.proofs.backouts.put_back_and_abort.Goals as goal

pub returns-clause-ok : goal.returns-clause-ok
returns-clause-ok c = λ old before w f. pushed c.push_abort.result c.args.most _ c.put_back.new.trail.items c.push_abort.new.trail.items c.args.txn (c.in_ok-put_back.ensures.ok old before w f) c.push_abort.ensures.ok

pub returns-clause-way : goal.returns-clause-way
returns-clause-way c = λ old before w. c.push_abort.ensures.way old before c.put_back.new.places c.put_back.new.log (c.in_ok-put_back.ensures.way old before w)
