use Rattle.primary_machine.proofs.BackoutLaws.{way_on}
use Rattle.primary_machine.proofs.backouts.put_one_back.Goals as goal

pub returns-clause-way : goal.returns-clause-way
returns-clause-way c = λ old before w.
    way_on c.append_known.result old before c.args.trail.now.items c.append_known.new.trail.items c.args.places.now c.append_known.new.places c.args.log.now c.note.new.self c.args.txn c.args.key.now c.in_ok-after.after
    c.append_known.ensures.ok c.append_known.ensures.err c.append_known.ensures.last c.append_known.ensures.again c.in_ok-note.ensures.ok w
