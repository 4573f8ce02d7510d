use Rattle.tmf_core.proofs.JoinLaws.{image_next}
use Rattle.tmf_core.proofs.joining.note_image.Goals as goal

pub returns : goal.returns
returns c = λ after. image_next c.next_follows.ensures c.note.result c.args.txns.now c.activate.new.txns c.note.new.self c.args.txn c.args.place c.args.before after c.in_ok-activate.ensures c.note.ensures.tells
