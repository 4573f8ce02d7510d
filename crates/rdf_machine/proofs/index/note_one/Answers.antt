use Rattle.rdf_machine.proofs.PushLaws.{image_noted}
use Rattle.rdf_machine.proofs.index.note_one.Goals as goal

pub returns-in_ok-place-in-Image-clause-ok : goal.returns-in_ok-place-in-Image-clause-ok
returns-in_ok-place-in-Image-clause-ok c =
    image_noted c.push.result c.args.images.now c.push.new.self c.in_ok-place-in-Image.place c.args.pos c.in-Image.txn c.in-Image.vol c.in-Image.file c.in-Image.key c.in-Image.before c.in-Image.after c.args.rec.now c.in-Image.is
    c.in_ok-place-in-Image.ensures c.push.ensures.ok
