use Rattle.std.proofs.Common.{◌∙◌, sym}
use Rattle.rdf_model.specs.Settled.{has}
use Rattle.tmf_recovery.proofs.NotedLemmas.{image_noted, image_left}
use Rattle.tmf_recovery.proofs.without_outcome.note_image.Goals as goal

pub returns-then-contains : goal.returns-then-contains
returns-then-contains c = image_left (has c.args.ended.now) c.args.rec.now _ _ _ _ _ _ c.args.lost.now.keys c.in-Image.is (sym c.contains.ensures ∙ c.if-contains.true)

pub returns-in-Image : goal.returns-in-Image
returns-in-Image c = c.in_ok-insert-in-Image.ensures.keys ∙ image_noted (has c.args.ended.now) c.args.rec.now _ _ _ _ _ _ c.args.lost.now.keys c.in-Image.is (sym c.contains.ensures ∙ c.if-contains.false)
