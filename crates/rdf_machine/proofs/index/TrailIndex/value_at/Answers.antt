use Rattle.std.proofs.Common.{◌≡◌, ℕ, List, Option, IfOk, subst, arith, ◌∙◌}
use Rattle.rdf_machine.proofs.PositionLaws.{value_is}
use Rattle.rdf_machine.proofs.index.TrailIndex.value_at.Goals as goal

pub returns-clause-value : goal.returns-clause-value
returns-clause-value c =
    subst (λ (x : Option (List ℕ)). IfOk c.copy_of.result (λ value. value ≡ x))
    (c.left_by.ensures ∙ value_is c.args.key.now c.args.trail.now c.note_up_to.new.noted c.args.upto c.note_up_to.new.images c.last_below-image.result c.in_ok-note_up_to.ensures.images (omega (arith, c.in_ok-note_up_to.ensures.ok, c.min-to.ensures)) c.last_below-image.ensures)
    c.copy_of.ensures
