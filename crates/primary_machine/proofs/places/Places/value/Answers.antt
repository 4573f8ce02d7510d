use Rattle.std.proofs.Common.{ap, ◌∙◌}
use Rattle.primary_machine.specs.Kept.{value_of}
use Rattle.primary_machine.proofs.places.Places.value.Goals as goal

pub returns-in-Some : goal.returns-in-Some
returns-in-Some c = c.as_ref.ensures.value ∙ ap value_of c.in-Some.ensures

pub returns-in-None : goal.returns-in-None
returns-in-None c = ap value_of c.in-None.ensures
