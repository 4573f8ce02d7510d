-- What an overlay says of one place.
use Rattle.std.specs.Prelude.{ℕ, List, Option, Some, None}
use Rattle.keyed_overlay.specs.declared.laying.Laying.{Laying}
use Rattle.keyed_overlay.specs.declared.laying.Laying.TheVariants.{Set, Emptied, Untouched}

-- the value there over what stands below
abbrev pub value_over : Laying → Option (List ℕ) → Option (List ℕ)
value_over (Set value) below = Some value.now
value_over Emptied below = None
value_over Untouched below = below
