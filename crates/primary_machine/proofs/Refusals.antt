-- Lines that nothing refuses.
use Rattle.std.proofs.Common.{◌≡◌, Bool, true, false, not, [], ◌∷◌, Option, Some, None, refl}
use Rattle.rdf_core.specs.declared.events.Standing.{Standing}
use Rattle.rdf_core.specs.declared.events.Standing.TheVariants.{Up, Down, Lost}
use Rattle.rdf_core.specs.declared.replies.NoWhy.{NoWhy}
use Rattle.rdf_core.specs.declared.replies.NoWhy.TheVariants as no
use Rattle.rdf_core.specs.Effects.{when, first}
use Rattle.rdf_core.specs.Primary.{is_lost, is_down}

pub none_first : (x y : Option NoWhy) → None ≡ x → None ≡ y → first (x ∷ y ∷ []) ≡ None
none_first None None e f = refl
none_first None (Some w) e f = cc
none_first (Some w) y e f = cc

pub when_false : (b : Bool) (why : NoWhy) → b ≡ false → None ≡ when b why
when_false false why e = refl
when_false true why e = cc

pub idle_parts : (st : Standing) (b : Bool) → None ≡ first (first (when (is_lost st) no.Lost ∷ when (is_down st) no.Down ∷ []) ∷ when (not b) no.Txn ∷ []) → (st ≡ Up) × (b ≡ true)
idle_parts Up true e = (refl, refl)
idle_parts Up false e = cc
idle_parts Down b e = cc
idle_parts Lost b e = cc
