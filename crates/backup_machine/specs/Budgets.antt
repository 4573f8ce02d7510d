-- The first durable parts of a line, or all of them.
use Rattle.std.specs.Prelude.{ℕ, zero, suc, ◌-◌, Bool, true, false, List, Option, Some, None}
use Rattle.rdf_core.specs.Effects.{after_parts, after_all}

-- what stands after so many first parts, or after all
abbrev pub after_some : {X : Type 0} → X → List X → Option ℕ → X
after_some old parts None = after_all old parts
after_some old parts (Some n) = after_parts old parts n

-- no part more is to be done
abbrev pub is_spent : Option ℕ → Bool
is_spent None = false
is_spent (Some zero) = true
is_spent (Some (suc n)) = false

-- what is left after so many parts
abbrev pub without : Option ℕ → ℕ → Option ℕ
without None done = None
without (Some n) done = Some (n - done)
