-- What active transactions found at the places that they changed.
use Rattle.std.specs.Prelude.{ℕ, ◌==◌, List, filter_map, Option, Some, None, is_some, if◌then◌else◌}
use Rattle.std.specs.Ordering.{nat_cmp}
use Rattle.std.specs.FinMap.{FinMap, get, insert, remove, empty, len}
use Rattle.rdf_types.specs.declared.records.RecKey.{RecKey}
use Rattle.rdf_types.specs.Places.{place_cmp}

-- what one transaction first found at each place that it changed
abbrev pub FirstBefore : Type 0
FirstBefore = FinMap place_cmp (Option (List ℕ))

-- the same of each active transaction
abbrev pub Founds : Type 0
Founds = FinMap nat_cmp FirstBefore

-- with what stood at a place, unless that is noted already
abbrev pub noted : FirstBefore → RecKey → Option (List ℕ) → FirstBefore
noted found k before = if is_some (get found k) then found else insert found k before

-- what it is, or nothing
abbrev pub found_or_none : Option FirstBefore → FirstBefore
found_or_none None = empty
found_or_none (Some found) = found

-- what the transaction found
abbrev pub found_at : Founds → ℕ → FirstBefore
found_at founds t = found_or_none (get founds t)

-- what a transaction found, where this one is without this place
abbrev pub found_without : Founds → ℕ → RecKey → ℕ → FirstBefore
found_without founds t k u = if u == t then remove (found_at founds u) k else found_at founds u

-- the transaction, where it changed a place
abbrev pub finder : ℕ × FirstBefore → Option ℕ
finder e = if len e.1 == 0 then None else Some e.0

-- the transactions that changed a place
abbrev pub finders : List (ℕ × FirstBefore) → List ℕ
finders es = filter_map finder es
