-- The rows above a place.
use Rattle.std.specs.Prelude.{ℕ, List, filter}
use Rattle.std.specs.Ordering.{is_lt}
use Rattle.std.specs.FinMap.{FinMap, entries}
use Rattle.rdf_types.specs.Places.{row_cmp}

-- the rows of the map whose file and key are above the place, in order
abbrev pub rows_above : FinMap row_cmp (List ℕ) → List ℕ × List ℕ → List ((List ℕ × List ℕ) × List ℕ)
rows_above rows place = filter (λ e. is_lt (row_cmp place e.0)) (entries rows)
