-- The rows of a map as a list.
use Rattle.std.specs.Prelude.{ℕ, List, map}
use Rattle.std.specs.FinMap.{FinMap, entries}
use Rattle.rdf_types.specs.declared.records.Row.{Row}
use Rattle.rdf_types.specs.Places.{row_cmp}

-- a value with its file and key, as a row
abbrev pub as_row : (List ℕ × List ℕ) × List ℕ → Row
as_row e = record { file = e.0.0; key = e.0.1; value = e.1 }

-- the rows of the map, in the order of file and key
abbrev pub listed : FinMap row_cmp (List ℕ) → List Row
listed rows = map as_row (entries rows)

-- the rows of one file, from its values by key
abbrev pub rows_at : List ℕ → List (List ℕ × List ℕ) → List Row
rows_at file es = map (λ e. as_row ((file, e.0), e.1)) es
