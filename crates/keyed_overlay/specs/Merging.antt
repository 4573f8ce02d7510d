-- Set rows in order among rows from below that come in order.
use Rattle.std.specs.Prelude.{◌≡◌, ℕ, Bool, List, [], ◌∷◌, ◌++◌, map, if◌then◌else◌, refl}
use Rattle.std.specs.Coded.{Coded, code_by, coded×, coded_ℕ, coded_list}
use Rattle.std.specs.Ordering.{is_lt}
use Rattle.std.specs.FinMap.{is_sorted}
use Rattle.rdf_types.specs.declared.records.Row.{Row}
use Rattle.rdf_types.specs.Places.{row_cmp}
use Rattle.rdf_model.specs.Rows.{row_place, row_entry, list_of}
use Rattle.keyed_overlay.specs.Overlays.{Laid, coded_laid, is_touched}

-- the overlay, and its set rows that are still to come
pub record Merging : Type 0 where
  pub laid : Laid
  pub to_come : List Row

-- a row is stored as its three texts
abbrev pub coded_row : Coded Row
coded_row =
    code_by (List ℕ × (List ℕ × List ℕ)) (coded× (coded_list coded_ℕ) (coded× (coded_list coded_ℕ) (coded_list coded_ℕ))) (λ r. (r.file, (r.key, r.value)))
    (λ p. record { file = p.0; key = p.1.0; value = p.1.1 }) (λ _. refl)

-- both are stored as a pair
abbrev pub coded_merging : Coded Merging
coded_merging = code_by (Laid × List Row) (coded× coded_laid (coded_list coded_row)) (λ a. (a.laid, a.to_come)) (λ p. record { laid = p.0; to_come = p.1 }) (λ _. refl)

-- each row stands above the one before it
abbrev pub rises : List Row → Bool
rises rows = is_sorted row_cmp (map row_entry rows)

-- the row stands above the place
abbrev pub is_above : List ℕ × List ℕ → Row → Bool
is_above place row = is_lt (row_cmp place (row_place row))

-- the first rows, up to one above the place
abbrev pub rows_upto : List ℕ × List ℕ → List Row → List Row
rows_upto place [] = []
rows_upto place (row ∷ rows) = if is_above place row then [] else row ∷ rows_upto place rows

-- the rows behind them
abbrev pub rows_from : List ℕ × List ℕ → List Row → List Row
rows_from place [] = []
rows_from place (row ∷ rows) = if is_above place row then row ∷ rows else rows_from place rows

-- the row, if its place was not changed
abbrev pub untouched : Laid → Row → List Row
untouched laid row = if is_touched laid (row_place row) then [] else row ∷ []

-- what comes of rows from below: before each one the rows to come up to its place, then the row itself, if its place was not changed
abbrev pub passed : Laid → List Row → List Row → List Row
passed laid to_come [] = []
passed laid to_come (row ∷ rows) = rows_upto (row_place row) to_come ++ untouched laid row ++ passed laid (rows_from (row_place row) to_come) rows

-- the rows that then are still to come
abbrev pub behind : List Row → List Row → List Row
behind to_come [] = to_come
behind to_come (row ∷ rows) = behind (rows_from (row_place row) to_come) rows

-- from the beginning, the rows before came out as these, and the set rows that are still to come are these
pub record HasPassed (laid : Laid) (before out to_come : List Row) : Type 0 where
  pub out_is : out ≡ passed laid (list_of laid.set) before
  pub to_come_is : to_come ≡ behind (list_of laid.set) before
