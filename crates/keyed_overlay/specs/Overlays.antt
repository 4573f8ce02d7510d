-- Rows that were changed, over rows that are elsewhere.
use Rattle.std.specs.Prelude.{ℕ, Bool, not, ◌||◌, List, ◌++◌, refl}
use Rattle.std.specs.Coded.{Coded, code_by, coded×, coded_ℕ, coded_list}
use Rattle.std.specs.FinMap.{entries, from_entries, retain_keys, contains_key, code}
use Rattle.rdf_model.specs.Volumes.{Rows}

-- the rows that were set, and a row of any value for each place that was emptied; a place in both is set
pub record Laid : Type 0 where
  pub set : Rows
  pub emptied : Rows

-- a map of rows is stored as its entries
abbrev pub coded_rows : Coded Rows
coded_rows = code (coded× (coded_list coded_ℕ) (coded_list coded_ℕ)) (coded_list coded_ℕ)

-- both maps are stored as a pair
abbrev pub coded_laid : Coded Laid
coded_laid = code_by (Rows × Rows) (coded× coded_rows coded_rows) (λ a. (a.set, a.emptied)) (λ p. record { set = p.0; emptied = p.1 }) (λ _. refl)

-- the place was set or emptied
abbrev pub is_touched : Laid → List ℕ × List ℕ → Bool
is_touched laid place = contains_key laid.set place || contains_key laid.emptied place

-- the rows below without those whose place was emptied
abbrev pub not_emptied : Rows → Laid → Rows
not_emptied base laid = retain_keys base (λ place. not (contains_key laid.emptied place))

-- the rows below with the emptied places taken away, and the set rows put over them
unfoldable pub overlaid : Rows → Laid → Rows
overlaid base laid = from_entries (entries laid.set ++ entries (not_emptied base laid))
