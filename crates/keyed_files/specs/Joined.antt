-- A map of files, each a map of its keys, as one map of rows.
use Rattle.std.specs.Prelude.{◌≡◌, ℕ, true, List, [], ◌∷◌, ◌++◌, Option, Some, None, option_map, is_some, map, filter, slice_get}
use Rattle.std.specs.Ordering.{nat_cmp, is_lt}
use Rattle.std.specs.Cmp.Lexicographic.{slice_cmp}
use Rattle.std.specs.FinMap.{FinMap, entries, from_entries, get}
use Rattle.rdf_types.specs.Places.{row_cmp}

-- the values of one file, by key
abbrev pub Keys : Type 0
Keys = FinMap (slice_cmp nat_cmp) (List ℕ)

-- the files, each with its values by key
abbrev pub Files : Type 0
Files = FinMap (slice_cmp nat_cmp) Keys

-- a value of the file and its key, as a row
abbrev pub row_of : List ℕ → List ℕ × List ℕ → (List ℕ × List ℕ) × List ℕ
row_of file e = ((file, e.0), e.1)

-- the rows of each file in turn
abbrev pub rows_of : List (List ℕ × Keys) → List ((List ℕ × List ℕ) × List ℕ)
rows_of [] = []
rows_of (f ∷ fs) = map (row_of f.0) (entries f.1) ++ rows_of fs

-- the map of all rows
abbrev pub joined : Files → FinMap row_cmp (List ℕ)
joined files = from_entries (rows_of (entries files))

-- no file is without rows
abbrev pub AllFilled : Files → Type 0
AllFilled files = (file : List ℕ) (keys : Keys) → get files file ≡ Some keys → is_some (slice_get (entries keys) 0) ≡ true

-- the entries above a key
abbrev pub above : {X : Type 0} → FinMap (slice_cmp nat_cmp) X → List ℕ → List (List ℕ × X)
above m key = filter (λ e. is_lt (slice_cmp nat_cmp key e.0)) (entries m)

-- the first row of a file
abbrev pub first_of : List ℕ × Keys → Option ((List ℕ × List ℕ) × List ℕ)
first_of f = option_map (row_of f.0) (slice_get (entries f.1) 0)

-- the rows of the place's own file that are above it
abbrev pub own_above : List ℕ × List ℕ → Option Keys → List ((List ℕ × List ℕ) × List ℕ)
own_above place None = []
own_above place (Some keys) = map (row_of place.0) (above keys place.1)
