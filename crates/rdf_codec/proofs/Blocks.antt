-- How many rows or entries fit, and rows in order.
use Rattle.std.proofs.Common.{◌≡◌, ℕ, ◌+◌, ◌<◌, ◌≤◌, List, [], ◌∷◌, ◌++◌, length, take, zero, suc, arith, subst, map}
use Rattle.std.specs.Int.{w64, to_be_bytes}
use Rattle.std.specs.List.{flat_map, AllByRecursion}
use Rattle.std.specs.List.Sorted.{IsStrictlySortedBy}
use Rattle.std.specs.declared.cmp.Ordering.{Ordering}
use Rattle.std.proofs.lemmas.List.{length-append, length-take, take-map}
use Rattle.rdf_types.specs.declared.records.Row.{Row}
use Rattle.rdf_types.specs.Places.{row_cmp}
use Rattle.rdf_codec.specs.declared.index_entries.IndexEntry.{IndexEntry}
use Rattle.rdf_codec.specs.Spelling.{text, row_spelling}
use Rattle.rdf_codec.specs.VolumeBlocks.{row_place, rows_spelling, FillsBlock, entry_spelling, index_spelling, FillsIndex}

-- each row takes a byte at least
pub rows_few : (rows : List Row) → length rows ≤ length (flat_map row_spelling rows)
rows_few [] = omega arith
rows_few (row ∷ rows) =
    omega (arith, rows_few rows, length-append (row_spelling row) (flat_map row_spelling rows), length-append (text row.file ++ text row.key) (text row.value), length-append (text row.file) (text row.key))

All-take : {X : Type 0} (P : X → Type 0) (n : ℕ) (xs : List X) → AllByRecursion P xs → AllByRecursion P (take n xs)
All-take P zero xs h = tt
All-take P (suc n) [] h = tt
All-take P (suc n) (x ∷ xs) h = (h.0, All-take P n xs h.1)

sorted-take : {X : Type 0} (c : X → X → Ordering) (n : ℕ) (xs : List X) → IsStrictlySortedBy c xs → IsStrictlySortedBy c (take n xs)
unfolding IsStrictlySortedBy
sorted-take c zero xs h = tt
sorted-take c (suc n) [] h = tt
sorted-take c (suc n) (x ∷ xs) h = (All-take _ n xs h.0, sorted-take c n xs h.1)

-- the first rows of rows in order make a block where they are not too many
pub first_fill : (n : ℕ) (rows : List Row) → 0 < n → n ≤ length rows → length (rows_spelling (take n rows)) ≤ 4096 → IsStrictlySortedBy row_cmp (map row_place rows) → FillsBlock (take n rows)
first_fill n rows some within few rising = record {
  some = omega (arith, length-take n rows);
  rising = subst (IsStrictlySortedBy row_cmp) (take-map row_place n rows) (sorted-take row_cmp n (map row_place rows) rising);
  few = few;
}

-- a row fits where none stands before it
pub some_fit : (n size more : ℕ) (rows : List Row) → size ≡ length (rows_spelling (take n rows)) → more ≤ 251 → 4096 < size + more → 0 < n
some_fit zero size more rows is few over = absurd (omega arith)
some_fit (suc n) size more rows is few over = omega arith

-- each entry takes a byte at least
entries_few : (entries : List IndexEntry) → length entries ≤ length (flat_map entry_spelling entries)
entries_few [] = omega arith
entries_few (e ∷ entries) =
    omega (arith, entries_few entries, length-append (entry_spelling e) (flat_map entry_spelling entries), length-append (to_be_bytes w64 e.at ++ text e.file) (text e.key), length-append (to_be_bytes w64 e.at) (text e.file))

-- the first entries make a block where they are not too many
pub index_fills : (n : ℕ) (entries : List IndexEntry) → 0 < n → n ≤ length entries → length (index_spelling (take n entries)) ≤ 4096 → FillsIndex (take n entries)
index_fills n entries some within few = record { some = omega (arith, length-take n entries); few = omega (arith, few, entries_few (take n entries)) }

-- an entry fits where none stands before it
pub entry_fits : (n size more : ℕ) (entries : List IndexEntry) → size ≡ length (index_spelling (take n entries)) → more ≤ 58 → 4096 < size + more → 0 < n
entry_fits zero size more entries is few over = absurd (omega arith)
entry_fits (suc n) size more entries is few over = omega arith
