-- The value of a row among rows in order, found in a part of them.
use Rattle.std.proofs.Common.{◌≡◌, ℕ, zero, suc, ◌+◌, ◌<◌, ◌≤◌, true, false, cond, T, List, [], ◌∷◌, ◌++◌, length, map, Some, None, Result, Ok, Err, MatchResult, refl, sym, ap, ◌∙◌, subst, arith}
use Rattle.std.specs.Prelude.{slice_index_or}
use Rattle.std.specs.List.{AllWithin}
use Rattle.std.specs.List.Sorted.{IsSortedBy, IsSearchInRange, IsBinarySearchResult}
use Rattle.std.proofs.lemmas.List.Sorted.{searchable_from_sorted}
use Rattle.std.specs.declared.cmp.Ordering.{Ordering}
use Rattle.std.specs.declared.cmp.Ordering.TheVariants.{Less, Equal, Greater}
use Rattle.std.specs.Cmp.{Equal-is}
use Rattle.std.specs.Ordering.{is_lt, is_eq, eq_by_cmp, ordering_reverse}
use Rattle.std.specs.FinMap.Entries.{find, below_all, is_sorted}
use Rattle.rdf_types.specs.Places.{row_cmp, row_cmp_total}
use Rattle.rdf_types.specs.declared.records.Row.{Row}
use Rattle.rdf_model.specs.Rows.{row_entry, row_place}
use Rattle.keyed_blocks.specs.Bases.{rises}
use Rattle.keyed_blocks.specs.RisingLaws.{Place, lower, both, in_order}
use Rattle.rdf_model.specs.RowLaws.{less, first, second}

abbrev pub Entry : Type 0
Entry = Place × List ℕ

missed : (q k : Place) (es : List Entry) → row_cmp q k ≡ Less → T (below_all row_cmp k es) → find row_cmp q es ≡ None
missed q k [] lt h = refl
missed q k (e ∷ es) lt h =
    let over : row_cmp q e.0 ≡ Less = row_cmp_total.trans q k e.0 lt (less (row_cmp k e.0) (first _ _ h)) in
    ap (λ (o : Ordering). cond (is_eq o) (Some e.1) (find row_cmp q es)) over ∙ missed q k es lt (second _ _ h)

-- none of the rows stands at a place below the first one
pub none_below : (q : Place) (e : Entry) (es : List Entry) → T (is_sorted row_cmp (e ∷ es)) → is_lt (row_cmp q e.0) ≡ true → find row_cmp q (e ∷ es) ≡ None
none_below q e es h lt =
    let below : row_cmp q e.0 ≡ Less = lower (row_cmp q e.0) lt in
    ap (λ (o : Ordering). cond (is_eq o) (Some e.1) (find row_cmp q es)) below ∙ missed q e.0 es below (first _ _ h)

below_one : (k : Place) (xs : List Entry) (e : Entry) (ys : List Entry) → T (below_all row_cmp k (xs ++ e ∷ ys)) → row_cmp k e.0 ≡ Less
below_one k [] e ys h = less (row_cmp k e.0) (first _ _ h)
below_one k (x ∷ xs) e ys h = below_one k xs e ys (second _ _ h)

-- none of the rows before one at or below a place stands there
pub found_behind : (q : Place) (xs : List Entry) (e : Entry) (ys : List Entry) → T (is_sorted row_cmp (xs ++ e ∷ ys)) → is_lt (row_cmp q e.0) ≡ false → find row_cmp q (xs ++ e ∷ ys) ≡ find row_cmp q (e ∷ ys)
found_behind q [] e ys h upto = refl
found_behind q (x ∷ xs) e ys h upto =
    elim (is_eq (row_cmp q x.0)) as (λ b. is_eq (row_cmp q x.0) ≡ b → cond b (Some x.1) (find row_cmp q (xs ++ e ∷ ys)) ≡ find row_cmp q (e ∷ ys)) [
      | true ↦ λ s.
          let below : row_cmp q e.0 ≡ Less = row_cmp_total.congr q x.0 e.0 ((Equal-is (row_cmp q x.0)).0 s) ∙ below_one x.0 xs e ys (first _ _ h) in
          let so : is_lt (row_cmp q e.0) ≡ true = ap is_lt below in
          cc
      | false ↦ λ s. found_behind q xs e ys (second _ _ h) upto
    ] refl

-- the rows behind others have no say where none of them stands at the place
pub found_before : (q : Place) (xs ys : List Entry) → find row_cmp q ys ≡ None → find row_cmp q (xs ++ ys) ≡ find row_cmp q xs
found_before q [] ys none = none
found_before q (x ∷ xs) ys none = ap (cond (eq_by_cmp row_cmp q x.0) (Some x.1)) (found_before q xs ys none)

-- the rows behind others in order are in order
pub sorted_behind : (xs ys : List Entry) → T (is_sorted row_cmp (xs ++ ys)) → T (is_sorted row_cmp ys)
sorted_behind [] ys h = h
sorted_behind (x ∷ xs) ys h = sorted_behind xs ys (second _ _ h)

-- and so are those in front of others
below_front : (k : Place) (xs ys : List Entry) → T (below_all row_cmp k (xs ++ ys)) → T (below_all row_cmp k xs)
below_front k [] ys h = tt
below_front k (x ∷ xs) ys h = both (is_lt (row_cmp k x.0)) (below_all row_cmp k xs) (first _ _ h) (below_front k xs ys (second _ _ h))

pub sorted_front : (xs ys : List Entry) → T (is_sorted row_cmp (xs ++ ys)) → T (is_sorted row_cmp xs)
sorted_front [] ys h = tt
sorted_front (x ∷ xs) ys h = both (below_all row_cmp x.0 xs) (is_sorted row_cmp xs) (below_front x.0 xs ys (first _ _ h)) (sorted_front xs ys (second _ _ h))

-- ---- by halves

below_at : (k : Place) (rows : List Row) (i : ℕ) (d : Row) → T (below_all row_cmp k (map row_entry rows)) → i < length rows → row_cmp k (row_place (slice_index_or rows i d)) ≡ Less
below_at k [] i d h lt = absurd (omega (arith, lt))
below_at k (r ∷ rows) zero d h lt = less (row_cmp k (row_place r)) (first _ _ h)
below_at k (r ∷ rows) (suc i) d h lt = below_at k rows i d (second _ _ h) (omega (arith, lt))

above : (x y : Place) → row_cmp x y ≡ Less → row_cmp y x ≡ Greater
above x y lt = row_cmp_total.antisymm y x ∙ ap ordering_reverse lt

-- each of rows in order stands below the next one
below_next : (rows : List Row) (i : ℕ) (d : Row) → T (is_sorted row_cmp (map row_entry rows)) → suc i < length rows → row_cmp (row_place (slice_index_or rows i d)) (row_place (slice_index_or rows (suc i) d)) ≡ Less
below_next [] i d h lt = absurd (omega (arith, lt))
below_next (r ∷ rows) zero d h lt = below_at (row_place r) rows 0 d (first _ _ h) (omega (arith, lt))
below_next (r ∷ rows) (suc i) d h lt = below_next rows i d (second _ _ h) (omega (arith, lt))

ascend : (rows : List Row) → T (is_sorted row_cmp (map row_entry rows)) → IsSortedBy (λ a b. is_lt (row_cmp (row_place a) (row_place b))) rows
ascend rows h k d from upto =
    let e : suc k ≡ k + 1 = omega arith in
    subst (λ n. is_lt (row_cmp (row_place (slice_index_or rows n d)) (row_place (slice_index_or rows k d))) ≡ false) e
    (ap is_lt (above (row_place (slice_index_or rows k d)) (row_place (slice_index_or rows (suc k) d)) (below_next rows k d h (omega (arith, upto)))))

-- what stands at the place is found
found_at : (q : Place) (rows : List Row) (i : ℕ) (d : Row) → T (is_sorted row_cmp (map row_entry rows)) → i < length rows → row_cmp (row_place (slice_index_or rows i d)) q ≡ Equal
    → find row_cmp q (map row_entry rows) ≡ Some (slice_index_or rows i d).value
found_at q [] i d h lt is = absurd (omega (arith, lt))
found_at q (r ∷ rows) zero d h lt is =
    ap (λ (o : Ordering). cond (is_eq o) (Some r.value) (find row_cmp q (map row_entry rows))) (row_cmp_total.antisymm q (row_place r) ∙ ap ordering_reverse is)
found_at q (r ∷ rows) (suc i) d h lt is =
    let x = row_place (slice_index_or rows i d) in
    let over : row_cmp q (row_place r) ≡ Greater = sym (row_cmp_total.congr x q (row_place r) is) ∙ above (row_place r) x (below_at (row_place r) rows i d (first _ _ h) (omega (arith, lt))) in
    ap (λ (o : Ordering). cond (is_eq o) (Some r.value) (find row_cmp q (map row_entry rows))) over ∙ found_at q rows i d (second _ _ h) (omega (arith, lt)) is

-- rows that stand below a place or above it have nothing there
none_at : (q : Place) (rows : List Row) (at : ℕ) → AllWithin (λ row. row_cmp (row_place row) q ≡ Less) rows 0 at → AllWithin (λ row. row_cmp (row_place row) q ≡ Greater) rows at (length rows)
    → find row_cmp q (map row_entry rows) ≡ None
none_at q [] at low high = refl
none_at q (r ∷ rows) zero low high =
    ap (λ (o : Ordering). cond (is_eq o) (Some r.value) (find row_cmp q (map row_entry rows))) (row_cmp_total.antisymm q (row_place r) ∙ ap ordering_reverse (high 0 r (omega arith) (omega arith)))
    ∙ none_at q rows zero (λ k d a b. absurd (omega (arith, b))) (λ k d a b. high (suc k) d (omega arith) (omega (arith, b)))
none_at q (r ∷ rows) (suc at) low high =
    ap (λ (o : Ordering). cond (is_eq o) (Some r.value) (find row_cmp q (map row_entry rows))) (row_cmp_total.antisymm q (row_place r) ∙ ap ordering_reverse (low 0 r (omega arith) (omega arith)))
    ∙ none_at q rows at (λ k d a b. low (suc k) d (omega arith) (omega (arith, b))) (λ k d a b. high (suc k) d (omega (arith, a)) (omega (arith, b)))

-- what a search by halves answers is what all rows that rise have at the place
pub searched : (q : Place) (rows : List Row) (r : Result ℕ ℕ) → rises rows ≡ true → IsSearchInRange r (length rows) → IsBinarySearchResult (λ row. row_cmp (row_place row) q) rows r
    → MatchResult r (λ at. (d : Row) → find row_cmp q (map row_entry rows) ≡ Some (slice_index_or rows at d).value) (λ at. find row_cmp q (map row_entry rows) ≡ None)
searched q rows (Ok at) risen within equal = λ d. found_at q rows at d (in_order rows risen) within (equal d)
searched q rows (Err at) risen within parted =
    let p = parted (searchable_from_sorted row_cmp_total row_place rows q (ascend rows (in_order rows risen))) in
    none_at q rows at p.0 p.1
