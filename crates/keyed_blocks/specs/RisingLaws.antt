-- Laws of rows that rise, and of one more behind them.
use Rattle.std.proofs.Common.{◌≡◌, ℕ, ◌&&◌, Bool, true, false, T, List, [], ◌∷◌, ◌++◌, map, Option, Some, None, refl, sym, ap, ◌∙◌, subst}
use Rattle.std.specs.declared.cmp.Ordering.{Ordering}
use Rattle.std.specs.declared.cmp.Ordering.TheVariants.{Less, Equal, Greater}
use Rattle.std.specs.List.{AllByRecursion, last_or}
use Rattle.std.specs.List.Sorted.{IsStrictlySortedBy}
use Rattle.std.specs.Ordering.{is_lt}
use Rattle.std.specs.FinMap.Entries.{below_all, is_sorted}
use Rattle.rdf_types.specs.Places.{row_cmp, row_cmp_total}
use Rattle.rdf_types.specs.declared.records.Row.{Row}
use Rattle.rdf_model.specs.Rows.{row_entry, row_place}
use Rattle.rdf_model.specs.RowLaws.{less, first, second}
use Rattle.keyed_blocks.specs.Bases.{rises}
use Rattle.keyed_blocks.specs.Writing.{is_over, is_next}

abbrev pub Place : Type 0
Place = List ℕ × List ℕ

-- what is tested as less is less
pub lower : (o : Ordering) → is_lt o ≡ true → o ≡ Less
lower Less h = refl
lower Equal h = cc
lower Greater h = cc

-- rows that are tested to rise do
pub in_order : (rows : List Row) → rises rows ≡ true → T (is_sorted row_cmp (map row_entry rows))
in_order rows h = subst T (sym h) tt

pub both : (a b : Bool) → T a → T b → T (a && b)
both true b p q = q
both false b p q = absurd p

holds : (b : Bool) → T b → b ≡ true
holds true p = refl
holds false p = absurd p

-- and those that do are tested to rise
pub tested_order : (rows : List Row) → T (is_sorted row_cmp (map row_entry rows)) → rises rows ≡ true
tested_order rows h = holds _ h

test_of : (b : Bool) → b ≡ true → T b
test_of b is = subst T (sym is) tt

below_more : (k : Place) (rows : List Row) (row : Row) → T (below_all row_cmp k (map row_entry rows)) → row_cmp k (row_place row) ≡ Less → T (below_all row_cmp k (map row_entry (rows ++ row ∷ [])))
below_more k [] row h lt = both (is_lt (row_cmp k (row_place row))) true (test_of _ (ap is_lt lt)) tt
below_more k (r ∷ rows) row h lt = both (is_lt (row_cmp k (row_place r))) _ (first _ _ h) (below_more k rows row (second _ _ h) lt)

-- what stands below a row stands below one above the last
below_next : (k : Place) (r : Row) (rows : List Row) (row : Row) → row_cmp k (row_place r) ≡ Less → T (below_all row_cmp k (map row_entry rows)) → is_over (last_or (Some r) rows) row ≡ true
    → row_cmp k (row_place row) ≡ Less
below_next k r [] row lt h over = row_cmp_total.trans k (row_place r) (row_place row) lt (lower (row_cmp (row_place r) (row_place row)) over)
below_next k r (s ∷ rows) row lt h over = below_next k s rows row (less (row_cmp k (row_place s)) (first _ _ h)) (second _ _ h) over

sorted_more : (r : Row) (rows : List Row) (row : Row) → T (is_sorted row_cmp (map row_entry (r ∷ rows))) → is_over (last_or (Some r) rows) row ≡ true
    → T (is_sorted row_cmp (map row_entry (r ∷ rows ++ row ∷ [])))
sorted_more r [] row h over = both (is_lt (row_cmp (row_place r) (row_place row)) && true) true (both (is_lt (row_cmp (row_place r) (row_place row))) true (test_of _ over) tt) tt
sorted_more r (s ∷ rows) row h over =
    let all : T (below_all row_cmp (row_place r) (map row_entry (s ∷ rows))) = first _ _ h in
    let next : T (is_lt (row_cmp (row_place r) (row_place s))) = first _ _ all in
    let rest : T (below_all row_cmp (row_place r) (map row_entry rows)) = second _ _ all in
    both (below_all row_cmp (row_place r) (map row_entry (s ∷ rows ++ row ∷ []))) _
    (below_more (row_place r) (s ∷ rows) row all (below_next (row_place r) s rows row (less (row_cmp (row_place r) (row_place s)) next) rest over))
    (sorted_more s rows row (second _ _ h) over)

-- rows with the next one more rise
pub rises_more : (rows : List Row) (row : Row) → rises rows ≡ true → is_next rows row ≡ true → rises (rows ++ row ∷ []) ≡ true
rises_more [] row h over = refl
rises_more (r ∷ rows) row h over = holds _ (sorted_more r rows row (in_order (r ∷ rows) h) over)

-- the last of rows with one more
pub last_more : (o : Option Row) (rows : List Row) (row : Row) → last_or o (rows ++ row ∷ []) ≡ Some row
last_more o [] row = refl
last_more o (r ∷ rows) row = last_more (Some r) rows row

last_behind : (o : Option Row) (xs : List Row) (y : Row) (ys : List Row) → last_or o (xs ++ y ∷ ys) ≡ last_or (Some y) ys
last_behind o [] y ys = refl
last_behind o (x ∷ xs) y ys = last_behind (Some x) xs y ys

-- the next row of those that are pending is the next of all
pub next_of_all : (written pending rows : List Row) (row : Row) → rows ≡ written ++ pending → (pending ≡ [] → rows ≡ []) → is_next pending row ≡ true → is_next rows row ≡ true
next_of_all written [] rows row are begun over = ap (λ (l : List Row). is_next l row) (begun refl)
next_of_all written (p ∷ pending) rows row are begun over = ap (λ (l : List Row). is_next l row) are ∙ ap (λ (o : Option Row). is_over o row) (last_behind None written p pending) ∙ over

above_each : (k : Place) (rows : List Row) → T (below_all row_cmp k (map row_entry rows)) → AllByRecursion (λ y. row_cmp k y ≡ Less) (map row_place rows)
above_each k [] h = tt
above_each k (r ∷ rows) h = (less (row_cmp k (row_place r)) (first _ _ h), above_each k rows (second _ _ h))

strictly : (rows : List Row) → T (is_sorted row_cmp (map row_entry rows)) → IsStrictlySortedBy row_cmp (map row_place rows)
unfolding IsStrictlySortedBy
strictly [] h = tt
strictly (r ∷ rows) h = (above_each (row_place r) rows (first _ _ h), strictly rows (second _ _ h))

-- rows that rise are in order, and rows in order rise
pub rises_sorted : (rows : List Row) → rises rows ≡ true → IsStrictlySortedBy row_cmp (map row_place rows)
rises_sorted rows risen = strictly rows (in_order rows risen)

below_each : (k : Place) (rows : List Row) → AllByRecursion (λ y. row_cmp k y ≡ Less) (map row_place rows) → T (below_all row_cmp k (map row_entry rows))
below_each k [] h = tt
below_each k (r ∷ rows) h = both (is_lt (row_cmp k (row_place r))) _ (test_of _ (ap is_lt h.0)) (below_each k rows h.1)

tested : (rows : List Row) → IsStrictlySortedBy row_cmp (map row_place rows) → T (is_sorted row_cmp (map row_entry rows))
unfolding IsStrictlySortedBy
tested [] h = tt
tested (r ∷ rows) h = both (below_all row_cmp (row_place r) (map row_entry rows)) _ (below_each (row_place r) rows h.0) (tested rows h.1)

pub sorted_rises : (rows : List Row) → IsStrictlySortedBy row_cmp (map row_place rows) → rises rows ≡ true
sorted_rises rows h = holds _ (tested rows h)

sorted_next : (rows : List Row) (row : Row) (more : List Row) → IsStrictlySortedBy row_cmp (map row_place (rows ++ row ∷ more)) → is_next rows row ≡ true
unfolding IsStrictlySortedBy
sorted_next [] row more h = refl
sorted_next (x ∷ []) row more h = ap is_lt h.0.0
sorted_next (x ∷ y ∷ rows) row more h = sorted_next (y ∷ rows) row more h.1

-- a row behind others in order stands above the last of them
pub rises_next : (rows : List Row) (row : Row) (more : List Row) → rises (rows ++ row ∷ more) ≡ true → is_next rows row ≡ true
rises_next rows row more h = sorted_next rows row more (rises_sorted (rows ++ row ∷ more) h)

-- and so above the last one that is pending
pub next_of_pending : (written pending rows : List Row) (row : Row) → rows ≡ written ++ pending → is_next rows row ≡ true → is_next pending row ≡ true
next_of_pending written [] rows row are h = refl
next_of_pending written (p ∷ ps) rows row are h = ap (λ (o : Option Row). is_over o row) (sym (ap (last_or None) are ∙ last_behind None written p ps)) ∙ h
