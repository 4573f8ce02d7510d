-- Rows in order: what is found in them, and lists behind one another.
use Rattle.std.proofs.Common.{◌≡◌, ℕ, Bool, true, false, T, List, [], ◌∷◌, ◌++◌, map, Option, refl, sym, ap, ◌∙◌, subst}
use Rattle.std.specs.declared.cmp.Ordering.{Ordering}
use Rattle.std.specs.declared.cmp.Ordering.TheVariants.{Less, Equal, Greater}
use Rattle.std.specs.Option.{option_or}
use Rattle.std.specs.Ordering.{eq_by_cmp, is_lt, is_eq, ordering_reverse}
use Rattle.std.specs.List.{AllByRecursion}
use Rattle.std.specs.List.Sorted.{IsStrictlySortedBy}
use Rattle.std.specs.FinMap.{find, is_sorted, get, entries, entries_sorted, get-from_entries}
use Rattle.std.specs.FinMap.Entries.{below_all}
use Rattle.std.proofs.lemmas.List.{map-append}
use Rattle.std.proofs.Math.Facts.{and_yes, yes_and}
use Rattle.rdf_types.specs.declared.records.Row.{Row}
use Rattle.rdf_types.specs.Places.{row_cmp, row_cmp_total}
use Rattle.rdf_model.specs.Volumes.{Rows, shown}
use Rattle.rdf_model.specs.Rows.{row_place, row_entry, list_of}
use Rattle.rdf_model.specs.RowLaws.{less, rows_listed}
use Rattle.keyed_overlay.specs.OverlayLaws.{find_behind}
use Rattle.keyed_overlay.specs.Merging.{rises}

-- the value at the place among rows
abbrev pub value_in : List ℕ × List ℕ → List Row → Option (List ℕ)
value_in q rows = find row_cmp q (map row_entry rows)

-- all rows stand above the place
abbrev pub AllAbove : List ℕ × List ℕ → List Row → Type 0
AllAbove p rows = T (below_all row_cmp p (map row_entry rows))

pub is_less : (r : Ordering) → r ≡ Less → T (is_lt r)
is_less r e = subst (λ s. T (is_lt s)) (sym e) tt

pub value_behind : (q : List ℕ × List ℕ) (xs ys : List Row) → value_in q (xs ++ ys) ≡ option_or (value_in q xs) (value_in q ys)
value_behind q xs ys = ap (find row_cmp q) (map-append row_entry xs ys) ∙ find_behind q (map row_entry xs) (map row_entry ys)

-- what stands above a place stands above each lower one
pub above_lower : (a b : List ℕ × List ℕ) (rows : List Row) → row_cmp a b ≡ Less → AllAbove b rows → AllAbove a rows
above_lower a b [] h g = tt
above_lower a b (r ∷ rows) h g =
    yes_and _ _ (is_less _ (row_cmp_total.trans a b (row_place r) h (less _ (and_yes _ _ g).0))) (above_lower a b rows h (and_yes _ _ g).1)

pub above_behind : (p : List ℕ × List ℕ) (xs ys : List Row) → AllAbove p xs → AllAbove p ys → AllAbove p (xs ++ ys)
above_behind p [] ys h g = g
above_behind p (x ∷ xs) ys h g = yes_and _ _ (and_yes _ _ h).0 (above_behind p xs ys (and_yes _ _ h).1 g)

-- a place that is not below another one is that one, or above it
pub not_below : (p q : List ℕ × List ℕ) → is_lt (row_cmp p q) ≡ false → eq_by_cmp row_cmp p q ≡ false → row_cmp q p ≡ Less
not_below p q =
    elim (row_cmp p q) as (λ r. row_cmp p q ≡ r → is_lt r ≡ false → is_eq r ≡ false → row_cmp q p ≡ Less) [
      | Less ↦ λ e h g. cc
      | Equal ↦ λ e h g. cc
      | Greater ↦ λ e h g. row_cmp_total.antisymm q p ∙ ap ordering_reverse e
    ] refl

-- of rows that rise, so do the first ones
above_front : (p : List ℕ × List ℕ) (xs ys : List Row) → AllAbove p (xs ++ ys) → AllAbove p xs
above_front p [] ys h = tt
above_front p (x ∷ xs) ys h = yes_and _ _ (and_yes _ _ h).0 (above_front p xs ys (and_yes _ _ h).1)

pub rises_front : (xs ys : List Row) → T (rises (xs ++ ys)) → T (rises xs)
rises_front [] ys h = tt
rises_front (x ∷ xs) ys h = yes_and _ _ (above_front (row_place x) xs ys (and_yes _ _ h).0) (rises_front xs ys (and_yes _ _ h).1)

pub true_is : (b : Bool) → T b → b ≡ true
true_is true h = refl
true_is false h = absurd h

there : (es : List ((List ℕ × List ℕ) × List ℕ)) → map row_entry (map (λ e. record { file = e.0.0; key = e.0.1; value = e.1 }) es) ≡ es
there [] = refl
there (e ∷ es) = ap (λ xs. e ∷ xs) (there es)

-- the rows of a map rise
pub list_rises : (m : Rows) → T (rises (list_of m))
list_rises m = subst (λ es. T (is_sorted row_cmp es)) (sym (there (entries m))) (entries_sorted m)

-- and have its values
pub list_values : (m : Rows) (q : List ℕ × List ℕ) → value_in q (list_of m) ≡ find row_cmp q (entries m)
list_values m q = ap (find row_cmp q) (there (entries m))

-- ---- rows whose places rise strictly

above_each : (p : List ℕ × List ℕ) (rows : List Row) → AllByRecursion (λ y. row_cmp p y ≡ Less) (map row_place rows) → AllAbove p rows
above_each p [] h = tt
above_each p (r ∷ rows) h = yes_and _ _ (is_less _ h.0) (above_each p rows h.1)

each_above : (p : List ℕ × List ℕ) (rows : List Row) → AllAbove p rows → AllByRecursion (λ y. row_cmp p y ≡ Less) (map row_place rows)
each_above p [] h = tt
each_above p (r ∷ rows) h = (less _ (and_yes _ _ h).0, each_above p rows (and_yes _ _ h).1)

places_rise : (rows : List Row) → IsStrictlySortedBy row_cmp (map row_place rows) → T (rises rows)
unfolding IsStrictlySortedBy
places_rise [] h = tt
places_rise (r ∷ rows) h = yes_and _ _ (above_each (row_place r) rows h.0) (places_rise rows h.1)

rise_places : (rows : List Row) → T (rises rows) → IsStrictlySortedBy row_cmp (map row_place rows)
unfolding IsStrictlySortedBy
rise_places [] h = tt
rise_places (r ∷ rows) h = (each_above (row_place r) rows (and_yes _ _ h).0, rise_places rows (and_yes _ _ h).1)

pub rises_if : (rows : List Row) → IsStrictlySortedBy row_cmp (map row_place rows) → rises rows ≡ true
rises_if rows h = true_is _ (places_rise rows h)

pub rises_then : (rows : List Row) → rises rows ≡ true → IsStrictlySortedBy row_cmp (map row_place rows)
rises_then rows h = rise_places rows (subst T (sym h) tt)

-- rows that rise are those of the map that has their values
pub rows_of_map : (m : Rows) (rows : List Row) → T (rises rows) → ((q : List ℕ × List ℕ) → value_in q rows ≡ get m q) → rows ≡ list_of m
rows_of_map m rows h same =
    rows_listed 0 (shown m) rows m
    (record { ordered = rise_places rows h; exact = λ q on. get-from_entries row_cmp_total (map row_entry rows) (q.file, q.key) ∙ same (q.file, q.key) }) (λ q on. refl)

pub list_of_rises : (m : Rows) → rises (list_of m) ≡ true
list_of_rises m = true_is _ (list_rises m)
