-- The rows of a volume, by the last image of each place.
use Rattle.std.proofs.Common.{◌≡◌, ℕ, Bool, true, false, cond, ◌==◌, List, [], ◌∷◌, Option, Some, None, Result, Ok, Err, IfOk, T, Vec, Global, filter_map, refl, sym, ap, ◌∙◌, subst}
use Rattle.std.specs.Ordering.{nat_cmp}
use Rattle.std.specs.List.{cons_option}
use Rattle.std.specs.FinSet as set
use Rattle.std.specs.FinMap as map
use Rattle.std.specs.FinMap.Entries.{below_all}
use Rattle.rdf_types.specs.declared.records.RecKey.{RecKey}
use Rattle.rdf_types.specs.declared.records.Record.{Record}
use Rattle.rdf_types.specs.declared.records.Row.{Row}
use Rattle.rdf_types.specs.Places.{place_cmp, same_place, same_place-is}
use Rattle.rdf_model.specs.Contents.{nothing, held}
use Rattle.rdf_model.specs.Trail.{raw}
use Rattle.rdf_model.specs.Rows.{as_row, rows_on, row_map, ListsVolume}
use Rattle.rdf_model.specs.RowLaws.{rows_on-lists, rows_listed}
use Rattle.rdf_core.specs.Rows.{AreRowsOf}
use Rattle.primary_machine.specs.declared.places.Last.{Last}
use Rattle.primary_machine.specs.Kept.{Lasts, value_of, AreKept, row_at, rows_in}
use Rattle.active_txns.specs.KeyLaws.{less_apart}
use Rattle.std.proofs.Math.Facts.{and_yes, yes_and}

abbrev with_key : RecKey → Option (List ℕ) → Option (RecKey × List ℕ)
with_key k None = None
with_key k (Some value) = Some (k, value)

-- the values that stand, with their places
abbrev values_of : List (RecKey × Last) → List (RecKey × List ℕ)
values_of es = filter_map (λ e. with_key e.0 e.1.value) es

below_values : (k : RecKey) (es : List (RecKey × Last)) → T (below_all place_cmp k es) → T (below_all place_cmp k (values_of es))
below_values k [] h = tt
below_values k (e ∷ es) h = by e.1.value (below_values k es (and_yes _ _ h).1)
  where
    by : (o : Option (List ℕ)) → T (below_all place_cmp k (values_of es)) → T (below_all place_cmp k (cons_option (with_key e.0 o) (values_of es)))
    by None rest = rest
    by (Some value) rest = yes_and _ _ (and_yes _ _ h).0 rest

sorted_values : (es : List (RecKey × Last)) → T (map.is_sorted place_cmp es) → T (map.is_sorted place_cmp (values_of es))
sorted_values [] h = tt
sorted_values (e ∷ es) h = by e.1.value (sorted_values es (and_yes _ _ h).1)
  where
    by : (o : Option (List ℕ)) → T (map.is_sorted place_cmp (values_of es)) → T (map.is_sorted place_cmp (cons_option (with_key e.0 o) (values_of es)))
    by None rest = rest
    by (Some value) rest = yes_and _ _ (below_values e.0 es (and_yes _ _ h).0) rest

not_below : (k : RecKey) (es : List (RecKey × Last)) → T (below_all place_cmp k es) → map.find place_cmp k es ≡ None
not_below k [] h = refl
not_below k (e ∷ es) h = ap (λ m. cond m (Some e.1) (map.find place_cmp k es)) (less_apart (place_cmp k e.0) (and_yes _ _ h).0) ∙ not_below k es (and_yes _ _ h).1

find_values : (es : List (RecKey × Last)) (q : RecKey) → T (map.is_sorted place_cmp es) → map.find place_cmp q (values_of es) ≡ value_of (map.find place_cmp q es)
find_values [] q h = refl
find_values (e ∷ es) q h = by e.1.value (same_place q e.0) refl refl (find_values es q (and_yes _ _ h).1)
  where
    by_test : (b : Bool) (value : List ℕ) → e.1.value ≡ Some value → map.find place_cmp q (values_of es) ≡ value_of (map.find place_cmp q es) →
        cond b (Some value) (map.find place_cmp q (values_of es)) ≡ value_of (cond b (Some e.1) (map.find place_cmp q es))
    by_test true value v rest = sym v
    by_test false value v rest = rest

    by : (o : Option (List ℕ)) (m : Bool) → e.1.value ≡ o → same_place q e.0 ≡ m → map.find place_cmp q (values_of es) ≡ value_of (map.find place_cmp q es) →
        map.find place_cmp q (cons_option (with_key e.0 o) (values_of es)) ≡ value_of (cond (same_place q e.0) (Some e.1) (map.find place_cmp q es))
    by None false v s rest = rest ∙ sym (ap (λ b. value_of (cond b (Some e.1) (map.find place_cmp q es))) s)
    by None true v s rest =
        rest ∙ ap value_of (ap (λ p. map.find place_cmp p es) (same_place-is q e.0 s) ∙ not_below e.0 es (and_yes _ _ h).0) ∙ sym v
        ∙ sym (ap (λ b. value_of (cond b (Some e.1) (map.find place_cmp q es))) s)
    by (Some value) m v s rest = by_test (same_place q e.0) value v rest

rows_same : (vol : ℕ) (es : List (RecKey × Last)) → rows_on vol (values_of es) ≡ rows_in vol es
rows_same vol [] = refl
rows_same vol (e ∷ es) = by e.1.value (e.0.vol == vol) (rows_same vol es)
  where
    by : (o : Option (List ℕ)) (m : Bool) → rows_on vol (values_of es) ≡ rows_in vol es →
        rows_on vol (cons_option (with_key e.0 o) (values_of es)) ≡ cons_option (cond (e.0.vol == vol) (row_at e.0 o) None) (rows_in vol es)
    by None m rest = rest ∙ none (e.0.vol == vol)
      where
        none : (b : Bool) → rows_in vol es ≡ cons_option (cond b None None) (rows_in vol es)
        none true = refl
        none false = refl
    by (Some value) m rest = ap (cons_option (cond (e.0.vol == vol) (Some (as_row (e.0, value))) None)) rest

module _ (vol : ℕ) (trail : List Record) (lasts : Lasts) (numbers : set.FinSet nat_cmp) (kept : AreKept trail lasts numbers) where
  abbrev es : List (RecKey × Last)
  es = map.entries lasts

  abbrev files : map.FinMap place_cmp (List ℕ)
  files = map.from_sorted {R = place_cmp} (values_of es)

  shows : (q : RecKey) → map.get files q ≡ raw nothing trail q
  shows q =
      map.get-from_sorted place_cmp (values_of es) q (sorted_values es (map.entries_sorted lasts))
      ∙ find_values es q (map.entries_sorted lasts) ∙ ap value_of (sym (map.get-entries lasts q)) ∙ kept.values q

  abbrev rows : List Row
  rows = rows_in vol es

  listed_is : rows_on vol (map.entries files) ≡ rows
  listed_is = ap (rows_on vol) (map.entries-from_sorted place_cmp (values_of es) (sorted_values es (map.entries_sorted lasts))) ∙ rows_same vol es

  lists : ListsVolume vol (held files) rows
  lists = subst (ListsVolume vol (held files)) listed_is (rows_on-lists vol files)

  pub are_rows : AreRowsOf vol (raw nothing trail) rows
  are_rows = record { map_of = row_map rows; on = λ q e. lists.exact q e ∙ shows q; listed = rows_listed vol (held files) rows (row_map rows) lists lists.exact }

-- the rows that a reader made
pub made_rows : {E : Type 0} (r : Result (Vec Row Global) E) (vol : ℕ) (trail now : List Record) (lasts : Lasts) (numbers : set.FinSet nat_cmp) → trail ≡ now → AreKept trail lasts numbers →
    IfOk r (λ rows. rows.items ≡ rows_in vol (map.entries lasts)) → IfOk r (λ rows. AreRowsOf vol (raw nothing now) rows.items)
made_rows (Ok v) vol trail now lasts numbers e kept ok =
    subst (λ (l : List Record). AreRowsOf vol (raw nothing l) v.items) e (subst (AreRowsOf vol (raw nothing trail)) (sym ok) (are_rows vol trail lasts numbers kept))
made_rows (Err x) vol trail now lasts numbers e kept ok = tt
