-- What rows from below come out as, with the set rows among them.
use Rattle.std.proofs.Common.{◌≡◌, ℕ, Bool, true, false, cond, ◌||◌, T, List, [], ◌∷◌, ◌++◌, map, Option, Some, None, is_some, refl, sym, ap, ◌∙◌, subst, append_assoc}
use Rattle.std.specs.declared.cmp.Ordering.TheVariants.{Less, Equal, Greater}
use Rattle.std.specs.Option.{option_or}
use Rattle.std.specs.declared.cmp.Ordering.{Ordering}
use Rattle.std.specs.Ordering.{eq_by_cmp, is_lt, is_eq, ordering_reverse}
use Rattle.std.specs.FinMap.{get, get-entries, get-from_entries, contains_key}
use Rattle.std.proofs.Math.Facts.{and_yes, yes_and}
use Rattle.rdf_types.specs.declared.records.Row.{Row}
use Rattle.rdf_types.specs.Places.{row_cmp, row_cmp_total, row_cmp_exact}
use Rattle.rdf_model.specs.Rows.{row_place, row_entry, row_map, list_of}
use Rattle.rdf_model.specs.RowLaws.{less}
use Rattle.keyed_overlay.specs.Overlays.{Laid, is_touched, overlaid}
use Rattle.keyed_overlay.specs.OverlayLaws.{get_overlaid}
use Rattle.keyed_overlay.specs.Merging.{rises, is_above, rows_upto, rows_from, untouched, passed, behind, HasPassed}
use Rattle.keyed_overlay.proofs.ListLemmas.{value_in, AllAbove, is_less, value_behind, above_lower, above_behind, not_below, rises_front, true_is, rows_of_map, list_rises, list_values}

-- only places that were touched have rows to come
abbrev pub AreTouched : Laid → List Row → Type 0
AreTouched laid rows = (q : List ℕ × List ℕ) → is_touched laid q ≡ false → value_in q rows ≡ None

-- ---- the rows up to a place, and those behind them

pub all_rows : (p : List ℕ × List ℕ) (rows : List Row) → rows_upto p rows ++ rows_from p rows ≡ rows
all_rows p [] = refl
all_rows p (r ∷ rows) =
    elim (is_above p r) as (λ b. cond b [] (r ∷ rows_upto p rows) ++ cond b (r ∷ rows) (rows_from p rows) ≡ r ∷ rows) [
      | true ↦ refl
      | false ↦ ap (λ xs. r ∷ xs) (all_rows p rows)
    ]

pub upto_above : (p q : List ℕ × List ℕ) (rows : List Row) → AllAbove q rows → AllAbove q (rows_upto p rows)
upto_above p q [] h = tt
upto_above p q (r ∷ rows) h =
    elim (is_above p r) as (λ b. AllAbove q (cond b [] (r ∷ rows_upto p rows))) [
      | true ↦ tt
      | false ↦ yes_and _ _ (and_yes _ _ h).0 (upto_above p q rows (and_yes _ _ h).1)
    ]

pub from_above : (p q : List ℕ × List ℕ) (rows : List Row) → AllAbove q rows → AllAbove q (rows_from p rows)
from_above p q [] h = tt
from_above p q (r ∷ rows) h =
    elim (is_above p r) as (λ b. AllAbove q (cond b (r ∷ rows) (rows_from p rows))) [
      | true ↦ h
      | false ↦ from_above p q rows (and_yes _ _ h).1
    ]

-- of rows that rise, those behind stand above the place
pub from_place : (p : List ℕ × List ℕ) (rows : List Row) → T (rises rows) → AllAbove p (rows_from p rows)
from_place p [] h = tt
from_place p (r ∷ rows) h =
    elim (is_above p r) as (λ b. is_above p r ≡ b → AllAbove p (cond b (r ∷ rows) (rows_from p rows))) [
      | true ↦ λ e. yes_and _ _ (subst T (sym e) tt) (above_lower p (row_place r) rows (less _ (subst T (sym e) tt)) (and_yes _ _ h).0)
      | false ↦ λ e. from_place p rows (and_yes _ _ h).1
    ] refl

pub from_rises : (p : List ℕ × List ℕ) (rows : List Row) → T (rises rows) → T (rises (rows_from p rows))
from_rises p [] h = tt
from_rises p (r ∷ rows) h =
    elim (is_above p r) as (λ b. T (rises (cond b (r ∷ rows) (rows_from p rows)))) [
      | true ↦ h
      | false ↦ from_rises p rows (and_yes _ _ h).1
    ]

none_behind : {A : Type 0} (x y : Option A) → option_or x y ≡ None → y ≡ None
none_behind None y e = e
none_behind (Some x) y e = cc

pub from_touched : (laid : Laid) (p : List ℕ × List ℕ) (rows : List Row) → AreTouched laid rows → AreTouched laid (rows_from p rows)
from_touched laid p rows h q not =
    none_behind (value_in q (rows_upto p rows)) (value_in q (rows_from p rows)) (sym (value_behind q (rows_upto p rows) (rows_from p rows)) ∙ ap (value_in q) (all_rows p rows) ∙ h q not)

equal_is : (o : Ordering) → is_eq o ≡ true → o ≡ Equal
equal_is Less e = cc
equal_is Equal e = refl
equal_is Greater e = cc

-- a place at which no row is found is not that of the first one, and none is found in the others
not_found : (q : List ℕ × List ℕ) (r : Row) (rows : List Row) → value_in q (r ∷ rows) ≡ None → eq_by_cmp row_cmp q (row_place r) ≡ false
not_found q r rows =
    elim (eq_by_cmp row_cmp q (row_place r)) as (λ b. cond b (Some r.value) (value_in q rows) ≡ None → b ≡ false) [
      | true ↦ λ e. cc
      | false ↦ λ e. refl
    ]

none_later : (q : List ℕ × List ℕ) (r : Row) (rows : List Row) → value_in q (r ∷ rows) ≡ None → value_in q rows ≡ None
none_later q r rows =
    elim (eq_by_cmp row_cmp q (row_place r)) as (λ b. cond b (Some r.value) (value_in q rows) ≡ None → value_in q rows ≡ None) [
      | true ↦ λ e. cc
      | false ↦ λ e. e
    ]

-- ---- what comes out, with the rows to come behind it

abbrev merged : Laid → List Row → List Row → List Row
merged laid to_come [] = to_come
merged laid to_come (r ∷ rows) = rows_upto (row_place r) to_come ++ (untouched laid r ++ merged laid (rows_from (row_place r) to_come) rows)

merged_is : (laid : Laid) (to_come rows : List Row) → passed laid to_come rows ++ behind to_come rows ≡ merged laid to_come rows
merged_is laid to_come [] = refl
merged_is laid to_come (r ∷ rows) =
    append_assoc (rows_upto (row_place r) to_come ++ untouched laid r) (passed laid (rows_from (row_place r) to_come) rows) (behind (rows_from (row_place r) to_come) rows)
    ∙ append_assoc (rows_upto (row_place r) to_come) (untouched laid r) (passed laid (rows_from (row_place r) to_come) rows ++ behind (rows_from (row_place r) to_come) rows)
    ∙ ap (λ xs. rows_upto (row_place r) to_come ++ (untouched laid r ++ xs)) (merged_is laid (rows_from (row_place r) to_come) rows)

untouched_above : (laid : Laid) (q : List ℕ × List ℕ) (r : Row) → T (is_lt (row_cmp q (row_place r))) → AllAbove q (untouched laid r)
untouched_above laid q r h =
    elim (is_touched laid (row_place r)) as (λ b. AllAbove q (cond b [] (r ∷ []))) [
      | true ↦ tt
      | false ↦ yes_and _ _ h tt
    ]

-- above a place stands what comes of rows above it
merged_above : (laid : Laid) (q : List ℕ × List ℕ) (to_come rows : List Row) → AllAbove q to_come → AllAbove q rows → AllAbove q (merged laid to_come rows)
merged_above laid q to_come [] h g = h
merged_above laid q to_come (r ∷ rows) h g =
    above_behind q (rows_upto (row_place r) to_come) (untouched laid r ++ merged laid (rows_from (row_place r) to_come) rows) (upto_above (row_place r) q to_come h)
    (above_behind q (untouched laid r) (merged laid (rows_from (row_place r) to_come) rows) (untouched_above laid q r (and_yes _ _ g).0)
    (merged_above laid q (rows_from (row_place r) to_come) rows (from_above (row_place r) q to_come h) (and_yes _ _ g).1))

-- a place that is not below another has above it what stands above the other
above_same : (p q : List ℕ × List ℕ) (rows : List Row) → is_lt (row_cmp p q) ≡ false → AllAbove p rows → AllAbove q rows
above_same p q rows =
    elim (row_cmp p q) as (λ o. row_cmp p q ≡ o → is_lt o ≡ false → AllAbove p rows → AllAbove q rows) [
      | Less ↦ λ e h g. cc
      | Equal ↦ λ e h g. subst (λ x. AllAbove x rows) (row_cmp_exact p q e) g
      | Greater ↦ λ e h g. above_lower q p rows (row_cmp_total.antisymm q p ∙ ap ordering_reverse e) g
    ] refl

module _ (laid : Laid) (r : Row) (later : List Row) (over : AllAbove (row_place r) later) (later_rises : T (rises later)) where
  -- the row itself, if its place was not touched, and what stands above it
  tail_rises : T (rises (untouched laid r ++ later))
  tail_rises =
      elim (is_touched laid (row_place r)) as (λ b. T (rises (cond b [] (r ∷ []) ++ later))) [
        | true ↦ later_rises
        | false ↦ yes_and _ _ over later_rises
      ]

  tail_above : (x : Row) → is_above (row_place r) x ≡ false → (is_touched laid (row_place r) ≡ false → eq_by_cmp row_cmp (row_place r) (row_place x) ≡ false) →
      AllAbove (row_place x) (untouched laid r ++ later)
  tail_above x low other =
      elim (is_touched laid (row_place r)) as (λ b. is_touched laid (row_place r) ≡ b → AllAbove (row_place x) (cond b [] (r ∷ []) ++ later)) [
        | true ↦ λ e. above_same (row_place r) (row_place x) later low over
        | false ↦ λ e. yes_and _ _ (is_less _ (not_below (row_place r) (row_place x) low (other e))) (above_same (row_place r) (row_place x) later low over)
      ] refl

  upto_rises : (to_come : List Row) → T (rises to_come) → (is_touched laid (row_place r) ≡ false → value_in (row_place r) to_come ≡ None) →
      T (rises (rows_upto (row_place r) to_come ++ (untouched laid r ++ later)))
  upto_rises [] h none = tail_rises
  upto_rises (x ∷ xs) h none =
      elim (is_above (row_place r) x) as (λ b. is_above (row_place r) x ≡ b → T (rises (cond b [] (x ∷ rows_upto (row_place r) xs) ++ (untouched laid r ++ later)))) [
        | true ↦ λ e. tail_rises
        | false ↦ λ e. yes_and _ _
            (above_behind (row_place x) (rows_upto (row_place r) xs) (untouched laid r ++ later) (upto_above (row_place r) (row_place x) xs (and_yes _ _ h).0)
            (tail_above x e (λ free. not_found (row_place r) x xs (none free))))
            (upto_rises xs (and_yes _ _ h).1 (λ free. none_later (row_place r) x xs (none free)))
      ] refl

merged_rises : (laid : Laid) (to_come rows : List Row) → T (rises to_come) → T (rises rows) → AreTouched laid to_come → T (rises (merged laid to_come rows))
merged_rises laid to_come [] h g touched = h
merged_rises laid to_come (r ∷ rows) h g touched =
    upto_rises laid r (merged laid (rows_from (row_place r) to_come) rows)
    (merged_above laid (row_place r) (rows_from (row_place r) to_come) rows (from_place (row_place r) to_come h) (and_yes _ _ g).0)
    (merged_rises laid (rows_from (row_place r) to_come) rows (from_rises (row_place r) to_come h) (and_yes _ _ g).1 (from_touched laid (row_place r) to_come touched))
    to_come h (touched (row_place r))

-- ---- what stands at each place in it

or_assoc : {A : Type 0} (x y z : Option A) → option_or (option_or x y) z ≡ option_or x (option_or y z)
or_assoc None y z = refl
or_assoc (Some x) y z = refl

or_none : {A : Type 0} (x : Option A) → option_or x None ≡ x
or_none None = refl
or_none (Some x) = refl

same_touched : (laid : Laid) (p q : List ℕ × List ℕ) → eq_by_cmp row_cmp q p ≡ true → is_touched laid p ≡ is_touched laid q
same_touched laid p q e = ap (is_touched laid) (sym (row_cmp_exact q p (equal_is _ e)))

untouched_value : (laid : Laid) (q : List ℕ × List ℕ) (r : Row) →
    value_in q (untouched laid r) ≡ cond (is_touched laid (row_place r)) None (cond (eq_by_cmp row_cmp q (row_place r)) (Some r.value) None)
untouched_value laid q r =
    elim (is_touched laid (row_place r)) as (λ b. value_in q (cond b [] (r ∷ [])) ≡ cond b None (cond (eq_by_cmp row_cmp q (row_place r)) (Some r.value) None)) [ true ↦ refl | false ↦ refl ]

-- the place was touched or not, the row's was, and they are one or not
one_case : (touched own same : Bool) (x y : Option (List ℕ)) (v : List ℕ) → (same ≡ true → own ≡ touched) → (touched ≡ false → x ≡ None) →
    option_or (cond own None (cond same (Some v) None)) (option_or x (cond touched None y)) ≡ option_or x (cond touched None (cond same (Some v) y))
one_case true true same x y v here none = refl
one_case true false true x y v here none = let never : false ≡ true = here refl in cc
one_case true false false x y v here none = refl
one_case false true true x y v here none = let never : true ≡ false = here refl in cc
one_case false true false x y v here none = refl
one_case false false true x y v here none = ap (λ o. option_or o (Some v)) (sym (none refl))
one_case false false false x y v here none = refl

-- the row itself, and what stands later at the place
one_value : (laid : Laid) (q : List ℕ × List ℕ) (r : Row) (x y : Option (List ℕ)) → (is_touched laid q ≡ false → x ≡ None) →
    option_or (value_in q (untouched laid r)) (option_or x (cond (is_touched laid q) None y))
    ≡ option_or x (cond (is_touched laid q) None (cond (eq_by_cmp row_cmp q (row_place r)) (Some r.value) y))
one_value laid q r x y none =
    ap (λ o. option_or o (option_or x (cond (is_touched laid q) None y))) (untouched_value laid q r)
    ∙ one_case (is_touched laid q) (is_touched laid (row_place r)) (eq_by_cmp row_cmp q (row_place r)) x y r.value (same_touched laid (row_place r) q) none

without_rows : (b : Bool) (x : Option (List ℕ)) → x ≡ option_or x (cond b None None)
without_rows true x = sym (or_none x)
without_rows false x = sym (or_none x)

merged_values : (laid : Laid) (to_come rows : List Row) → AreTouched laid to_come → (q : List ℕ × List ℕ) →
    value_in q (merged laid to_come rows) ≡ option_or (value_in q to_come) (cond (is_touched laid q) None (value_in q rows))
merged_values laid to_come [] touched q = without_rows (is_touched laid q) (value_in q to_come)
merged_values laid to_come (r ∷ rows) touched q =
    let upto = rows_upto (row_place r) to_come in
    let from = rows_from (row_place r) to_come in
    let below = cond (is_touched laid q) None (value_in q (r ∷ rows)) in
    value_behind q upto (untouched laid r ++ merged laid from rows)
    ∙ ap (option_or (value_in q upto)) (value_behind q (untouched laid r) (merged laid from rows)
    ∙ ap (option_or (value_in q (untouched laid r))) (merged_values laid from rows (from_touched laid (row_place r) to_come touched) q)
    ∙ one_value laid q r (value_in q from) (value_in q rows) (from_touched laid (row_place r) to_come touched q))
    ∙ sym (or_assoc (value_in q upto) (value_in q from) below)
    ∙ ap (λ x. option_or x below) (sym (value_behind q upto from) ∙ ap (value_in q) (all_rows (row_place r) to_come))

-- ---- from the beginning

first_values : (laid : Laid) (q : List ℕ × List ℕ) → value_in q (list_of laid.set) ≡ get laid.set q
first_values laid q = list_values laid.set q ∙ sym (get-entries laid.set q)

not_set : (s : Option (List ℕ)) (e : Bool) → (is_some s || e) ≡ false → s ≡ None
not_set None e h = refl
not_set (Some v) e h = cc

first_touched : (laid : Laid) → AreTouched laid (list_of laid.set)
first_touched laid q h = first_values laid q ∙ not_set (get laid.set q) (contains_key laid.emptied q) h

set_or_not : (s : Option (List ℕ)) (e : Bool) (y : Option (List ℕ)) → option_or s (cond (is_some s || e) None y) ≡ option_or s (cond e None y)
set_or_not None e y = refl
set_or_not (Some v) e y = refl

-- all rows that rise come out as what the overlay makes of them
pub all_merged : (laid : Laid) (rows : List Row) → T (rises rows) → passed laid (list_of laid.set) rows ++ behind (list_of laid.set) rows ≡ list_of (overlaid (row_map rows) laid)
all_merged laid rows h =
    merged_is laid (list_of laid.set) rows
    ∙ rows_of_map (overlaid (row_map rows) laid) (merged laid (list_of laid.set) rows) (merged_rises laid (list_of laid.set) rows (list_rises laid.set) h (first_touched laid)) (λ q.
    merged_values laid (list_of laid.set) rows (first_touched laid) q
    ∙ ap (λ x. option_or x (cond (is_touched laid q) None (value_in q rows))) (first_values laid q)
    ∙ set_or_not (get laid.set q) (contains_key laid.emptied q) (value_in q rows)
    ∙ ap (λ x. option_or (get laid.set q) (cond (contains_key laid.emptied q) None x)) (sym (get-from_entries row_cmp_total (map row_entry rows) q))
    ∙ sym (get_overlaid (row_map rows) laid q))

-- ---- one list of rows behind another

pub behind_more : (to_come xs ys : List Row) → behind to_come (xs ++ ys) ≡ behind (behind to_come xs) ys
behind_more to_come [] ys = refl
behind_more to_come (x ∷ xs) ys = behind_more (rows_from (row_place x) to_come) xs ys

pub passed_more : (laid : Laid) (to_come xs ys : List Row) → passed laid to_come (xs ++ ys) ≡ passed laid to_come xs ++ passed laid (behind to_come xs) ys
passed_more laid to_come [] ys = refl
passed_more laid to_come (x ∷ xs) ys =
    ap (λ rows. (rows_upto (row_place x) to_come ++ untouched laid x) ++ rows) (passed_more laid (rows_from (row_place x) to_come) xs ys)
    ∙ sym (append_assoc (rows_upto (row_place x) to_come ++ untouched laid x) (passed laid (rows_from (row_place x) to_come) xs) (passed laid (behind (rows_from (row_place x) to_come) xs) ys))

-- what a block more comes out as
pub passed_on : (laid : Laid) (before out to_come block : List Row) → HasPassed laid before out to_come →
    HasPassed laid (before ++ block) (out ++ passed laid to_come block) (behind to_come block)
passed_on laid before out to_come block so_far = record {
  out_is = (λ i. so_far.out_is i ++ passed laid (so_far.to_come_is i) block) ∙ sym (passed_more laid (list_of laid.set) before block);
  to_come_is = ap (λ rows. behind rows block) so_far.to_come_is ∙ sym (behind_more (list_of laid.set) before block);
}

-- what came out so far, with the rows to come
pub passed_all : (laid : Laid) (before out to_come : List Row) → HasPassed laid before out to_come → T (rises before) → out ++ to_come ≡ list_of (overlaid (row_map before) laid)
passed_all laid before out to_come so_far h = (λ i. so_far.out_is i ++ so_far.to_come_is i) ∙ all_merged laid before h

pub merged_upto : (laid : Laid) (before out to_come more : List Row) → HasPassed laid before out to_come → rises (before ++ more) ≡ true →
    out ++ passed laid to_come more ++ behind to_come more ≡ list_of (overlaid (row_map (before ++ more)) laid)
merged_upto laid before out to_come more so_far h =
    passed_all laid (before ++ more) (out ++ passed laid to_come more) (behind to_come more) (passed_on laid before out to_come more so_far) (subst T (sym h) tt)

-- what came out so far rises
pub passed_rises : (laid : Laid) (before out to_come more : List Row) → HasPassed laid before out to_come → rises (before ++ more) ≡ true → rises out ≡ true
passed_rises laid before out to_come more so_far h =
    true_is _ (rises_front out to_come (subst (λ rows. T (rises rows)) (sym (passed_all laid before out to_come so_far (rises_front before more (subst T (sym h) tt))))
    (list_rises (overlaid (row_map before) laid))))

-- a block that passed
pub passed_block : (laid : Laid) (before out to_come block rows now : List Row) → rows ≡ passed laid to_come block → now ≡ behind to_come block → HasPassed laid before out to_come →
    HasPassed laid (before ++ block) (out ++ rows) now
passed_block laid before out to_come block rows now rows_is now_is so_far = record {
  out_is = ap (λ xs. out ++ xs) rows_is ∙ (passed_on laid before out to_come block so_far).out_is;
  to_come_is = now_is ∙ (passed_on laid before out to_come block so_far).to_come_is;
}

-- the beginning
pub none_passed : (laid : Laid) (to_come : List Row) → to_come ≡ list_of laid.set → HasPassed laid [] [] to_come
none_passed laid to_come is = record { out_is = refl; to_come_is = is }
