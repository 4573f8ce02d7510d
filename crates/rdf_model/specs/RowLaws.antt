-- A volume's rows as a list in order.
use Rattle.std.proofs.Common.{◌≡◌, ℕ, Bool, true, false, cond, ◌&&◌, ◌==◌, List, [], ◌∷◌, Some, None, map, T, refl, sym, ap, ◌∙◌, subst}
use Rattle.std.specs.declared.cmp.Ordering.{Ordering}
use Rattle.std.specs.declared.cmp.Ordering.TheVariants.{Less, Equal, Greater}
use Rattle.std.specs.Ordering.{nat_cmp, is_lt, ordering_then}
use Rattle.std.specs.Cmp.{nat_cmp_total, tied_itself}
use Rattle.std.specs.FinMap.Entries.{below_all, is_sorted}
use Rattle.std.proofs.lemmas.Bool.{eqb-true, eq-eqb}
use Rattle.std.specs.List.{AllByRecursion, cons_option}
use Rattle.std.specs.List.Sorted.{IsStrictlySortedBy}
use Rattle.std.specs.FinMap.{FinMap, entries, entries_sorted, find, get-entries, get-from_entries, same_map}
use Rattle.rdf_types.specs.declared.records.RecKey.{RecKey}
use Rattle.rdf_types.specs.declared.records.Row.{Row}
use Rattle.rdf_types.specs.Places.{place_cmp, row_cmp, row_cmp_total, row_cmp_exact, same_place, same_place-is, same_place-on}
use Rattle.rdf_types.specs.MapViews.{entries-ordered}
use Rattle.rdf_model.specs.Contents.{Contents, place, held}
use Rattle.rdf_model.specs.Volumes.{Rows, AreOn}
use Rattle.rdf_model.specs.Rows.{as_row, rows_on, row_place, row_entry, row_map, list_of, ListsVolume}

keys_of : (rows : List Row) → map (λ e. e.0) (map row_entry rows) ≡ map row_place rows
keys_of [] = refl
keys_of (r ∷ rows) = ap (λ xs. row_place r ∷ xs) (keys_of rows)

back : (rows : List Row) → map (λ (e : (List ℕ × List ℕ) × List ℕ). let r : Row = record { file = e.0.0; key = e.0.1; value = e.1 } in r) (map row_entry rows) ≡ rows
back [] = refl
back (r ∷ rows) = ap (λ xs. r ∷ xs) (back rows)

-- a list of the volume's rows is that of any map that shows them
pub rows_listed : (vol : ℕ) (files : Contents) (rows : List Row) (m : Rows) → ListsVolume vol files rows → AreOn vol files m → rows ≡ list_of m
rows_listed vol files rows m lists on =
    sym (back rows)
    ∙ ap (map (λ e. record { file = e.0.0; key = e.0.1; value = e.1 })) (sym (entries-ordered row_cmp row_cmp_total row_cmp_exact (map row_entry rows)
    (subst (IsStrictlySortedBy row_cmp) (sym (keys_of rows)) lists.ordered)))
    ∙ ap list_of (same_map row_cmp_total row_cmp_exact (row_map rows) m (λ q. lists.exact (place vol q.0 q.1) refl ∙ sym (on (place vol q.0 q.1) refl)))

-- what is tested as less is less
pub less : (o : Ordering) → T (is_lt o) → o ≡ Less
less Less h = refl
less Equal h = absurd h
less Greater h = absurd h

-- one part of two that hold, and the other
pub first : (a b : Bool) → T (a && b) → T a
first true b p = tt
first false b p = p

pub second : (a b : Bool) → T (a && b) → T b
second true b p = p
second false b p = absurd p

-- on one volume places are ordered by file and key
pub same_volume : (vol : ℕ) (k q : RecKey) → k.vol ≡ vol → q.vol ≡ vol → place_cmp k q ≡ row_cmp (k.file, k.key) (q.file, q.key)
same_volume vol k q e f = ap (λ r. ordering_then r (row_cmp (k.file, k.key) (q.file, q.key))) ((λ i. nat_cmp (e i) (f i)) ∙ tied_itself nat_cmp_total vol)

rows_above : (vol : ℕ) (k : RecKey) → k.vol ≡ vol → (es : List (RecKey × List ℕ)) → T (below_all place_cmp k es) → AllByRecursion (λ y. row_cmp (k.file, k.key) y ≡ Less) (map row_place (rows_on vol es))
rows_above vol k on [] h = tt
rows_above vol k on (e ∷ es) h =
    elim (e.0.vol == vol) as (λ m. (e.0.vol == vol) ≡ m → AllByRecursion (λ y. row_cmp (k.file, k.key) y ≡ Less) (map row_place (cons_option (cond m (Some (as_row e)) None) (rows_on vol es)))) [
      | true ↦ λ s. (sym (same_volume vol k e.0 on (eqb-true e.0.vol vol s)) ∙ less (place_cmp k e.0) (first _ _ h), rows_above vol k on es (second _ _ h))
      | false ↦ λ s. rows_above vol k on es (second _ _ h)
    ] refl

rows_sorted : (vol : ℕ) (es : List (RecKey × List ℕ)) → T (is_sorted place_cmp es) → IsStrictlySortedBy row_cmp (map row_place (rows_on vol es))
unfolding IsStrictlySortedBy
rows_sorted vol [] h = tt
rows_sorted vol (e ∷ es) h =
    elim (e.0.vol == vol) as (λ m. (e.0.vol == vol) ≡ m → IsStrictlySortedBy row_cmp (map row_place (cons_option (cond m (Some (as_row e)) None) (rows_on vol es)))) [
      | true ↦ λ s. (rows_above vol e.0 (eqb-true e.0.vol vol s) es (first _ _ h), rows_sorted vol es (second _ _ h))
      | false ↦ λ s. rows_sorted vol es (second _ _ h)
    ] refl

other_volume : (vol : ℕ) (q k : RecKey) → q.vol ≡ vol → (k.vol == vol) ≡ false → same_place q k ≡ false
other_volume vol q k on e =
    elim (same_place q k) as (λ s. same_place q k ≡ s → s ≡ false) [
      | true ↦ λ s. let here : (k.vol == vol) ≡ true = eq-eqb k.vol vol (ap (λ (p : RecKey). p.vol) (sym (same_place-is q k s)) ∙ on) in cc
      | false ↦ λ s. refl
    ] refl

rows_found : (vol : ℕ) (q : RecKey) → q.vol ≡ vol → (es : List (RecKey × List ℕ)) → find row_cmp (q.file, q.key) (map row_entry (rows_on vol es)) ≡ find place_cmp q es
rows_found vol q on [] = refl
rows_found vol q on (e ∷ es) =
    elim (e.0.vol == vol) as (λ m. (e.0.vol == vol) ≡ m → find row_cmp (q.file, q.key) (map row_entry (cons_option (cond m (Some (as_row e)) None) (rows_on vol es)))
    ≡ cond (same_place q e.0) (Some e.1) (find place_cmp q es)) [
      | true ↦ λ s. ap (λ m. cond m (Some e.1) (find row_cmp (q.file, q.key) (map row_entry (rows_on vol es)))) (sym (same_place-on vol q e.0 on (eqb-true e.0.vol vol s)))
          ∙ ap (cond (same_place q e.0) (Some e.1)) (rows_found vol q on es)
      | false ↦ λ s. rows_found vol q on es ∙ ap (λ m. cond m (Some e.1) (find place_cmp q es)) (sym (other_volume vol q e.0 on s))
    ] refl

-- the rows in the order of the entries are a list of the volume's rows
pub rows_on-lists : (vol : ℕ) (files : FinMap place_cmp (List ℕ)) → ListsVolume vol (held files) (rows_on vol (entries files))
rows_on-lists vol files = record {
  ordered = rows_sorted vol (entries files) (entries_sorted files);
  exact = λ q on. get-from_entries row_cmp_total (map row_entry (rows_on vol (entries files))) (q.file, q.key) ∙ rows_found vol q on (entries files) ∙ sym (get-entries files q);
}
