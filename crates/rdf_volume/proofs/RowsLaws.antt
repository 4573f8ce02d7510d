-- Rows in order, and more of them behind others.
use Rattle.std.proofs.Common.{◌≡◌, ℕ, suc, ◌-◌, Bool, true, false, ◌&&◌, cond, T, List, [], ◌∷◌, ◌++◌, length, map, slice_get, Some, None, fold, refl, sym, ◌∙◌, ap, subst, arith}
use Rattle.std.proofs.lemmas.Bool.{true≢false}
use Rattle.std.proofs.lemmas.List.{append-nil, append_assoc, map-append}
use Rattle.std.specs.declared.cmp.Ordering.{Ordering}
use Rattle.std.specs.declared.cmp.Ordering.TheVariants.{Less, Equal, Greater}
use Rattle.std.specs.Cmp.{first_so, second_so}
use Rattle.std.specs.List.{AllByRecursion}
use Rattle.std.specs.List.Sorted.{IsStrictlySortedBy}
use Rattle.std.specs.Ordering.{is_lt, is_eq, ordering_reverse}
use Rattle.std.specs.FinMap.{from_entries, from_entries_push}
use Rattle.std.specs.FinMap.Entries.{find, below_all, is_sorted}
use Rattle.rdf_types.specs.declared.records.Row.{Row}
use Rattle.rdf_types.specs.Places.{row_cmp, row_cmp_total, row_cmp_exact}
use Rattle.rdf_model.specs.RowLaws.{less, first, second}
use Rattle.rdf_model.specs.Rows.{row_place, row_entry, row_map}
use Rattle.rdf_model.specs.Volumes.{Rows}
use Rattle.keyed_blocks.specs.Bases.{rises}
use Rattle.keyed_blocks.specs.RisingLaws.{lower}
use Rattle.rdf_volume.specs.Changes.{with_row}
use Rattle.rdf_volume.specs.Readings.{is_above}

abbrev Entry : Type 0
Entry = (List ℕ × List ℕ) × List ℕ

-- ---- rows behind others

absorbed : (a b c : Bool) → (b ≡ true → a ≡ true) → (a && (b && c)) ≡ (b && c)
absorbed true b c h = refl
absorbed false true c h = absurd (true≢false (sym (h refl)))
absorbed false false c h = refl

below_further : (k l : List ℕ × List ℕ) (es : List Entry) → row_cmp k l ≡ Less → below_all row_cmp l es ≡ true → below_all row_cmp k es ≡ true
below_further k l [] lt h = refl
below_further k l (e ∷ es) lt h =
    let next : row_cmp l e.0 ≡ Less = lower (row_cmp l e.0) (first_so (is_lt (row_cmp l e.0)) (below_all row_cmp l es) h) in
    ap (λ (o : Ordering). is_lt o && below_all row_cmp k es) (row_cmp_total.trans k l e.0 lt next)
    ∙ below_further k l es lt (second_so (is_lt (row_cmp l e.0)) (below_all row_cmp l es) h)

-- the first two rows of a list, and what stands behind the first
two : (x y : Row) (rows : List Row) → rises (x ∷ y ∷ rows) ≡ (is_lt (row_cmp (row_place x) (row_place y)) && rises (y ∷ rows))
two x y rows =
    elim (is_lt (row_cmp (row_place x) (row_place y))) as (λ (b : Bool). is_lt (row_cmp (row_place x) (row_place y)) ≡ b
    → ((b && below_all row_cmp (row_place x) (map row_entry rows)) && rises (y ∷ rows)) ≡ (b && rises (y ∷ rows))) [
      | true ↦ λ s. absorbed (below_all row_cmp (row_place x) (map row_entry rows)) (below_all row_cmp (row_place y) (map row_entry rows)) (rises rows)
          (below_further (row_place x) (row_place y) (map row_entry rows) (lower (row_cmp (row_place x) (row_place y)) s))
      | false ↦ λ s. refl
    ] refl

-- rows in order behind others in order: the first one stands above the last one before it
pub rises_joined : (xs : List Row) (r : Row) (rs : List Row) → rises xs ≡ true → rises (r ∷ rs) ≡ true → rises (xs ++ r ∷ rs) ≡ is_above (slice_get xs (length xs - 1)) r
rises_joined [] r rs before behind = behind
rises_joined (x ∷ []) r rs before behind = two x r rs ∙ ap (λ (b : Bool). is_lt (row_cmp (row_place x) (row_place r)) && b) behind ∙ with_true (is_lt (row_cmp (row_place x) (row_place r)))
  where
    with_true : (b : Bool) → (b && true) ≡ b
    with_true true = refl
    with_true false = refl
rises_joined (x ∷ y ∷ xs) r rs before behind =
    let parts : (is_lt (row_cmp (row_place x) (row_place y)) && rises (y ∷ xs)) ≡ true = sym (two x y xs) ∙ before in
    let at : length (x ∷ y ∷ xs) - 1 ≡ suc (length xs) = omega arith in
    let here : length xs ≡ length (y ∷ xs) - 1 = omega arith in
    two x y (xs ++ r ∷ rs)
    ∙ ap (λ (b : Bool). b && rises (y ∷ (xs ++ r ∷ rs))) (first_so (is_lt (row_cmp (row_place x) (row_place y))) (rises (y ∷ xs)) parts)
    ∙ rises_joined (y ∷ xs) r rs (second_so (is_lt (row_cmp (row_place x) (row_place y))) (rises (y ∷ xs)) parts) behind
    ∙ ap (λ (i : ℕ). is_above (slice_get (y ∷ xs) i) r) (sym here)
    ∙ ap (λ (i : ℕ). is_above (slice_get (x ∷ y ∷ xs) i) r) (sym at)

-- the last of them
pub last_joined : (xs : List Row) (r : Row) (rs : List Row) → slice_get (xs ++ r ∷ rs) (length (xs ++ r ∷ rs) - 1) ≡ slice_get (r ∷ rs) (length (r ∷ rs) - 1)
last_joined [] r rs = refl
last_joined (x ∷ []) r rs = let at : length (x ∷ r ∷ rs) - 1 ≡ suc (length (r ∷ rs) - 1) = omega arith in ap (λ (i : ℕ). slice_get (x ∷ r ∷ rs) i) at
last_joined (x ∷ y ∷ xs) r rs =
    let at : length (x ∷ y ∷ (xs ++ r ∷ rs)) - 1 ≡ suc (length (y ∷ (xs ++ r ∷ rs)) - 1) = omega arith in
    ap (λ (i : ℕ). slice_get (x ∷ y ∷ (xs ++ r ∷ rs)) i) at ∙ last_joined (y ∷ xs) r rs

-- ---- rows that are put one after another

below_one : (k : List ℕ × List ℕ) (xs : List Entry) (e : Entry) (ys : List Entry) → T (below_all row_cmp k (xs ++ e ∷ ys)) → row_cmp k e.0 ≡ Less
below_one k [] e ys h = less (row_cmp k e.0) (first _ _ h)
below_one k (x ∷ xs) e ys h = below_one k xs e ys (second _ _ h)

none_before : (xs : List Entry) (e : Entry) (ys : List Entry) → T (is_sorted row_cmp (xs ++ e ∷ ys)) → find row_cmp e.0 xs ≡ None
none_before [] e ys h = refl
none_before (x ∷ xs) e ys h =
    let over : row_cmp e.0 x.0 ≡ Greater = row_cmp_total.antisymm e.0 x.0 ∙ ap ordering_reverse (below_one x.0 xs e ys (first _ _ h)) in
    ap (λ (o : Ordering). cond (is_eq o) (Some x.1) (find row_cmp e.0 xs)) over ∙ none_before xs e ys (second _ _ h)

one_row : (xs : List Row) (r : Row) (rs : List Row) → rises (xs ++ r ∷ rs) ≡ true → row_map (xs ++ r ∷ []) ≡ with_row (row_map xs) r
one_row xs r rs h =
    let sorted : T (is_sorted row_cmp (map row_entry xs ++ row_entry r ∷ map row_entry rs)) = so (sym (ap (is_sorted row_cmp) (map-append row_entry xs (r ∷ rs))) ∙ h) in
    ap (λ (es : List Entry). from_entries {R = row_cmp} es) (map-append row_entry xs (r ∷ []))
    ∙ from_entries_push row_cmp_total row_cmp_exact (map row_entry xs) (row_place r) r.value (none_before (map row_entry xs) (row_entry r) (map row_entry rs) sorted)
  where
    so : {b : Bool} → b ≡ true → T b
    so e = subst T (sym e) tt

-- in order, the rows of a list are those before with each further one put over them
pub row_map-more : (xs ys : List Row) → rises (xs ++ ys) ≡ true → row_map (xs ++ ys) ≡ fold with_row (row_map xs) ys
row_map-more xs [] h = ap row_map (append-nil xs)
row_map-more xs (r ∷ ys) h =
    let split : (xs ++ r ∷ []) ++ ys ≡ xs ++ r ∷ ys = append_assoc xs (r ∷ []) ys in
    ap row_map (sym split) ∙ row_map-more (xs ++ r ∷ []) ys (ap rises split ∙ h) ∙ ap (λ (m : Rows). fold with_row m ys) (one_row xs r ys h)

-- ---- rows in order, as they are tested

below_tested : (k : List ℕ × List ℕ) (rows : List Row) → AllByRecursion (λ y. row_cmp k y ≡ Less) (map row_place rows) → below_all row_cmp k (map row_entry rows) ≡ true
below_tested k [] h = refl
below_tested k (r ∷ rows) h = ap (λ (o : Ordering). is_lt o && below_all row_cmp k (map row_entry rows)) h.0 ∙ below_tested k rows h.1

pub rising_tested : (rows : List Row) → IsStrictlySortedBy row_cmp (map row_place rows) → rises rows ≡ true
unfolding IsStrictlySortedBy
rising_tested [] h = refl
rising_tested (r ∷ rows) h = ap (λ (b : Bool). b && rises rows) (below_tested (row_place r) rows h.0) ∙ rising_tested rows h.1
