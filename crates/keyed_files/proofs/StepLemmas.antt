-- Going on from row to row.
use Rattle.std.proofs.Common.{◌≡◌, ℕ, Bool, true, false, cond, T, List, [], ◌∷◌, filter, refl, sym, ap, ◌∙◌, subst}
use Rattle.std.specs.declared.cmp.Ordering.{Ordering}
use Rattle.std.specs.declared.cmp.Ordering.TheVariants.{Less, Equal, Greater}
use Rattle.std.specs.Ordering.{is_lt, ordering_reverse}
use Rattle.std.specs.Cmp.{IsTotalOrder, tied_itself}
use Rattle.std.specs.FinMap.{FinMap, entries, entries_sorted}
use Rattle.std.specs.FinMap.Entries.{below_all, is_sorted}
use Rattle.rdf_types.specs.Places.{row_cmp, row_cmp_total}
use Rattle.keyed_files.specs.RowsAbove.{rows_above}
use Rattle.std.proofs.Math.Facts.{and_yes, yes_and}

pub is_less : (r : Ordering) → T (is_lt r) → r ≡ Less
is_less Less h = refl
is_less Equal h = absurd h
is_less Greater h = absurd h

less_is : (r : Ordering) → r ≡ Less → T (is_lt r)
less_is r e = subst (λ s. T (is_lt s)) (sym e) tt

not_itself : {K : Type 0} (R : K → K → Ordering) (total : IsTotalOrder R) (k : K) → is_lt (R k k) ≡ false
not_itself R total k = ap is_lt (tied_itself total k)

not_back : {K : Type 0} (R : K → K → Ordering) (total : IsTotalOrder R) (a b : K) → R a b ≡ Less → is_lt (R b a) ≡ false
not_back R total a b h = ap is_lt (total.antisymm b a ∙ ap ordering_reverse h)

module _ {K X : Type 0} (R : K → K → Ordering) (total : IsTotalOrder R) where
  all_above : (k : K) (es : List (K × X)) → T (below_all R k es) → filter (λ e. is_lt (R k e.0)) es ≡ es
  all_above k [] h = refl
  all_above k (e ∷ es) h =
      ap (λ r. cond (is_lt r) (e ∷ filter (λ e. is_lt (R k e.0)) es) (filter (λ e. is_lt (R k e.0)) es)) (is_less _ (and_yes _ _ h).0) ∙ ap (λ xs. e ∷ xs) (all_above k es (and_yes _ _ h).1)

  pub further : (a b : K) (es : List (K × X)) → R a b ≡ Less → T (below_all R b es) → T (below_all R a es)
  further a b [] h g = tt
  further a b (e ∷ es) h g = yes_and _ _ (less_is _ (total.trans a b e.0 h (is_less _ (and_yes _ _ g).0))) (further a b es h (and_yes _ _ g).1)

  -- what is found in entries above a key is above it
  found_below : (k : K) (p : K × X → Bool) (es : List (K × X)) (e : K × X) (rest : List (K × X)) → T (below_all R k es) → filter p es ≡ e ∷ rest → R k e.0 ≡ Less
  found_below k p [] e rest h is = cc
  found_below k p (x ∷ es) e rest h is =
      elim (p x) as (λ b. cond b (x ∷ filter p es) (filter p es) ≡ e ∷ rest → R k e.0 ≡ Less) [
        | true ↦ λ is. let same : x ≡ e = cc in subst (λ y. R k y.0 ≡ Less) same (is_less _ (and_yes _ _ h).0)
        | false ↦ λ is. found_below k p es e rest (and_yes _ _ h).1 is
      ] is

  after_first : (e : K × X) (rest : List (K × X)) → T (is_sorted R (e ∷ rest)) → filter (λ x. is_lt (R e.0 x.0)) (e ∷ rest) ≡ rest
  after_first e rest h =
      ap (λ b. cond b (e ∷ filter (λ x. is_lt (R e.0 x.0)) rest) (filter (λ x. is_lt (R e.0 x.0)) rest)) (not_itself R total e.0) ∙ all_above e.0 rest (and_yes _ _ h).0

  -- the entries above the first one that is above a key are the others above that key
  after_next : (q : K) (es : List (K × X)) (e : K × X) (rest : List (K × X)) → T (is_sorted R es) → filter (λ x. is_lt (R q x.0)) es ≡ e ∷ rest → filter (λ x. is_lt (R e.0 x.0)) es ≡ rest
  after_next q [] e rest h is = cc
  after_next q (x ∷ es) e rest h is =
      elim (is_lt (R q x.0)) as (λ b. is_lt (R q x.0) ≡ b → cond b (x ∷ filter (λ x. is_lt (R q x.0)) es) (filter (λ x. is_lt (R q x.0)) es) ≡ e ∷ rest → filter (λ y. is_lt (R e.0 y.0)) (x ∷ es) ≡ rest) [
        | true ↦ λ less is.
            let same : x ≡ e = cc in
            let others : filter (λ x. is_lt (R q x.0)) es ≡ rest = cc in
            ap (λ y. filter (λ z. is_lt (R y.0 z.0)) (x ∷ es)) (sym same) ∙ after_first x es h
            ∙ sym (all_above q es (further q x.0 es (is_less _ (subst T (sym less) tt)) (and_yes _ _ h).0)) ∙ others
        | false ↦ λ less is.
            ap (λ b. cond b (x ∷ filter (λ y. is_lt (R e.0 y.0)) es) (filter (λ y. is_lt (R e.0 y.0)) es)) (not_back R total x.0 e.0 (found_below x.0 (λ x. is_lt (R q x.0)) es e rest (and_yes _ _ h).0 is))
            ∙ after_next q es e rest (and_yes _ _ h).1 is
      ] refl is

pub rows_after_first : (rows : FinMap row_cmp (List ℕ)) (e : (List ℕ × List ℕ) × List ℕ) (rest : List ((List ℕ × List ℕ) × List ℕ)) → entries rows ≡ e ∷ rest → rows_above rows e.0 ≡ rest
rows_after_first rows e rest is =
    ap (filter (λ x. is_lt (row_cmp e.0 x.0))) is ∙ after_first row_cmp row_cmp_total e rest (subst (λ es. T (is_sorted row_cmp es)) is (entries_sorted rows))

pub rows_after_next : (rows : FinMap row_cmp (List ℕ)) (place : List ℕ × List ℕ) (e : (List ℕ × List ℕ) × List ℕ) (rest : List ((List ℕ × List ℕ) × List ℕ)) →
    rows_above rows place ≡ e ∷ rest → rows_above rows e.0 ≡ rest
rows_after_next rows place e rest is = after_next row_cmp row_cmp_total place (entries rows) e rest (entries_sorted rows) is
