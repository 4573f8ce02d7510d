-- As many transactions are active as the set of them has.
use Rattle.std.proofs.Common.{◌≡◌, ℕ, suc, ◌+◌, true, false, cond, ◌||◌, List, [], ◌∷◌, length, map as map_list, Some, is_some, T, arith, refl, sym, ap, ◌∙◌}
use Rattle.std.specs.Ordering.{nat_cmp, eq_by_cmp}
use Rattle.std.specs.Cmp.{nat_cmp_total}
use Rattle.std.specs.List.{list_any}
use Rattle.std.specs.FinMap as map
use Rattle.std.specs.FinMap.Entries.{below_all}
use Rattle.std.specs.FinSet as set
use Rattle.std.proofs.lemmas.Map.Lookups.{exact_unsigned}
use Rattle.active_txns.specs.Founds.{FirstBefore, Founds}
use Rattle.active_txns.specs.KeyLaws.{less_apart}
use Rattle.std.proofs.Math.Facts.{and_yes}

below_all_apart : (k : ℕ) (es : List (ℕ × FirstBefore)) → T (below_all nat_cmp k es) → list_any (eq_by_cmp nat_cmp k) (map_list (λ e. e.0) es) ≡ false
below_all_apart k [] h = refl
below_all_apart k (e ∷ es) h =
    ap (λ b. b || list_any (eq_by_cmp nat_cmp k) (map_list (λ e. e.0) es)) (less_apart (nat_cmp k e.0) (and_yes _ _ h).0) ∙ below_all_apart k es (and_yes _ _ h).1

len_numbers : (es : List (ℕ × FirstBefore)) → T (map.is_sorted nat_cmp es) → set.len (set.from_list {R = nat_cmp} (map_list (λ e. e.0) es)) ≡ length es
len_numbers [] h = set.len-empty nat_cmp
len_numbers (e ∷ es) h =
    let rest = len_numbers es (and_yes _ _ h).1 in
    set.len-insert nat_cmp_total (set.from_list {R = nat_cmp} (map_list (λ e. e.0) es)) e.0
    ∙ ap (λ b. cond b (set.len (set.from_list {R = nat_cmp} (map_list (λ e. e.0) es))) (set.len (set.from_list {R = nat_cmp} (map_list (λ e. e.0) es)) + 1))
    (set.contains-from_list nat_cmp_total (map_list (λ e. e.0) es) e.0 ∙ below_all_apart e.0 es (and_yes _ _ h).0)
    ∙ one_more _ _ rest
  where
    one_more : (a b : ℕ) → a ≡ b → a + 1 ≡ suc b
    one_more a b e = omega arith

found_listed : (q : ℕ) (es : List (ℕ × FirstBefore)) → is_some (map.find nat_cmp q es) ≡ list_any (eq_by_cmp nat_cmp q) (map_list (λ e. e.0) es)
found_listed q [] = refl
found_listed q (e ∷ es) = elim (eq_by_cmp nat_cmp q e.0) as (λ b. is_some (cond b (Some e.1) (map.find nat_cmp q es)) ≡ (b || list_any (eq_by_cmp nat_cmp q) (map_list (λ e. e.0) es))) [
  | true ↦ refl
  | false ↦ found_listed q es
]

pub as_many : (founds : Founds) (active : set.FinSet nat_cmp) → ((t : ℕ) → is_some (map.get founds t) ≡ set.contains active t) → map.len founds ≡ set.len active
as_many founds active same =
    map.len-entries founds ∙ sym (len_numbers (map.entries founds) (map.entries_sorted founds))
    ∙ ap set.len (set.same_set nat_cmp_total exact_unsigned _ _ (λ q.
    set.contains-from_list nat_cmp_total (map_list (λ e. e.0) (map.entries founds)) q
    ∙ sym (found_listed q (map.entries founds)) ∙ ap (λ o. is_some o) (sym (map.get-entries founds q)) ∙ same q))
