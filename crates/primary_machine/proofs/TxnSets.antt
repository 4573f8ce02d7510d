-- Keys of a tree as a set of numbers.
use Rattle.std.proofs.Common.{◌≡◌, ℕ, suc, ◌+◌, Bool, true, false, cond, not, ◌&&◌, ◌||◌, List, [], ◌∷◌, length, refl, sym, ap, ◌∙◌, arith}
use Rattle.std.specs.declared.cmp.Ordering.TheVariants.{Less}
use Rattle.std.specs.List.Sorted.{IsStrictlySortedBy}
use Rattle.std.specs.List.{AllByRecursion}
use Rattle.std.proofs.lemmas.Bool.Decides.{nat_tests}
use Rattle.std.specs.Ordering.{nat_cmp, eq_by_cmp, is_eq}
use Rattle.std.specs.List.{list_any}
use Rattle.std.specs.Cmp.{nat_cmp_total}
use Rattle.std.specs.Prelude.{Result, Ok, Err, OnOk}
use Rattle.std.specs.FinSet.{FinSet, contains, from_list, insert, remove, same_set, contains-from_list, contains-insert, contains-remove, nat_cmp-IsAntisymmetric, len, len-empty, len-insert}

turned : (a b : ℕ) → eq_by_cmp nat_cmp a b ≡ eq_by_cmp nat_cmp b a
turned a b = grind (arith, nat_tests)

or_is : (b x : Bool) → cond b true x ≡ (b || x)
or_is true x = refl
or_is false x = refl

and_is : (b x : Bool) → cond b false x ≡ (not b && x)
and_is true x = refl
and_is false x = refl

pub keys_inserted : (old new : List ℕ) (k : ℕ) → ((q : ℕ) → list_any (eq_by_cmp nat_cmp q) new ≡ cond (eq_by_cmp nat_cmp k q) true (list_any (eq_by_cmp nat_cmp q) old)) →
    from_list {R = nat_cmp} new ≡ insert (from_list old) k
keys_inserted old new k h = same_set nat_cmp_total nat_cmp-IsAntisymmetric (from_list new) (insert (from_list old) k)
    (λ q. contains-from_list nat_cmp_total new q ∙ h q ∙ ap (λ b. cond b true (list_any (eq_by_cmp nat_cmp q) old)) (turned k q)
    ∙ or_is (eq_by_cmp nat_cmp q k) (list_any (eq_by_cmp nat_cmp q) old) ∙ ap (λ x. eq_by_cmp nat_cmp q k || x) (sym (contains-from_list nat_cmp_total old q))
    ∙ sym (contains-insert nat_cmp_total (from_list old) k q))

pub keys_removed : (old new : List ℕ) (k : ℕ) → ((q : ℕ) → list_any (eq_by_cmp nat_cmp q) new ≡ cond (eq_by_cmp nat_cmp k q) false (list_any (eq_by_cmp nat_cmp q) old)) →
    from_list {R = nat_cmp} new ≡ remove (from_list old) k
keys_removed old new k h = same_set nat_cmp_total nat_cmp-IsAntisymmetric (from_list new) (remove (from_list old) k)
    (λ q. contains-from_list nat_cmp_total new q ∙ h q ∙ ap (λ b. cond b false (list_any (eq_by_cmp nat_cmp q) old)) (turned k q)
    ∙ and_is (eq_by_cmp nat_cmp q k) (list_any (eq_by_cmp nat_cmp q) old) ∙ ap (λ x. not (eq_by_cmp nat_cmp q k) && x) (sym (contains-from_list nat_cmp_total old q))
    ∙ sym (contains-remove nat_cmp_total (from_list old) k q))

-- a member that is put in again
pub insert_known : (s : FinSet nat_cmp) (k : ℕ) → contains s k ≡ true → insert s k ≡ s
insert_known s k h = same_set nat_cmp_total nat_cmp-IsAntisymmetric (insert s k) s (λ q. contains-insert nat_cmp_total s k q ∙ at_it q (eq_by_cmp nat_cmp q k) refl)
  where
    is_it : (a b : ℕ) → eq_by_cmp nat_cmp a b ≡ true → a ≡ b
    is_it a b e = grind (arith, nat_tests)

    at_it : (q : ℕ) (b : Bool) → eq_by_cmp nat_cmp q k ≡ b → (b || contains s q) ≡ contains s q
    at_it q true e = sym (ap (contains s) (is_it q k e) ∙ h)
    at_it q false e = refl

-- a member that is put in and taken out
pub remove_inserted : (s : FinSet nat_cmp) (k : ℕ) → contains s k ≡ false → remove (insert s k) k ≡ s
remove_inserted s k h = same_set nat_cmp_total nat_cmp-IsAntisymmetric (remove (insert s k) k) s
    (λ q. contains-remove nat_cmp_total (insert s k) k q ∙ ap (λ x. not (eq_by_cmp nat_cmp q k) && x) (contains-insert nat_cmp_total s k q) ∙ at_it q (eq_by_cmp nat_cmp q k) refl)
  where
    is_it : (a b : ℕ) → eq_by_cmp nat_cmp a b ≡ true → a ≡ b
    is_it a b e = grind (arith, nat_tests)

    at_it : (q : ℕ) (b : Bool) → eq_by_cmp nat_cmp q k ≡ b → (not b && (b || contains s q)) ≡ contains s q
    at_it q true e = sym (ap (contains s) (is_it q k e) ∙ h)
    at_it q false e = refl

-- what holds in any case
pub on_ok : {T E : Type 0} (P : Type 0) (r : Result T E) → P → OnOk r P
on_ok P (Ok v) p = p
on_ok P (Err e) p = tt

-- as many numbers as keys in order
apart : (k : ℕ) (ks : List ℕ) → AllByRecursion (λ y. nat_cmp k y ≡ Less) ks → list_any (eq_by_cmp nat_cmp k) ks ≡ false
apart k [] h = refl
apart k (x ∷ ks) h = ap (λ o. is_eq o || list_any (eq_by_cmp nat_cmp k) ks) h.0 ∙ apart k ks h.1

pub len_keys : (ks : List ℕ) → IsStrictlySortedBy nat_cmp ks → len (from_list {R = nat_cmp} ks) ≡ length ks
unfolding IsStrictlySortedBy
len_keys [] h = len-empty nat_cmp
len_keys (k ∷ ks) h =
    len-insert nat_cmp_total (from_list {R = nat_cmp} ks) k
    ∙ ap (λ b. cond b (len (from_list {R = nat_cmp} ks)) (len (from_list {R = nat_cmp} ks) + 1)) (contains-from_list nat_cmp_total ks k ∙ apart k ks h.0)
    ∙ one_more _ _ (len_keys ks h.1)
  where
    one_more : (a b : ℕ) → a ≡ b → a + 1 ≡ suc b
    one_more a b e = omega arith
