-- Laws of open transactions and losers.
use Rattle.std.proofs.Common.{◌≡◌, ℕ, Bool, true, false, ◌||◌, ◌==◌, List, [], ◌∷◌, fold, refl, sym, ap, ◌∙◌, subst, not, cond, ◌&&◌, filter, filter_map, arith, nat_cmp}
use Rattle.std.proofs.lemmas.Map.Lookups.{exact_unsigned}
use Rattle.std.specs.BTreeSet.{insert_key}
use Rattle.std.specs.List.{list_any}
use Rattle.std.specs.Ordering.{nat_cmp, match_ordering}
use Rattle.std.specs.declared.cmp.Ordering.TheVariants.{Less, Equal, Greater}
use Rattle.rdf_model.specs.Losers.{rising, losers}
use Rattle.std.specs.Cmp.{nat_cmp_total, unsigned_tied}
use Rattle.std.specs.FinSet.{contains, contains-from_list}
use Rattle.std.proofs.lemmas.Bool.{eqb-true}
use Rattle.std.proofs.lemmas.Bool.Decides.{nat_tests}
use Rattle.rdf_types.specs.declared.records.Record.{Record}
use Rattle.rdf_types.specs.declared.records.Record.TheVariants.{Image, Commit, Abort}
use Rattle.rdf_model.specs.Trail.{has_image, is_ended, is_open, image_txn, open_in}

or_twice : (a b : Bool) → (a || b) ≡ (a || (a || b))
or_twice true b = refl
or_twice false b = refl

or_swap : (a b c : Bool) → (a || (b || c)) ≡ (b || (a || c))
or_swap true true c = refl
or_swap true false c = refl
or_swap false b c = refl

-- one more number is in the list, and each that was there
has-insert_key : (t k : ℕ) (xs : List ℕ) → list_any (λ u. t == u) (insert_key nat_cmp xs k) ≡ ((t == k) || list_any (λ u. t == u) xs)
has-insert_key t k [] = refl
has-insert_key t k (x ∷ xs) =
    elim (nat_cmp k x) as (λ o. nat_cmp k x ≡ o → list_any (λ u. t == u) (match_ordering o (k ∷ x ∷ xs) (x ∷ xs) (x ∷ insert_key nat_cmp xs k)) ≡ ((t == k) || ((t == x) || list_any (λ u. t == u) xs))) [
      | Less ↦ λ e. refl
      | Equal ↦ λ e. subst (λ y. ((t == x) || list_any (λ u. t == u) xs) ≡ ((t == y) || ((t == x) || list_any (λ u. t == u) xs))) (sym (exact_unsigned k x e)) (or_twice (t == x) (list_any (λ u. t == u) xs))
      | Greater ↦ λ e. ap (λ b. (t == x) || b) (has-insert_key t k xs) ∙ or_swap (t == x) (t == k) (list_any (λ u. t == u) xs)
    ] refl

has-fold : (t : ℕ) (ks xs : List ℕ) → list_any (λ u. t == u) (fold (insert_key nat_cmp) ks xs) ≡ (list_any (λ u. t == u) xs || list_any (λ u. t == u) ks)
has-fold t ks [] = refl
has-fold t ks (x ∷ xs) =
    has-fold t (insert_key nat_cmp ks x) xs
    ∙ ap (λ b. list_any (λ u. t == u) xs || b) (has-insert_key t x ks)
    ∙ or_swap_in (list_any (λ u. t == u) xs) (t == x) (list_any (λ u. t == u) ks)
  where
    or_swap_in : (a b c : Bool) → (a || (b || c)) ≡ ((b || a) || c)
    or_swap_in true true c = refl
    or_swap_in true false c = refl
    or_swap_in false b c = ap (λ (d : Bool). d || c) (or_none b)
      where
        or_none : (b : Bool) → b ≡ (b || false)
        or_none true = refl
        or_none false = refl

-- just the numbers of the list are in it
pub has-rising : (t : ℕ) (xs : List ℕ) → list_any (λ u. t == u) (rising xs) ≡ list_any (λ u. t == u) xs
has-rising t xs = has-fold t [] xs ∙ or_none (list_any (λ u. t == u) xs)
  where
    or_none : (b : Bool) → (b || false) ≡ b
    or_none true = refl
    or_none false = refl

-- the open transactions are those with an image and no outcome
image_listed : (t : ℕ) (trail rest : List Record) → list_any (λ u. t == u) (filter (λ u. not (is_ended u trail)) (filter_map image_txn rest)) ≡ (has_image t rest && not (is_ended t trail))
image_listed t trail [] = refl
image_listed t trail (Commit u ∷ rest) = image_listed t trail rest
image_listed t trail (Abort u ∷ rest) = image_listed t trail rest
image_listed t trail (Image u v f k b a ∷ rest) =
    elim (is_ended u trail) as (λ m. is_ended u trail ≡ m → list_any (λ w. t == w) (cond (not m) (u ∷ filter (λ w. not (is_ended w trail)) (filter_map image_txn rest)) (filter (λ w. not (is_ended w trail)) (filter_map image_txn rest)))
    ≡ (((u == t) || has_image t rest) && not (is_ended t trail))) [
      | true ↦ λ e. image_listed t trail rest ∙ ended_case (u == t) (has_image t rest) (is_ended t trail) (λ same. subst (λ n. is_ended n trail ≡ true) (eqb-true u t same) e)
      | false ↦ λ e. ap (λ m. (t == u) || m) (image_listed t trail rest) ∙ ap (λ m. m || (has_image t rest && not (is_ended t trail))) (turned t u)
          ∙ open_case (u == t) (has_image t rest) (is_ended t trail) (λ same. subst (λ n. is_ended n trail ≡ false) (eqb-true u t same) e)
    ] refl
  where
    turned : (a b : ℕ) → (a == b) ≡ (b == a)
    turned a b = grind (arith, nat_tests)

    ended_case : (s h e : Bool) → (s ≡ true → e ≡ true) → (h && not e) ≡ ((s || h) && not e)
    ended_case s h e same = grind arith

    open_case : (s h e : Bool) → (s ≡ true → e ≡ false) → (s || (h && not e)) ≡ ((s || h) && not e)
    open_case s h e same = grind arith

-- a transaction is open where it has an image and no outcome
pub contains-open_in : (trail : List Record) (t : ℕ) → contains (open_in trail) t ≡ is_open t trail
contains-open_in trail t =
    contains-from_list nat_cmp_total (filter (λ u. not (is_ended u trail)) (filter_map image_txn trail)) t
    ∙ (λ i. list_any (λ u. unsigned_tied t u i) (filter (λ u. not (is_ended u trail)) (filter_map image_txn trail)))
    ∙ image_listed t trail trail

-- the losers are the open transactions
pub any_loser : (trail : List Record) (t : ℕ) → list_any (λ u. t == u) (losers trail) ≡ is_open t trail
any_loser trail t = has-rising t (filter (λ u. not (is_ended u trail)) (filter_map image_txn trail)) ∙ image_listed t trail trail

-- just the open transactions are losers
pub losers_open : (trail : List Record) (t : ℕ) → list_any (λ u. t == u) (losers trail) ≡ contains (open_in trail) t
losers_open trail t = any_loser trail t ∙ sym (contains-open_in trail t)
