-- Who owns a place where a transaction ends.
use Rattle.std.proofs.Common.{◌≡◌, ℕ, Bool, true, false, not, cond, ◌&&◌, ◌||◌, ◌==◌, inl, inr, List, [], ◌∷◌, ◌++◌, Some, None, refl, sym, ap, ◌∙◌, subst, arith}
use Rattle.std.proofs.lemmas.Bool.{eqb-true, and_parts, or_parts}
use Rattle.rdf_types.specs.declared.records.Record.{Record}
use Rattle.rdf_types.specs.declared.records.Record.TheVariants.{Image, Commit, Abort}
use Rattle.rdf_types.specs.declared.records.RecKey.{RecKey}
use Rattle.rdf_types.specs.Places.{same_place}
use Rattle.rdf_model.specs.Contents.{nothing, place}
use Rattle.rdf_model.specs.Trail.{has_image, is_ended, before_of, txn_of, first_of, first_before, owner}
use Rattle.rdf_model.specs.Legal.{Legal}
use Rattle.rdf_model.specs.SearchLaws.{first_of-fewer, first_of-alone, first_before-fewer}
use Rattle.rdf_model.specs.Holding.{by_one, by_running, by_others, IsHeld, OneHolder}
use Rattle.std.proofs.lemmas.Option.{none-some}
use Rattle.record_locks.specs.Locks.{freed}
use Rattle.rdf_model.specs.EndLaws.{first_of-more, ended_more, AreOf, turned}

de_morgan : (a b : Bool) → not (a || b) ≡ (not a && not b)
de_morgan true b = refl
de_morgan false b = refl

-- the owner among the transactions but this one
others_own : OneHolder → (trail : List Record) (k : RecKey) (t : ℕ) → Legal nothing trail → first_of txn_of (by_others trail t) k trail ≡ freed t (owner trail k)
others_own one trail k t legal =
    elim (one nothing trail k legal) [
      | inl s ↦ first_of-fewer before_of txn_of (by_running trail) (by_others trail t) k (λ w h. (and_parts (by_running trail w) (not (w == t)) h).0) trail s.1 ∙ ap (freed t) (sym s.0)
      | inr s ↦ held s.0 s.1 s.2
    ]
  where
    held : (w : ℕ) → owner trail k ≡ Some w → IsHeld nothing trail k w → first_of txn_of (by_others trail t) k trail ≡ freed t (owner trail k)
    held w is s = elim (t == w) as (λ m. (t == w) ≡ m → first_of txn_of (by_others trail t) k trail ≡ freed t (owner trail k)) [
      | true ↦ λ e.
          subst (λ n. first_of txn_of (by_others trail n) k trail ≡ None) (sym (eqb-true t w e))
          (first_of-fewer before_of txn_of (by_others trail w) (by_others trail w) k (λ u h. h) trail s.alone)
          ∙ sym (ap (freed t) is ∙ ap (λ m. cond m None (Some w)) e)
      | false ↦ λ e.
          first_of-alone txn_of (by_others trail t) w k
          (ap (λ m. not m && not (w == t)) s.running ∙ ap not (turned w t e)) trail
          (first_before-fewer (by_others trail w) (λ u. by_others trail t u && not (u == w)) k (λ u h. less u h) trail s.alone)
          ∙ sym (first_of-alone txn_of (by_running trail) w k (ap not s.running) trail s.alone)
          ∙ is ∙ sym (ap (freed t) is ∙ ap (λ m. cond m None (Some w)) e)
    ] refl
      where
        step : (a b c : Bool) → ((not a && not b) && not c) ≡ true → (not a && not c) ≡ true
        step a b c h = grind arith

        less : (u : ℕ) → (by_others trail t u && not (u == w)) ≡ true → by_others trail w u ≡ true
        less u h = step (is_ended u trail) (u == t) (u == w) h

-- the owners after records of a transaction that end it
pub owner_more : OneHolder → (t : ℕ) (trail more : List Record) → Legal nothing trail → AreOf t more → is_ended t (trail ++ more) ≡ true → (k : RecKey) → owner (trail ++ more) k ≡ freed t (owner trail k)
owner_more one t trail more legal all ends k =
    first_of-more txn_of (λ u. not (is_ended u (trail ++ more))) k t trail more (ap not ends) all
    ∙ (λ i. first_of txn_of (λ u. who u i) k trail)
    ∙ others_own one trail k t legal
  where
    who : (u : ℕ) → not (is_ended u (trail ++ more)) ≡ by_others trail t u
    who u = ap not (ended_more t trail more all ends u) ∙ de_morgan (is_ended u trail) (u == t)

pub no_first : (t : ℕ) (q : RecKey) (trail : List Record) → has_image t trail ≡ false → first_before (λ u. u == t) q trail ≡ None
no_first t q [] e = refl
no_first t q (Commit u ∷ rest) e = no_first t q rest e
no_first t q (Abort u ∷ rest) e = no_first t q rest e
no_first t q (Image u v f k b a ∷ rest) e =
    let parts = or_parts (u == t) (has_image t rest) e in
    ap (λ m. cond (m && same_place q (place v f k)) (Some b) (first_before (λ u. u == t) q rest)) parts.0 ∙ no_first t q rest parts.1

-- a transaction without an image owns nothing
pub owner_none : OneHolder → (t : ℕ) (trail : List Record) → Legal nothing trail → has_image t trail ≡ false → (k : RecKey) → owner trail k ≡ freed t (owner trail k)
owner_none one t trail legal none k =
    elim (one nothing trail k legal) [
      | inl s ↦ s.0 ∙ sym (ap (freed t) s.0)
      | inr s ↦ held s.0 s.1 s.2
    ]
  where
    held : (w : ℕ) → owner trail k ≡ Some w → IsHeld nothing trail k w → owner trail k ≡ freed t (owner trail k)
    held w is s = elim (t == w) as (λ m. (t == w) ≡ m → owner trail k ≡ freed t (owner trail k)) [
      | true ↦ λ e. absurd (none-some _ (sym (subst (λ n. first_before (by_one n) k trail ≡ None) (eqb-true t w e) (no_first t k trail none)) ∙ s.mine))
      | false ↦ λ e. is ∙ sym (ap (freed t) is ∙ ap (λ m. cond m None (Some w)) e)
    ] refl
