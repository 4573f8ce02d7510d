-- What records of one transaction alone leave of the others, where the last of them ends it.
use Rattle.std.proofs.Common.{◌≡◌, ℕ, Bool, true, false, cond, ◌&&◌, ◌||◌, ◌==◌, List, [], ◌∷◌, ◌++◌, Option, Some, None, refl, sym, ap, ◌∙◌, subst, arith, append_assoc}
use Rattle.std.specs.List.{AllByRecursion}
use Rattle.std.specs.Option.{option_or}
use Rattle.std.proofs.lemmas.Bool.{eqb-true, or_left, or_right, eq-eqb}
use Rattle.std.proofs.lemmas.Bool.Decides.{nat_tests}
use Rattle.std.proofs.lemmas.List.Folds.{list_any-append}
use Rattle.rdf_types.specs.declared.records.Record.{Record}
use Rattle.rdf_types.specs.declared.records.Record.TheVariants.{Image, Commit, Abort}
use Rattle.rdf_types.specs.declared.records.RecKey.{RecKey}
use Rattle.rdf_types.specs.Places.{same_place}
use Rattle.rdf_model.specs.Contents.{nothing, place}
use Rattle.rdf_model.specs.Trail.{raw, is_outcome_of, is_ended, is_open, txn_of, first_of}
use Rattle.rdf_model.specs.Lines.{after_change, put_back, same_value, found_by, after_commit, after_abort}
use Rattle.rdf_model.specs.Running.{is_used}
use Rattle.rdf_model.specs.SearchLaws.{or_none, first_of-append}

-- each record is the transaction's
abbrev pub AreOf : ℕ → List Record → Type 0
AreOf t more = AllByRecursion (λ r. txn_of r ≡ t) more

first_of-of : {X : Type 0} (tell : Record → X) (who : ℕ → Bool) (q : RecKey) (t : ℕ) → who t ≡ false → (more : List Record) → AreOf t more → first_of tell who q more ≡ None
first_of-of tell who q t out [] all = refl
first_of-of tell who q t out (Commit u ∷ more) all = first_of-of tell who q t out more all.1
first_of-of tell who q t out (Abort u ∷ more) all = first_of-of tell who q t out more all.1
first_of-of tell who q t out (Image u v f k b a ∷ more) all =
    ap (λ m. cond (m && same_place q (place v f k)) (Some (tell (Image u v f k b a))) (first_of tell who q more)) (ap who all.0 ∙ out) ∙ first_of-of tell who q t out more all.1

-- searches by the others find nothing in its records
pub first_of-more : {X : Type 0} (tell : Record → X) (who : ℕ → Bool) (q : RecKey) (t : ℕ) (trail more : List Record) → who t ≡ false → AreOf t more → first_of tell who q (trail ++ more) ≡ first_of tell who q trail
first_of-more tell who q t trail more out all =
    first_of-append tell who q trail more ∙ ap (option_or (first_of tell who q trail)) (first_of-of tell who q t out more all) ∙ or_none (first_of tell who q trail)

-- two numbers that are told apart are so the other way round
pub turned : (t u : ℕ) → (u == t) ≡ false → (t == u) ≡ false
turned t u e = grind (arith, nat_tests)

not_ended-of : (t u : ℕ) → (u == t) ≡ false → (more : List Record) → AreOf t more → is_ended u more ≡ false
not_ended-of t u e [] all = refl
not_ended-of t u e (Image w v f k b a ∷ more) all = not_ended-of t u e more all.1
not_ended-of t u e (Commit w ∷ more) all = ap (λ m. m || is_ended u more) (ap (λ n. n == u) all.0 ∙ turned t u e) ∙ not_ended-of t u e more all.1
not_ended-of t u e (Abort w ∷ more) all = ap (λ m. m || is_ended u more) (ap (λ n. n == u) all.0 ∙ turned t u e) ∙ not_ended-of t u e more all.1

not_used-of : (t u : ℕ) → (u == t) ≡ false → (more : List Record) → AreOf t more → is_used u more ≡ false
not_used-of t u e [] all = refl
not_used-of t u e (r ∷ more) all = ap (λ m. m || is_used u more) (ap (λ n. n == u) all.0 ∙ turned t u e) ∙ not_used-of t u e more all.1

or_no : (a b : Bool) → b ≡ false → (a || b) ≡ a
or_no true b e = refl
or_no false b e = e

-- the transactions with an outcome
pub ended_more : (t : ℕ) (trail more : List Record) → AreOf t more → is_ended t (trail ++ more) ≡ true → (u : ℕ) → is_ended u (trail ++ more) ≡ (is_ended u trail || (u == t))
ended_more t trail more all ends u =
    elim (u == t) as (λ m. (u == t) ≡ m → is_ended u (trail ++ more) ≡ (is_ended u trail || m)) [
      | true ↦ λ e. subst (λ n. is_ended n (trail ++ more) ≡ true) (sym (eqb-true u t e)) ends ∙ sym (or_right (is_ended u trail) true refl)
      | false ↦ λ e. list_any-append (is_outcome_of u) trail more ∙ or_no (is_ended u trail) (is_ended u more) (not_ended-of t u e more all) ∙ sym (or_no (is_ended u trail) false refl)
    ] refl

-- the numbers that are used
pub used_more : (t : ℕ) (trail more : List Record) → AreOf t more → is_used t trail ≡ true → (u : ℕ) → is_used u (trail ++ more) ≡ is_used u trail
used_more t trail more all was u =
    elim (u == t) as (λ m. (u == t) ≡ m → is_used u (trail ++ more) ≡ is_used u trail) [
      | true ↦ λ e.
          let here : is_used u trail ≡ true = subst (λ n. is_used n trail ≡ true) (sym (eqb-true u t e)) was in
          list_any-append (λ r. txn_of r == u) trail more ∙ or_left (is_used u trail) (is_used u more) here ∙ sym here
      | false ↦ λ e. list_any-append (λ r. txn_of r == u) trail more ∙ or_no (is_used u trail) (is_used u more) (not_used-of t u e more all)
    ] refl

-- a backout adds images of its transaction
abbrev pub More : ℕ → List Record → List Record → Type 0
More t trail new = (more : List Record) × (new ≡ trail ++ more) × AreOf t more

-- what is put back is added
pub put_back_more : (t : ℕ) (trail : List Record) (es : List (RecKey × Option (List ℕ))) → More t trail (put_back t trail es)
put_back_more t trail [] = ([], sym (append_nil' trail), tt)
  where
    append_nil' : (xs : List Record) → xs ++ [] ≡ xs
    append_nil' [] = refl
    append_nil' (x ∷ xs) = ap (λ (l : List Record). x ∷ l) (append_nil' xs)
put_back_more t trail (e ∷ es) =
    elim (same_value (raw nothing trail e.0) e.1) as (λ m. More t trail (put_back t (cond m trail (after_change trail t e.0 e.1)) es)) [
      | true ↦ put_back_more t trail es
      | false ↦
          let r : Record = Image t e.0.vol e.0.file e.0.key (raw nothing trail e.0) e.1 in
          let rest = put_back_more t (trail ++ r ∷ []) es in
          (r ∷ rest.0, rest.1 ∙ append_assoc trail (r ∷ []) rest.0, (refl, rest.2))
    ]

all_of-append : (t : ℕ) (xs : List Record) (r : Record) → AreOf t xs → txn_of r ≡ t → AreOf t (xs ++ r ∷ [])
all_of-append t [] r all is = (is, tt)
all_of-append t (x ∷ xs) r all is = (all.0, all_of-append t xs r all.1 is)

-- a line that ends an open transaction: records of it alone, and it has an outcome afterwards
pub record Ends (t : ℕ) (trail new : List Record) : Type 0 where
  pub more : List Record
  pub new_is : new ≡ trail ++ more
  pub all : AreOf t more
  pub ends : is_ended t (trail ++ more) ≡ true

ended_last : (trail : List Record) (r : Record) (t : ℕ) → is_outcome_of t r ≡ true → is_ended t (trail ++ r ∷ []) ≡ true
ended_last trail r t is = list_any-append (is_outcome_of t) trail (r ∷ []) ∙ or_right (is_ended t trail) (is_outcome_of t r || false) (or_left (is_outcome_of t r) false is)

-- a commit of an open transaction ends it
pub commit_ends : (t : ℕ) (trail : List Record) → is_open t trail ≡ true → Ends t trail (after_commit trail t)
commit_ends t trail open_ = record {
  more = Commit t ∷ [];
  new_is = ap (λ m. cond m (trail ++ Commit t ∷ []) trail) open_;
  all = (refl, tt);
  ends = ended_last trail (Commit t) t (eq-eqb t t refl);
}

-- so does an abort
pub abort_ends : (t : ℕ) (trail : List Record) → is_open t trail ≡ true → Ends t trail (after_abort trail t)
abort_ends t trail open_ =
    let back = put_back_more t trail (found_by trail t) in
    let whole : put_back t trail (found_by trail t) ++ Abort t ∷ [] ≡ trail ++ (back.0 ++ Abort t ∷ []) = ap (λ (l : List Record). l ++ Abort t ∷ []) back.1 ∙ append_assoc trail back.0 (Abort t ∷ []) in
    record {
      more = back.0 ++ Abort t ∷ [];
      new_is = ap (λ m. cond m (put_back t trail (found_by trail t) ++ Abort t ∷ []) trail) open_ ∙ whole;
      all = all_of-append t back.0 (Abort t) back.2 refl;
      ends = ap (λ (l : List Record). is_ended t l) (sym whole) ∙ ended_last (put_back t trail (found_by trail t)) (Abort t) t (eq-eqb t t refl);
    }
