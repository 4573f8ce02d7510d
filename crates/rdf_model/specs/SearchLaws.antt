-- Laws of first images, and of one more record.
use Rattle.std.proofs.Common.{◌≡◌, ℕ, Bool, true, false, not, cond, ◌&&◌, ◌||◌, ◌==◌, List, [], ◌∷◌, ◌++◌, Option, Some, None, refl, sym, ap, subst, arith, filter_map, ◌⊎◌, inl, inr}
use Rattle.std.specs.Option.{option_or}
use Rattle.std.specs.List.{cons_option}
use Rattle.std.proofs.lemmas.Bool.{eqb-true}
use Rattle.std.proofs.lemmas.List.Sums.{fold-append}
use Rattle.std.proofs.lemmas.List.Folds.{list_any-append}
use Rattle.rdf_types.specs.declared.records.Record.{Record}
use Rattle.rdf_types.specs.declared.records.Record.TheVariants.{Image, Commit, Abort}
use Rattle.rdf_types.specs.declared.records.RecKey.{RecKey}
use Rattle.rdf_types.specs.Places.{same_place, place_cmp}
use Rattle.rdf_model.specs.Contents.{Contents, place}
use Rattle.rdf_model.specs.Trail.{after_record, raw, is_outcome_of, is_ended, is_change, before_of, first_of, first_before, txn_of}
use Rattle.std.specs.FinMap.{find}
use Rattle.rdf_model.specs.Lines.{found_of}

-- nothing else to choose from
pub or_none : {X : Type 0} (o : Option X) → option_or o None ≡ o
or_none None = refl
or_none (Some x) = refl

-- a search of two lists
pub first_of-append : {X : Type 0} (tell : Record → X) (who : ℕ → Bool) (q : RecKey) (xs ys : List Record) →
    first_of tell who q (xs ++ ys) ≡ option_or (first_of tell who q xs) (first_of tell who q ys)
first_of-append tell who q [] ys = refl
first_of-append tell who q (r ∷ xs) ys =
    elim (is_change who q r) as (λ b. cond b (Some (tell r)) (first_of tell who q (xs ++ ys)) ≡ option_or (cond b (Some (tell r)) (first_of tell who q xs)) (first_of tell who q ys)) [
      | true ↦ refl
      | false ↦ first_of-append tell who q xs ys
    ]

-- so of what an image tells that stood there
pub first_before-append : (who : ℕ → Bool) (q : RecKey) (xs ys : List Record) →
    first_before who q (xs ++ ys) ≡ option_or (first_before who q xs) (first_before who q ys)
first_before-append who q xs ys = first_of-append before_of who q xs ys

none_step : {X Y : Type 0} (p p' : Bool) (x : X) (y : Y) (o : Option X) (o' : Option Y) → (p' ≡ true → p ≡ true) → (o ≡ None → o' ≡ None) →
    cond p (Some x) o ≡ None → cond p' (Some y) o' ≡ None
none_step p p' x y o o' less more e = grind arith

fewer_changes : (who less : ℕ → Bool) (q : RecKey) → ((u : ℕ) → less u ≡ true → who u ≡ true) → (r : Record) → is_change less q r ≡ true → is_change who q r ≡ true
fewer_changes who less q h (Image u v f k b a) e = grind (arith, h u)
fewer_changes who less q h (Commit u) e = e
fewer_changes who less q h (Abort u) e = e

-- where there is no change by the transactions, there is none by fewer of them, whatever it is to tell
pub first_of-fewer : {X Y : Type 0} (tell : Record → X) (say : Record → Y) (who less : ℕ → Bool) (q : RecKey) → ((u : ℕ) → less u ≡ true → who u ≡ true) → (xs : List Record) →
    first_of tell who q xs ≡ None → first_of say less q xs ≡ None
first_of-fewer tell say who less q h [] e = refl
first_of-fewer tell say who less q h (r ∷ xs) e =
    none_step (is_change who q r) (is_change less q r) (tell r) (say r) (first_of tell who q xs) (first_of say less q xs)
    (fewer_changes who less q h r) (first_of-fewer tell say who less q h xs) e

-- so of what an image tells that stood there
pub first_before-fewer : (who less : ℕ → Bool) (q : RecKey) → ((u : ℕ) → less u ≡ true → who u ≡ true) → (xs : List Record) →
    first_before who q xs ≡ None → first_before less q xs ≡ None
first_before-fewer who less q h xs e = first_of-fewer before_of before_of who less q h xs e

alone_step : {X : Type 0} (w e s : Bool) (x : X) (y : Option (List ℕ)) (o p : Option X) (n : Option (Option (List ℕ))) → (e ≡ true → w ≡ true) → (n ≡ None → o ≡ p) →
    cond ((w && not e) && s) (Some y) n ≡ None → cond (w && s) (Some x) o ≡ cond (e && s) (Some x) p
alone_step w e s x y o p n less more h = grind arith

-- where no other of the transactions has a change, the first one is t's
pub first_of-alone : {X : Type 0} (tell : Record → X) (who : ℕ → Bool) (t : ℕ) (q : RecKey) → who t ≡ true → (xs : List Record) →
    first_before (λ u. who u && not (u == t)) q xs ≡ None → first_of tell who q xs ≡ first_of tell (λ u. u == t) q xs
first_of-alone tell who t q h [] e = refl
first_of-alone tell who t q h (Image u v f k b a ∷ xs) e =
    alone_step (who u) (u == t) (same_place q (place v f k)) (tell (Image u v f k b a)) b _ _ _
    (λ same. subst (λ n. who n ≡ true) (sym (eqb-true u t same)) h) (first_of-alone tell who t q h xs) e
first_of-alone tell who t q h (Commit u ∷ xs) e = first_of-alone tell who t q h xs e
first_of-alone tell who t q h (Abort u ∷ xs) e = first_of-alone tell who t q h xs e

-- the files after one more record
pub raw-more : (base : Contents) (trail : List Record) (r : Record) → raw base (trail ++ r ∷ []) ≡ after_record (raw base trail) r
raw-more base trail r = fold-append after_record base trail (r ∷ [])

-- the outcomes after one more record
pub is_ended-more : (t : ℕ) (trail : List Record) (r : Record) → is_ended t (trail ++ r ∷ []) ≡ (is_ended t trail || (is_outcome_of t r || false))
is_ended-more t trail r = list_any-append (is_outcome_of t) trail (r ∷ [])

-- what the map of the places that a transaction found has at a place
pub found-first_before : (t : ℕ) (q : RecKey) (xs : List Record) → find place_cmp q (filter_map (found_of t) xs) ≡ first_before (λ u. u == t) q xs
found-first_before t q [] = refl
found-first_before t q (Commit u ∷ xs) = found-first_before t q xs
found-first_before t q (Abort u ∷ xs) = found-first_before t q xs
found-first_before t q (Image u v f k b a ∷ xs) =
    elim (u == t) as (λ m. find place_cmp q (cons_option (cond m (Some (place v f k, b)) None) (filter_map (found_of t) xs)) ≡ cond (m && same_place q (place v f k)) (Some b) (first_before (λ u. u == t) q xs)) [
      | true ↦ ap (cond (same_place q (place v f k)) (Some b)) (found-first_before t q xs)
      | false ↦ found-first_before t q xs
    ]

txn_step : (t u : ℕ) (s : Bool) (o : Option ℕ) → (o ≡ None) ⊎ (o ≡ Some t) → (cond ((u == t) && s) (Some u) o ≡ None) ⊎ (cond ((u == t) && s) (Some u) o ≡ Some t)
txn_step t u s o h =
    elim (u == t) as (λ m. (u == t) ≡ m → (cond (m && s) (Some u) o ≡ None) ⊎ (cond (m && s) (Some u) o ≡ Some t)) [
      | true ↦ λ e. elim s as (λ m. (cond m (Some u) o ≡ None) ⊎ (cond m (Some u) o ≡ Some t)) [ true ↦ inr (ap Some (eqb-true u t e)) | false ↦ h ]
      | false ↦ λ e. h
    ] refl

-- the first image by one transaction is by that one
pub first_txn : (t : ℕ) (q : RecKey) (xs : List Record) → (first_of txn_of (λ u. u == t) q xs ≡ None) ⊎ (first_of txn_of (λ u. u == t) q xs ≡ Some t)
first_txn t q [] = inl refl
first_txn t q (Commit u ∷ xs) = first_txn t q xs
first_txn t q (Abort u ∷ xs) = first_txn t q xs
first_txn t q (Image u v f k b a ∷ xs) = txn_step t u (same_place q (place v f k)) (first_of txn_of (λ u. u == t) q xs) (first_txn t q xs)
