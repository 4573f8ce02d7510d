-- The table goes on to tell of the trail.
use Rattle.std.proofs.Common.{◌≡◌, ℕ, Bool, true, false, not, cond, ◌&&◌, ◌||◌, ◌==◌, List, [], ◌∷◌, ◌++◌, length, Option, Some, None, IfSome, is_some, Result, Ok, Err, OnOk, is_err, refl, sym, ap, ◌∙◌, subst, arith, filter_map}
use Rattle.std.specs.Ordering.{nat_cmp}
use Rattle.std.specs.Cmp.{nat_cmp_total, nat_eq_equiv, unsigned_tied}
use Rattle.std.specs.List.{list_any, cons_option}
use Rattle.std.specs.Option.{option_or}
use Rattle.std.specs.FinMap as map
use Rattle.std.specs.FinSet as set
use Rattle.std.specs.BTreeSet as sorted
use Rattle.std.specs.BTreeMap.{is_at}
use Rattle.std.proofs.Math.Bool.{and-true, or-false}
use Rattle.std.proofs.lemmas.Bool.{eqb-true, and_parts, or_parts, or_right, eq-eqb}
use Rattle.std.proofs.lemmas.List.Folds.{list_any-append}
use Rattle.std.proofs.lemmas.Bool.Decides.{nat_tests}
use Rattle.rdf_types.specs.declared.records.Record.{Record}
use Rattle.rdf_types.specs.declared.records.Record.TheVariants.{Image, Commit, Abort}
use Rattle.rdf_types.specs.declared.records.RecKey.{RecKey}
use Rattle.rdf_types.specs.Places.{same_place, same_place-is, same_place-itself, place_cmp, place_cmp_total, place_cmp_exact}
use Rattle.record_locks.specs.Locks.{owner_of, is_open_to, freed}
use Rattle.rdf_model.specs.Contents.{nothing, place}
use Rattle.rdf_model.specs.Trail.{raw, is_outcome_of, has_image, is_ended, is_open, before_of, txn_of, first_of, first_before, owner}
use Rattle.rdf_model.specs.Legal.{Legal}
use Rattle.rdf_model.specs.Lines.{after_change, after_commit, after_abort, put_back, found_of, found_by}
use Rattle.rdf_model.specs.Running.{is_used, IsRunning}
use Rattle.rdf_model.specs.SearchLaws.{first_of-append, first_before-append, found-first_before}
use Rattle.active_txns.specs.Founds.{FirstBefore, Founds, noted, found_or_none, found_at}
use Rattle.active_txns.specs.Tells.{IsFound, IsWhatWasFound, Tells}
use Rattle.active_txns.specs.Steps.{Begins, Notes, Leaves}
use Rattle.active_txns.specs.declared.table.ActiveTxns.{ActiveTxns}
use Rattle.std.proofs.lemmas.List.{nil_from_length}
use Rattle.active_txns.proofs.EndLemmas.{owner_more, owner_none, no_first}
use Rattle.rdf_model.specs.EndLaws.{Ends, first_of-more, used_more, commit_ends, abort_ends, turned}
use Rattle.rdf_model.specs.Holding.{OneHolder}

pub tells_new : (txns : ActiveTxns) → txns.active ≡ map.empty → txns.used.keys ≡ [] → txns.locks ≡ map.empty → Tells txns [] set.empty
tells_new txns active used locks = record {
  exact = λ t. ap (λ m. is_some (map.get m t)) active ∙ ap (λ o. is_some o) (map.get-empty nat_cmp t) ∙ sym (set.contains-empty nat_cmp t);
  found = λ t. subst (λ o. IfSome o (λ found. IsFound [] t found)) (sym (ap (λ m. map.get m t) active ∙ map.get-empty nat_cmp t)) tt;
  used = λ t. ap (λ ks. list_any (is_at (nat_cmp t)) ks) used;
  locked = λ k. ap (λ m. map.get m k) locks ∙ map.get-empty place_cmp k;
}

-- a look-up after one transaction was set
at_insert : (m : Founds) (t : ℕ) (f : FirstBefore) (u : ℕ) → map.get (map.insert m t f) u ≡ cond (u == t) (Some f) (map.get m u)
at_insert m t f u = map.get-insert nat_cmp_total m t f u ∙ ap (λ b. cond b (Some f) (map.get m u)) (unsigned_tied u t)

at_remove : (m : Founds) (t u : ℕ) → map.get (map.remove m t) u ≡ cond (u == t) None (map.get m u)
at_remove m t u = map.get-remove nat_cmp_total m t u ∙ ap (λ b. cond b None (map.get m u)) (unsigned_tied u t)

in_insert : (s : set.FinSet nat_cmp) (t u : ℕ) → set.contains (set.insert s t) u ≡ ((u == t) || set.contains s u)
in_insert s t u = set.contains-insert nat_cmp_total s t u ∙ ap (λ b. b || set.contains s u) (unsigned_tied u t)

in_remove : (s : set.FinSet nat_cmp) (t u : ℕ) → set.contains (set.remove s t) u ≡ (not (u == t) && set.contains s u)
in_remove s t u = set.contains-remove nat_cmp_total s t u ∙ ap (λ b. not b && set.contains s u) (unsigned_tied u t)

some_cond : {X : Type 0} (b : Bool) (x : X) (o : Option X) → is_some (cond b (Some x) o) ≡ (b || is_some o)
some_cond true x o = refl
some_cond false x o = refl

none_cond : {X : Type 0} (b : Bool) (o : Option X) → is_some (cond b None o) ≡ (not b && is_some o)
none_cond true o = refl
none_cond false o = refl

-- a number that is not used has no image
unused_image : (t : ℕ) (trail : List Record) → is_used t trail ≡ false → has_image t trail ≡ false
unused_image t [] e = refl
unused_image t (Image u v f k b a ∷ rest) e = let parts = or_parts (u == t) (is_used t rest) e in ap (λ m. m || has_image t rest) parts.0 ∙ unused_image t rest parts.1
unused_image t (Commit u ∷ rest) e = unused_image t rest (or_parts (u == t) (is_used t rest) e).1
unused_image t (Abort u ∷ rest) e = unused_image t rest (or_parts (u == t) (is_used t rest) e).1

pub found_nothing : (t : ℕ) (trail : List Record) → is_used t trail ≡ false → IsFound trail t map.empty
found_nothing t trail fresh q = map.get-empty place_cmp q ∙ sym (no_first t q trail (unused_image t trail fresh))

pub tells_begin : (x y : ActiveTxns) (trail : List Record) (active : set.FinSet nat_cmp) (t : ℕ) → Begins t x y → Tells x trail active → is_used t trail ≡ false → Tells y trail (set.insert active t)
tells_begin x y trail active t s h fresh = record {
  exact = λ u. ap (λ o. is_some o) (now u) ∙ some_cond (u == t) map.empty (map.get x.active u) ∙ ap (λ b. (u == t) || b) (h.exact u) ∙ sym (in_insert active t u);
  found = λ u. subst (λ o. IfSome o (λ found. IsFound trail u found)) (sym (now u))
      (elim (u == t) as (λ m. (u == t) ≡ m → IfSome (cond m (Some map.empty) (map.get x.active u)) (λ found. IsFound trail u found)) [
        | true ↦ λ e. subst (λ n. IsFound trail n map.empty) (sym (eqb-true u t e)) (found_nothing t trail fresh)
        | false ↦ λ e. h.found u
      ] refl);
  used = λ u. ap (λ s. sorted.contains nat_cmp s u) s.used ∙ h.used u;
  locked = λ k. ap (λ m. owner_of m k) s.locks ∙ h.locked k;
}
  where
    now : (u : ℕ) → map.get y.active u ≡ cond (u == t) (Some map.empty) (map.get x.active u)
    now u = ap (λ m. map.get m u) s.active ∙ at_insert x.active t map.empty u

pub began : {E : Type 0} (r : Result Unit E) (x y : ActiveTxns) (t : ℕ) → OnOk r (y.active ≡ map.insert x.active t map.empty) → y.used ≡ x.used → y.locks ≡ x.locks →
    OnOk r ((trail : List Record) (active : set.FinSet nat_cmp) → Tells x trail active → is_used t trail ≡ false → Tells y trail (set.insert active t))
began (Ok u) x y t ok used locks = λ trail active h fresh. tells_begin x y trail active t (record { active = ok; used = used; locks = locks }) h fresh
began (Err e) x y t ok used locks = tt

-- what is noted of one more image
noted_found : (trail : List Record) (t : ℕ) (found : FirstBefore) (k : RecKey) (before after : Option (List ℕ)) → IsFound trail t found →
    IsFound (trail ++ Image t k.vol k.file k.key before after ∷ []) t (noted found k before)
noted_found trail t found k before after h q =
    elim (is_some (map.get found k)) as (λ m. is_some (map.get found k) ≡ m → map.get (cond m found (map.insert found k before)) q ≡ first_before (λ u. u == t) q (trail ++ Image t k.vol k.file k.key before after ∷ [])) [
      | true ↦ λ e. h q ∙ had (first_before (λ u. u == t) q trail) (same_place q k) (λ s. ap (λ o. is_some o) (sym (h q) ∙ ap (map.get found) (same_place-is q k s)) ∙ e) ∙ sym shown
      | false ↦ λ e. map.get-insert place_cmp_total found k before q ∙ ap (cond (same_place q k) (Some before)) (h q)
          ∙ had_not (first_before (λ u. u == t) q trail) (same_place q k) (λ s. ap (λ o. is_some o) (sym (h q) ∙ ap (map.get found) (same_place-is q k s)) ∙ e) ∙ sym shown
    ] refl
  where
    shown : first_before (λ u. u == t) q (trail ++ Image t k.vol k.file k.key before after ∷ []) ≡ option_or (first_before (λ u. u == t) q trail) (cond (same_place q k) (Some before) None)
    shown = first_before-append (λ u. u == t) q trail (Image t k.vol k.file k.key before after ∷ [])
        ∙ ap (λ m. option_or (first_before (λ u. u == t) q trail) (cond (m && same_place q k) (Some before) None)) (eq-eqb t t refl)

    had : (o : Option (Option (List ℕ))) (s : Bool) → (s ≡ true → is_some o ≡ true) → o ≡ option_or o (cond s (Some before) None)
    had (Some x) s some = refl
    had None true some = let no = some refl in cc
    had None false some = refl

    had_not : (o : Option (Option (List ℕ))) (s : Bool) → (s ≡ true → is_some o ≡ false) → cond s (Some before) o ≡ option_or o (cond s (Some before) None)
    had_not (Some x) true none = let no = none refl in cc
    had_not (Some x) false none = refl
    had_not None s none = refl

-- an image of another transaction
other_found : (trail : List Record) (t u : ℕ) (found : FirstBefore) (k : RecKey) (before after : Option (List ℕ)) → (u == t) ≡ false → IsFound trail u found →
    IsFound (trail ++ Image t k.vol k.file k.key before after ∷ []) u found
other_found trail t u found k before after e h q =
    h q ∙ sym (first_of-more before_of (λ w. w == u) q t trail (Image t k.vol k.file k.key before after ∷ []) (turned t u e) (refl, tt))

-- one more image, of a place that nobody else owns; the transaction may be active from now on
pub tells_image : (x y : ActiveTxns) (trail : List Record) (active now_active : set.FinSet nat_cmp) (t : ℕ) (k : RecKey) (before after : Option (List ℕ)) → Notes t k before x y → Tells x trail active →
    IsFound trail t (found_at x.active t) → is_ended t trail ≡ false → ((u : ℕ) → set.contains now_active u ≡ ((u == t) || set.contains active u)) →
    Tells y (trail ++ Image t k.vol k.file k.key before after ∷ []) now_active
tells_image x y trail active now_active t k before after s h mine running actives = record {
  exact = λ u. ap (λ o. is_some o) (now u) ∙ some_cond (u == t) f (map.get x.active u) ∙ ap (λ b. (u == t) || b) (h.exact u) ∙ sym (actives u);
  found = λ u. subst (λ o. IfSome o (λ found. IsFound (trail ++ r ∷ []) u found)) (sym (now u))
      (elim (u == t) as (λ m. (u == t) ≡ m → IfSome (cond m (Some f) (map.get x.active u)) (λ found. IsFound (trail ++ r ∷ []) u found)) [
        | true ↦ λ e. subst (λ n. IsFound (trail ++ r ∷ []) n f) (sym (eqb-true u t e)) (noted_found trail t (found_at x.active t) k before after mine)
        | false ↦ λ e. others u e (map.get x.active u) (h.found u)
      ] refl);
  used = λ u. s.used u ∙ ap (λ b. (u == t) || b) (h.used u) ∙ or_turned (u == t) (is_used u trail) (t == u) (nat_eq_equiv.symm u t) ∙ sym (list_any-append (λ r. txn_of r == u) trail (r ∷ []));
  locked = λ q. ap (λ m. map.get m q) s.locks ∙ map.get-insert place_cmp_total x.locks k t q ∙ owners q;
}
  where
    r : Record
    r = Image t k.vol k.file k.key before after

    f : FirstBefore
    f = noted (found_at x.active t) k before

    now : (u : ℕ) → map.get y.active u ≡ cond (u == t) (Some f) (map.get x.active u)
    now u = ap (λ m. map.get m u) s.active ∙ at_insert x.active t f u

    others : (u : ℕ) → (u == t) ≡ false → (o : Option FirstBefore) → IfSome o (λ found. IsFound trail u found) → IfSome o (λ found. IsFound (trail ++ r ∷ []) u found)
    others u e None was = tt
    others u e (Some found) was = other_found trail t u found k before after e was

    or_turned : (a b c : Bool) → a ≡ c → (a || b) ≡ (b || (c || false))
    or_turned true true c e = refl
    or_turned true false c e = e ∙ sym (or-false c)
    or_turned false true c e = refl
    or_turned false false true e = e
    or_turned false false false e = refl

    same_ended : (u : ℕ) → is_ended u (trail ++ r ∷ []) ≡ is_ended u trail
    same_ended u = list_any-append (is_outcome_of u) trail (r ∷ []) ∙ or-false (is_ended u trail)

    step : (o : Option ℕ) (m : Bool) → (m ≡ true → is_open_to t o ≡ true) → cond m (Some t) o ≡ option_or o (cond m (Some t) None)
    step None m free = refl
    step (Some by) false free = refl
    step (Some by) true free = ap (λ n. Some n) (eqb-true t by (free refl))

    owners : (q : RecKey) → cond (same_place q k) (Some t) (map.get x.locks q) ≡ owner (trail ++ r ∷ []) q
    owners q =
        ap (cond (same_place q k) (Some t)) (h.locked q)
        ∙ step (owner trail q) (same_place q k) (λ same. ap (is_open_to t) (sym (h.locked q) ∙ ap (map.get x.locks) (same_place-is q k same)) ∙ s.free)
        ∙ sym (
        (λ i. first_of txn_of (λ u. not (same_ended u i)) q (trail ++ r ∷ []))
        ∙ first_of-append txn_of (λ u. not (is_ended u trail)) q trail (r ∷ [])
        ∙ ap (λ m. option_or (owner trail q) (cond (not m && same_place q k) (Some t) None)) running
        )

-- what a transaction found, as a map
found_now : (x : ActiveTxns) (trail : List Record) (active : set.FinSet nat_cmp) (t : ℕ) → Tells x trail active → set.contains active t ≡ true → IsFound trail t (found_at x.active t)
found_now x trail active t h runs = there (map.get x.active t) (h.exact t ∙ runs) (h.found t)
  where
    there : (o : Option FirstBefore) → is_some o ≡ true → IfSome o (λ found. IsFound trail t found) → IsFound trail t (found_or_none o)
    there None some is = cc
    there (Some found) some is = is

pub tells_change : (x y : ActiveTxns) (trail : List Record) (active : set.FinSet nat_cmp) (t : ℕ) (k : RecKey) (before after : Option (List ℕ)) → Notes t k before x y → Tells x trail active →
    IsRunning trail active → set.contains active t ≡ true → before ≡ raw nothing trail k → Tells y (after_change trail t k after) active
tells_change x y trail active t k before after s h run runs reads =
    subst (λ b. Tells y (trail ++ Image t k.vol k.file k.key b after ∷ []) active) reads
    (tells_image x y trail active active t k before after s h (found_now x trail active t h runs) (run.unended t runs) same)
  where
    same : (u : ℕ) → set.contains active u ≡ ((u == t) || set.contains active u)
    same u = elim (u == t) as (λ m. (u == t) ≡ m → set.contains active u ≡ (m || set.contains active u)) [
      | true ↦ λ e. subst (λ n. set.contains active n ≡ true) (sym (eqb-true u t e)) runs
      | false ↦ λ e. refl
    ] refl

-- the transaction left, and the trail has records of it alone more
leave : (x y : ActiveTxns) (trail new : List Record) (active : set.FinSet nat_cmp) (t : ℕ) → Leaves t x y → Tells x trail active →
    ((u : ℕ) (q : RecKey) → (u == t) ≡ false → first_before (λ w. w == u) q new ≡ first_before (λ w. w == u) q trail) → ((u : ℕ) → is_used u new ≡ is_used u trail) →
    ((k : RecKey) → owner new k ≡ freed t (owner trail k)) → Tells y new (set.remove active t)
leave x y trail new active t s h firsts used owners = record {
  exact = λ u. ap (λ o. is_some o) (now u) ∙ none_cond (u == t) (map.get x.active u) ∙ ap (λ b. not (u == t) && b) (h.exact u) ∙ sym (in_remove active t u);
  found = λ u. subst (λ o. IfSome o (λ found. IsFound new u found)) (sym (now u))
      (elim (u == t) as (λ m. (u == t) ≡ m → IfSome (cond m None (map.get x.active u)) (λ found. IsFound new u found)) [
        | true ↦ λ e. tt
        | false ↦ λ e. others u e (map.get x.active u) (h.found u)
      ] refl);
  used = λ u. ap (λ s. sorted.contains nat_cmp s u) s.used ∙ h.used u ∙ sym (used u);
  locked = λ k. s.locks k ∙ ap (freed t) (h.locked k) ∙ sym (owners k);
}
  where
    now : (u : ℕ) → map.get y.active u ≡ cond (u == t) None (map.get x.active u)
    now u = ap (λ m. map.get m u) s.active ∙ at_remove x.active t u

    others : (u : ℕ) → (u == t) ≡ false → (o : Option FirstBefore) → IfSome o (λ found. IsFound trail u found) → IfSome o (λ found. IsFound new u found)
    others u e None was = tt
    others u e (Some found) was = λ q. was q ∙ sym (firsts u q e)

image_used : (t : ℕ) (trail : List Record) → has_image t trail ≡ true → is_used t trail ≡ true
image_used t [] e = cc
image_used t (Image u v f k b a ∷ rest) e = elim (u == t) as (λ m. (m || has_image t rest) ≡ true → (m || is_used t rest) ≡ true) [
  | true ↦ λ d. refl
  | false ↦ λ d. image_used t rest d
] e
image_used t (Commit u ∷ rest) e = or_right (u == t) (is_used t rest) (image_used t rest e)
image_used t (Abort u ∷ rest) e = or_right (u == t) (is_used t rest) (image_used t rest e)

tells_ends : OneHolder → (x y : ActiveTxns) (trail new : List Record) (active : set.FinSet nat_cmp) (t : ℕ) → Leaves t x y → Tells x trail active → Legal nothing trail → has_image t trail ≡ true → Ends t trail new →
    Tells y new (set.remove active t)
tells_ends one x y trail new active t s h legal image e =
    subst (λ l. Tells y l (set.remove active t)) (sym e.new_is)
    (leave x y trail (trail ++ e.more) active t s h
    (λ u q d. first_of-more before_of (λ w. w == u) q t trail e.more (turned t u d) e.all)
    (used_more t trail e.more e.all (image_used t trail image))
    (owner_more one t trail e.more legal e.all e.ends))

-- a transaction that ends, with an image or without
module _ (one : OneHolder) (x y : ActiveTxns) (trail : List Record) (active : set.FinSet nat_cmp) (t : ℕ) (s : Leaves t x y) (h : Tells x trail active) (run : IsRunning trail active) (runs : set.contains active t ≡ true) where
  closed : is_open t trail ≡ false → Tells y trail (set.remove active t)
  closed shut = leave x y trail trail active t s h (λ u q d. refl) (λ u. refl) (owner_none one t trail run.legal none)
    where
      no_left : (a b : Bool) → b ≡ false → (a && not b) ≡ false → a ≡ false
      no_left true b e d = sym (ap not e) ∙ d
      no_left false b e d = refl

      none : has_image t trail ≡ false
      none = no_left (has_image t trail) (is_ended t trail) (run.unended t runs) shut

  ended_by : (line : Bool → List Record) → line false ≡ trail → (is_open t trail ≡ true → Ends t trail (line true)) → Tells y (line (is_open t trail)) (set.remove active t)
  ended_by line same ends = elim (is_open t trail) as (λ m. is_open t trail ≡ m → Tells y (line m) (set.remove active t)) [
    | true ↦ λ e. tells_ends one x y trail (line true) active t s h run.legal (and_parts (has_image t trail) (not (is_ended t trail)) e).0 (ends e)
    | false ↦ λ e. subst (λ l. Tells y l (set.remove active t)) (sym same) (closed e)
  ] refl

  pub tells_commit : Tells y (after_commit trail t) (set.remove active t)
  tells_commit = ended_by (λ m. cond m (trail ++ Commit t ∷ []) trail) refl (λ e. subst (Ends t trail) (ap (λ m. cond m (trail ++ Commit t ∷ []) trail) e) (commit_ends t trail e))

  pub tells_abort : Tells y (after_abort trail t) (set.remove active t)
  tells_abort = ended_by (λ m. cond m (back ++ Abort t ∷ []) trail) refl (λ e. subst (Ends t trail) (ap (λ m. cond m (back ++ Abort t ∷ []) trail) e) (abort_ends t trail e))
    where
      back : List Record
      back = put_back t trail (found_by trail t)

module _ (one : OneHolder) (x y : ActiveTxns) (t : ℕ) (active_is : y.active ≡ map.remove x.active t) (used_is : y.used ≡ x.used) (locks_are : (k : RecKey) → owner_of y.locks k ≡ freed t (owner_of x.locks k)) where
  left : Leaves t x y
  left = record { active = active_is; used = used_is; locks = locks_are }

  pub left_commit : (trail : List Record) (active : set.FinSet nat_cmp) → Tells x trail active → IsRunning trail active → set.contains active t ≡ true → Tells y (after_commit trail t) (set.remove active t)
  left_commit trail active h run runs = tells_commit one x y trail active t left h run runs

  pub left_abort : (trail : List Record) (active : set.FinSet nat_cmp) → Tells x trail active → IsRunning trail active → set.contains active t ≡ true → Tells y (after_abort trail t) (set.remove active t)
  left_abort trail active h run runs = tells_abort one x y trail active t left h run runs

abbrev no_pairs : List (RecKey × Option (List ℕ))
no_pairs = []

-- what was found, as a list
abbrev is_empty_list : {X : Type 0} → List X → Bool
is_empty_list [] = true
is_empty_list (x ∷ xs) = false

len_zero : {X : Type 0} (xs : List X) → (length xs == 0) ≡ is_empty_list xs
len_zero [] = refl
len_zero (x ∷ xs) = grind (arith, nat_tests)

nothing_found : (t : ℕ) (trail : List Record) → has_image t trail ≡ false → filter_map (found_of t) trail ≡ []
nothing_found t [] e = refl
nothing_found t (Commit u ∷ rest) e = nothing_found t rest e
nothing_found t (Abort u ∷ rest) e = nothing_found t rest e
nothing_found t (Image u v f k b a ∷ rest) e =
    let parts = or_parts (u == t) (has_image t rest) e in
    ap (λ m. cons_option (cond m (Some (place v f k, b)) None) (filter_map (found_of t) rest)) parts.0 ∙ nothing_found t rest parts.1

some_found : (t : ℕ) (trail : List Record) → has_image t trail ≡ true → (k : RecKey) × (is_some (first_before (λ u. u == t) k trail) ≡ true)
some_found t [] e = cc
some_found t (Commit u ∷ rest) e = some_found t rest e
some_found t (Abort u ∷ rest) e = some_found t rest e
some_found t (Image u v f k b a ∷ rest) e = go (u == t) e (some_found t rest)
  where
    go : (m : Bool) → (m || has_image t rest) ≡ true → (has_image t rest ≡ true → (q : RecKey) × (is_some (first_before (λ w. w == t) q rest) ≡ true)) →
        (q : RecKey) × (is_some (cond (m && same_place q (place v f k)) (Some b) (first_before (λ w. w == t) q rest)) ≡ true)
    go true h more = (place v f k, ap (λ s. is_some (cond s (Some b) (first_before (λ w. w == t) (place v f k) rest))) (same_place-itself (place v f k)))
    go false h more = more h

found_list : (trail : List Record) (t : ℕ) (found : FirstBefore) → IsFound trail t found → found ≡ map.from_entries (filter_map (found_of t) trail)
found_list trail t found h =
    map.same_map place_cmp_total place_cmp_exact _ _ (λ q. h q ∙ sym (map.get-from_entries place_cmp_total (filter_map (found_of t) trail) q ∙ found-first_before t q trail))

pub what_was_found : (x : ActiveTxns) (trail : List Record) (active : set.FinSet nat_cmp) (t : ℕ) (r : Option FirstBefore) → r ≡ map.get x.active t → Tells x trail active → IsRunning trail active → set.contains active t ≡ true →
    (found : FirstBefore) × (r ≡ Some found) × IsWhatWasFound trail t found
what_was_found x trail active t r is h run runs = go r (ap (λ o. is_some o) is ∙ h.exact t ∙ runs) (subst (λ o. IfSome o (λ found. IsFound trail t found)) (sym is) (h.found t))
  where
    open_is : is_open t trail ≡ has_image t trail
    open_is = ap (λ m. has_image t trail && not m) (run.unended t runs) ∙ and-true (has_image t trail)

    list_is : (found : FirstBefore) → IsFound trail t found → map.entries found ≡ found_by trail t
    list_is found f = ap map.entries (found_list trail t found f)

    some_entry : (es : List (RecKey × Option (List ℕ))) (k : RecKey) → is_some (map.find place_cmp k es) ≡ true → is_empty_list es ≡ false
    some_entry [] k some = cc
    some_entry (e ∷ es) k some = refl

    empty_is : (found : FirstBefore) → IsFound trail t found → (m : Bool) → has_image t trail ≡ m → is_empty_list (map.entries found) ≡ not m
    empty_is found f true image =
        let place_ = some_found t trail image in
        some_entry (map.entries found) place_.0 (ap (λ o. is_some o) (sym (map.get-entries found place_.0) ∙ f place_.0) ∙ place_.1)
    empty_is found f false image =
        ap is_empty_list (list_is found f ∙ ap (λ es. map.entries (map.from_entries {R = place_cmp} es)) (nothing_found t trail image) ∙ no_entries_left)
      where
        no_entries_left : map.entries (map.from_entries {R = place_cmp} (no_pairs)) ≡ []
        no_entries_left = nil_from_length (map.entries (map.from_entries {R = place_cmp} no_pairs)) (sym (map.len-entries (map.from_entries {R = place_cmp} no_pairs)) ∙ map.len-empty place_cmp (Option (List ℕ)))

    go : (o : Option FirstBefore) → is_some o ≡ true → IfSome o (λ found. IsFound trail t found) → (found : FirstBefore) × (o ≡ Some found) × IsWhatWasFound trail t found
    go None some f = cc
    go (Some found) some f = (
      found,
      refl,
      record {
        listed = list_is found f;
        empty = ap (λ n. n == 0) (map.len-entries found) ∙ len_zero (map.entries found) ∙ empty_is found f (has_image t trail) refl ∙ ap not (sym open_is);
      },
    )

-- what a change notes
pub noted_step : {E : Type 0} (r : Result Unit E) (x y : ActiveTxns) (t : ℕ) (k : RecKey) (before : Option (List ℕ)) → OnOk r (y.active ≡ map.insert x.active t (noted (found_at x.active t) k before)) →
    ((u : ℕ) → sorted.contains nat_cmp y.used u ≡ cond (is_at (nat_cmp t) u) true (sorted.contains nat_cmp x.used u)) → y.locks ≡ map.insert x.locks k t → is_open_to t (owner_of x.locks k) ≡ true →
    OnOk r (Notes t k before x y)
noted_step (Ok u) x y t k before active used locks free = record {
  active = active;
  used = λ w. used w ∙ as_or (is_at (nat_cmp t) w) (sorted.contains nat_cmp x.used w) ∙ ap (λ b. b || sorted.contains nat_cmp x.used w) (unsigned_tied t w ∙ nat_eq_equiv.symm t w);
  locks = locks;
  free = free;
}
  where
    as_or : (a b : Bool) → cond a true b ≡ (a || b)
    as_or true b = refl
    as_or false b = refl
noted_step (Err e) x y t k before active used locks free = tt

pub noted_tells : {E : Type 0} (r : Result Unit E) (x y : ActiveTxns) (t : ℕ) (k : RecKey) (before : Option (List ℕ)) → OnOk r (Notes t k before x y) →
    OnOk r ((trail : List Record) (active : set.FinSet nat_cmp) (after : Option (List ℕ)) → Tells x trail active → IsRunning trail active → set.contains active t ≡ true → before ≡ raw nothing trail k →
    Tells y (after_change trail t k after) active)
noted_tells (Ok u) x y t k before step = λ trail active after h run runs reads. tells_change x y trail active t k before after step h run runs reads
noted_tells (Err e) x y t k before step = tt

pub not_err : {E X : Type 0} (r : Result Unit E) → false ≡ is_err r → OnOk r X → X
not_err (Ok u) e h = h
not_err (Err x) e h = cc
