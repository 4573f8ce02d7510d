-- What backouts add to a trail, and what that leaves of what is kept.
use Rattle.std.proofs.Common.{◌≡◌, ◌≤◌, ℕ, zero, suc, ◌+◌, ◌-◌, Result, Ok, Err, OnOk, OnErr, Bool, true, false, not, cond, filter_map, ◌&&◌, ◌||◌, ◌==◌, List, [], ◌∷◌, ◌++◌, take, drop, length, fold, Option, Some, None, is_some, refl, sym, ap, ◌∙◌, subst, arith, append-nil, append_assoc}
use Rattle.std.proofs.lemmas.Bool.{eqb-true, and_parts, or_left, or_right}
use Rattle.std.proofs.lemmas.List.Folds.{list_any-append}
use Rattle.std.proofs.Math.Seq.{take-append-add, drop-append_seam}
use Rattle.std.specs.List.{AllByRecursion}
use Rattle.std.specs.Option.{option_or}
use Rattle.std.specs.Ordering.{nat_cmp}
use Rattle.std.specs.FinSet as set
use Rattle.std.specs.FinMap as map
use Rattle.rdf_types.specs.declared.records.RecKey.{RecKey}
use Rattle.rdf_types.specs.declared.records.Record.{Record}
use Rattle.rdf_types.specs.declared.records.Record.TheVariants.{Image, Commit, Abort}
use Rattle.rdf_types.specs.Places.{place_cmp, place_cmp_total, place_cmp_exact, same_place, same_place-is}
use Rattle.rdf_types.specs.MapViews.{entries_found}
use Rattle.rdf_model.specs.Contents.{nothing, place}
use Rattle.rdf_model.specs.Trail.{raw, txn_of, has_image, is_ended, is_outcome_of, is_open, first_before}
use Rattle.rdf_model.specs.Legal.{Legal}
use Rattle.rdf_model.specs.Lines.{after_change, found_of, found_by, put_back, same_value, after_abort}
use Rattle.rdf_model.specs.Running.{is_used}
use Rattle.rdf_model.specs.SearchLaws.{first_before-append, found-first_before}
use Rattle.rdf_model.specs.LegalLaws.{prefix_is_legal}
use Rattle.active_txns.specs.Founds.{Founds, found_at}
use Rattle.primary_machine.specs.Kept.{Lasts, AreLast, AreKept, AreFound, found_in}
use Rattle.primary_machine.specs.Backouts.{cut_at, Fits, without_aborted}
use Rattle.active_txns.specs.FoundLaws.{at_remove}
use Rattle.primary_machine.proofs.KeptLaws.{used_is}

-- an image of a place that its transaction changed before, or an abort of a transaction with a record
abbrev pub IsBack : List Record → Record → Type 0
IsBack trail (Image t v f k b a) = is_some (first_before (λ u. u == t) (place v f k) trail) ≡ true
IsBack trail (Commit t) = ⊥
IsBack trail (Abort t) = is_used t trail ≡ true

abbrev pub AreBack : List Record → List Record → Type 0
AreBack trail more = AllByRecursion (IsBack trail) more

-- the trail with such records behind it
pub record Adds (trail new : List Record) : Type 0 where
  pub more : List Record
  pub longer : new ≡ trail ++ more
  pub back : AreBack trail more

back_append : (trail xs ys : List Record) → AreBack trail xs → AreBack trail ys → AreBack trail (xs ++ ys)
back_append trail [] ys h g = g
back_append trail (x ∷ xs) ys h g = (h.0, back_append trail xs ys h.1 g)

back_take : (trail : List Record) (n : ℕ) (xs : List Record) → AreBack trail xs → AreBack trail (take n xs)
back_take trail zero [] h = tt
back_take trail (suc n) [] h = tt
back_take trail zero (x ∷ xs) h = tt
back_take trail (suc n) (x ∷ xs) h = (h.0, back_take trail n xs h.1)

-- what a transaction first found

none_more : (trail : List Record) (u : ℕ) (q : RecKey) → first_before (λ w. w == u) q trail ≡ None → (more : List Record) → AreBack trail more → first_before (λ w. w == u) q more ≡ None
none_more trail u q none [] h = refl
none_more trail u q none (Commit t ∷ more) h = absurd h.0
none_more trail u q none (Abort t ∷ more) h = none_more trail u q none more h.1
none_more trail u q none (Image t v f k b a ∷ more) h =
    elim ((t == u) && same_place q (place v f k)) as (λ m. ((t == u) && same_place q (place v f k)) ≡ m → cond m (Some b) (first_before (λ w. w == u) q more) ≡ None) [
      | true ↦ λ e.
          let p = and_parts (t == u) (same_place q (place v f k)) e in
          let there : is_some (first_before (λ w. w == u) q trail) ≡ true =
          subst (λ n. is_some (first_before (λ w. w == n) q trail) ≡ true) (eqb-true t u p.0)
          (subst (λ x. is_some (first_before (λ w. w == t) x trail) ≡ true) (sym (same_place-is q (place v f k) p.1)) h.0) in
          absurd (never (first_before (λ w. w == u) q trail) none there)
      | false ↦ λ e. none_more trail u q none more h.1
    ] refl
  where
    never : (o : Option (Option (List ℕ))) → o ≡ None → is_some o ≡ true → ⊥
    never None e f = cc
    never (Some x) e f = cc

pub first_known : (trail more : List Record) → AreBack trail more → (u : ℕ) (q : RecKey) → first_before (λ w. w == u) q (trail ++ more) ≡ first_before (λ w. w == u) q trail
first_known trail more h u q = first_before-append (λ w. w == u) q trail more ∙ by (first_before (λ w. w == u) q trail) refl
  where
    by : (o : Option (Option (List ℕ))) → first_before (λ w. w == u) q trail ≡ o → option_or o (first_before (λ w. w == u) q more) ≡ o
    by None e = none_more trail u q e more h
    by (Some x) e = refl

-- what is kept of what transactions found

gone : (founds : Founds) (more : List Record) (trail : List Record) → AreBack trail more → (t : ℕ) (q : RecKey) →
    map.get (found_at (fold without_aborted founds more) t) q ≡ cond (is_ended t more) None (map.get (found_at founds t) q)
gone founds [] trail h t q = refl
gone founds (Image u v f k b a ∷ more) trail h t q = gone founds more trail h.1 t q
gone founds (Commit u ∷ more) trail h t q = absurd h.0
gone founds (Abort u ∷ more) trail h t q =
    gone (map.remove founds u) more trail h.1 t q ∙ ap (λ f. cond (is_ended t more) None (map.get f q)) (at_remove founds u t) ∙ by (u == t) (is_ended t more)
  where
    by : (m e : Bool) → cond e None (map.get (cond m map.empty (found_at founds t)) q) ≡ cond (m || e) None (map.get (found_at founds t) q)
    by true true = refl
    by true false = map.get-empty place_cmp q
    by false e = refl

pub found_adds : (trail more : List Record) (founds : Founds) → AreBack trail more → AreFound trail founds → AreFound (trail ++ more) (fold without_aborted founds more)
found_adds trail more founds h found t q =
    gone founds more trail h t q ∙ ap (cond (is_ended t more) None) (found t q)
    ∙ by (is_ended t trail) (is_ended t more) (first_before (λ w. w == t) q trail)
    ∙ ap (λ m. cond m None (first_before (λ w. w == t) q trail)) (sym (list_any-append (is_outcome_of t) trail more))
    ∙ ap (cond (is_ended t (trail ++ more)) None) (sym (first_known trail more h t q))
  where
    by : (a b : Bool) (o : Option (Option (List ℕ))) → cond b None (cond a None o) ≡ cond (a || b) None o
    by true true o = refl
    by true false o = refl
    by false b o = refl

-- the transactions with a record

first_used : (t : ℕ) (q : RecKey) (trail : List Record) → is_some (first_before (λ w. w == t) q trail) ≡ true → is_used t trail ≡ true
first_used t q [] e = cc
first_used t q (Commit u ∷ rest) e = or_right (u == t) (is_used t rest) (first_used t q rest e)
first_used t q (Abort u ∷ rest) e = or_right (u == t) (is_used t rest) (first_used t q rest e)
first_used t q (Image u v f k b a ∷ rest) e =
    elim (u == t) as (λ m. is_some (cond (m && same_place q (place v f k)) (Some b) (first_before (λ w. w == t) q rest)) ≡ true → (m || is_used t rest) ≡ true) [
      | true ↦ λ g. refl
      | false ↦ λ g. first_used t q rest g
    ] e

back_used : (trail : List Record) (r : Record) → IsBack trail r → is_used (txn_of r) trail ≡ true
back_used trail (Image t v f k b a) h = first_used t (place v f k) trail h
back_used trail (Commit t) h = absurd h
back_used trail (Abort t) h = h

used_before : (trail : List Record) (u : ℕ) (more : List Record) → AreBack trail more → is_used u more ≡ true → is_used u trail ≡ true
used_before trail u [] h e = cc
used_before trail u (r ∷ more) h e =
    elim (txn_of r == u) as (λ m. (txn_of r == u) ≡ m → (m || is_used u more) ≡ true → is_used u trail ≡ true) [
      | true ↦ λ s g. subst (λ n. is_used n trail ≡ true) (eqb-true (txn_of r) u s) (back_used trail r h.0)
      | false ↦ λ s g. used_before trail u more h.1 g
    ] refl e

pub used_adds : (trail more : List Record) → AreBack trail more → (u : ℕ) → is_used u (trail ++ more) ≡ is_used u trail
used_adds trail more h u = list_any-append (λ r. txn_of r == u) trail more ∙ by (is_used u trail) (is_used u more) refl (used_before trail u more h)
  where
    by : (a b : Bool) → is_used u trail ≡ a → (b ≡ true → is_used u trail ≡ true) → (a || b) ≡ a
    by true b e f = refl
    by false true e f = sym (f refl) ∙ e
    by false false e f = refl

pub kept_adds : (trail new : List Record) (old lasts : Lasts) (numbers : set.FinSet nat_cmp) → Adds trail new → AreKept trail old numbers → AreLast new lasts → AreKept new lasts numbers
kept_adds trail new old lasts numbers a h l = record {
  values = l.values;
  txns = l.txns;
  used = λ u. h.used u ∙ sym (used_adds trail a.more a.back u) ∙ ap (is_used u) (sym a.longer);
}

-- what a backout adds

pub adds_none : (trail : List Record) → Adds trail trail
adds_none trail = record { more = []; longer = sym (append-nil trail); back = tt }

adds_one : (base trail : List Record) (r : Record) → Adds base trail → IsBack base r → Adds base (trail ++ r ∷ [])
adds_one base trail r a h = record {
  more = a.more ++ r ∷ [];
  longer = ap (λ (l : List Record). l ++ r ∷ []) a.longer ∙ append_assoc base a.more (r ∷ []);
  back = back_append base a.more (r ∷ []) a.back (h, tt);
}

Known : ℕ → List Record → List (RecKey × Option (List ℕ)) → Type 0
Known t base es = AllByRecursion (λ e. is_some (first_before (λ u. u == t) e.0 base) ≡ true) es

back_adds : (base : List Record) (t : ℕ) (trail : List Record) (es : List (RecKey × Option (List ℕ))) → Known t base es → Adds base trail → Adds base (put_back t trail es)
unfolding Known
back_adds base t trail [] h a = a
back_adds base t trail (e ∷ es) h a =
    elim (same_value (raw nothing trail e.0) e.1) as (λ m. Adds base (put_back t (cond m trail (after_change trail t e.0 e.1)) es)) [
      | true ↦ back_adds base t trail es h.1 a
      | false ↦ back_adds base t (after_change trail t e.0 e.1) es h.1 (adds_one base trail _ a h.0)
    ]

known_first : (base : List Record) (t : ℕ) (trail : List Record) → Adds base trail → (es all : List (RecKey × Option (List ℕ))) → all ≡ found_by trail t → AllByRecursion (λ e. map.find place_cmp e.0 all ≡ Some e.1) es → Known t base es
unfolding Known
known_first base t trail a [] all is h = tt
known_first base t trail a (e ∷ es) all is h = (
  ap (λ o. is_some o) (sym (first_known base a.more a.back t e.0) ∙ ap (λ (l : List Record). first_before (λ u. u == t) e.0 l) (sym a.longer) ∙ sym (found e.0) ∙ ap (map.find place_cmp e.0) (sym is) ∙ h.0),
  known_first base t trail a es all is h.1,
)
  where
    found : (q : RecKey) → map.find place_cmp q (found_by trail t) ≡ first_before (λ u. u == t) q trail
    found q = sym (map.get-entries (map.from_entries (filter_map (found_of t) trail)) q) ∙ map.get-from_entries place_cmp_total (filter_map (found_of t) trail) q ∙ found-first_before t q trail

used_open : (t : ℕ) (trail : List Record) → is_open t trail ≡ true → is_used t trail ≡ true
used_open t trail e = used_is t trail ∙ or_left (has_image t trail) (is_ended t trail) (and_parts (has_image t trail) (not (is_ended t trail)) e).0

pub abort_adds : (base trail : List Record) (t : ℕ) → Adds base trail → Adds base (after_abort trail t)
abort_adds base trail t a =
    elim (is_open t trail) as (λ m. is_open t trail ≡ m → Adds base (cond m (put_back t trail (found_by trail t) ++ Abort t ∷ []) trail)) [
      | true ↦ λ e.
          let known = known_first base t trail a (found_by trail t) (found_by trail t) refl (entries_found place_cmp place_cmp_total place_cmp_exact (map.from_entries (filter_map (found_of t) trail))) in
          let used : is_used t base ≡ true = sym (used_adds base a.more a.back t) ∙ ap (is_used t) (sym a.longer) ∙ used_open t trail e in
          adds_one base (put_back t trail (found_by trail t)) (Abort t) (back_adds base t trail (found_by trail t) known a) used
      | false ↦ λ e. a
    ] refl

pub aborts_add : (base trail : List Record) (ts : List ℕ) → Adds base trail → Adds base (fold after_abort trail ts)
aborts_add base trail [] a = a
aborts_add base trail (t ∷ ts) a = aborts_add base (after_abort trail t) ts (abort_adds base trail t a)

pub cut_adds : (most : Option ℕ) (trail new : List Record) → Fits most trail → Adds trail new → Adds trail (cut_at most new)
cut_adds None trail new h a = a
cut_adds (Some n) trail new h a = record {
  more = take (n - length trail) a.more;
  longer = ap (take n) a.longer ∙ ap (λ m. take m (trail ++ a.more)) (parts n (length trail) h) ∙ take-append-add trail a.more (n - length trail);
  back = back_take trail (n - length trail) a.more a.back;
}
  where
    parts : (n m : ℕ) → m ≤ n → n ≡ m + (n - m)
    parts n m h = omega (arith, h)

pub found_cut : (trail new : List Record) (founds later : Founds) (n : ℕ) → Adds trail new → n ≡ length trail → later ≡ fold without_aborted founds (drop n new) → AreFound trail founds → AreFound new later
found_cut trail new founds later n a len is h =
    λ t q. ap (λ (f : Founds). map.get (found_at f t) q) (is ∙ ap (fold without_aborted founds) rest) ∙ found_adds trail a.more founds a.back h t q ∙ ap (λ (l : List Record). found_in l t q) (sym a.longer)
  where
    rest : drop n new ≡ a.more
    rest = ap (drop n) a.longer ∙ ap (λ m. drop m (trail ++ a.more)) len ∙ drop-append_seam trail a.more

-- a backout keeps a trail legal
abbrev pub AbortIsLegal : Type 0
AbortIsLegal = (trail : List Record) (t : ℕ) → Legal nothing trail → Legal nothing (after_abort trail t)

-- so do several
pub aborts_legal : AbortIsLegal → (trail : List Record) (ts : List ℕ) → Legal nothing trail → Legal nothing (fold after_abort trail ts)
aborts_legal one trail [] legal = legal
aborts_legal one trail (t ∷ ts) legal = aborts_legal one (after_abort trail t) ts (one trail t legal)

pub adds_on : {E : Type 0} (r : Result Unit E) (most : Option ℕ) (trail new whole : List Record) → Fits most trail → Adds trail whole → OnOk r (new ≡ cut_at most whole) → OnErr r (new ≡ trail) → Adds trail new
adds_on (Ok u) most trail new whole h a ok err = subst (Adds trail) (sym ok) (cut_adds most trail whole h a)
adds_on (Err e) most trail new whole h a ok err = subst (Adds trail) (sym err) (adds_none trail)

pub cut_legal : AbortIsLegal → (most : ℕ) (trail new : List Record) (ts : List ℕ) → Legal nothing trail → new ≡ take most (fold after_abort trail ts) → Legal nothing new
cut_legal one most trail new ts legal is = subst (Legal nothing) (sym is) (prefix_is_legal nothing (fold after_abort trail ts) most (aborts_legal one trail ts legal))
