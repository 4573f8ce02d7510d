-- The table of a trail that was opened, record by record.
use Rattle.std.proofs.Common.{◌≡◌, ℕ, Bool, true, false, not, inl, inr, Result, Ok, Err, OnOk, cond, ◌&&◌, ◌||◌, ◌==◌, nat_eq, List, [], ◌∷◌, ◌++◌, filter_map, Option, Some, None, IfSome, refl, sym, ap, ◌∙◌, subst, arith}
use Rattle.std.specs.Ordering.{nat_cmp, eq_by_cmp}
use Rattle.std.specs.Cmp.{nat_cmp_total, unsigned_tied}
use Rattle.std.specs.Cmp.Lexicographic.{pointwise}
use Rattle.std.specs.List.{AllByRecursion}
use Rattle.std.specs.FinMap as map
use Rattle.std.specs.FinSet as set
use Rattle.std.proofs.lemmas.Map.Lookups.{exact_unsigned}
use Rattle.std.proofs.lemmas.Bool.{eqb-true, and_parts, and_from, or_right, or_cases, eq-eqb}
use Rattle.std.proofs.lemmas.Bool.Decides.{nat_tests}
use Rattle.std.proofs.lemmas.List.Folds.{list_any-append}
use Rattle.rdf_types.specs.declared.records.Record.{Record}
use Rattle.rdf_types.specs.declared.records.Record.TheVariants.{Image, Commit, Abort}
use Rattle.rdf_types.specs.declared.records.RecKey.{RecKey}
use Rattle.rdf_types.specs.Places.{place_cmp, place_cmp_total, place_cmp_exact}
use Rattle.rdf_types.specs.MapViews.{entries_found}
use Rattle.rdf_model.specs.Contents.{Contents, nothing}
use Rattle.rdf_model.specs.Trail.{raw, is_image_of, is_outcome_of, has_image, is_ended, is_open, first_before, open_in}
use Rattle.rdf_model.specs.Legal.{CanFollow, CanAbort, Legal}
use Rattle.rdf_model.specs.Lines.{after_change, after_commit, after_abort, found_of, found_by, same_value, put_back}
use Rattle.rdf_model.specs.Running.{is_used, IsRunning}
use Rattle.rdf_model.specs.SearchLaws.{found-first_before}
use Rattle.rdf_model.specs.LoserLaws.{contains-open_in}
use Rattle.active_txns.specs.Tells.{Tells}
use Rattle.active_txns.specs.declared.table.ActiveTxns.{ActiveTxns}
use Rattle.tmf_core.specs.Joins.{NotesNext}

-- the open transactions of a legal trail run
pub open_run : (trail : List Record) → Legal nothing trail → IsRunning trail (open_in trail)
open_run trail legal = record {
  legal = legal;
  opened = λ t h. contains-open_in trail t ∙ h;
  unended = λ t h. turned (is_ended t trail) (and_parts (has_image t trail) (not (is_ended t trail)) (sym (contains-open_in trail t) ∙ h)).1;
}
  where
    turned : (b : Bool) → not b ≡ true → b ≡ false
    turned true e = cc
    turned false e = refl

used_parts : (t : ℕ) (trail : List Record) → is_used t trail ≡ (has_image t trail || is_ended t trail)
used_parts t [] = refl
used_parts t (Image u v f k b a ∷ rest) = ap (λ m. (u == t) || m) (used_parts t rest) ∙ grouped (u == t) (has_image t rest) (is_ended t rest)
  where
    grouped : (a b c : Bool) → (a || (b || c)) ≡ ((a || b) || c)
    grouped true b c = refl
    grouped false b c = refl
used_parts t (Commit u ∷ rest) = ap (λ m. (u == t) || m) (used_parts t rest) ∙ turned (u == t) (has_image t rest) (is_ended t rest)
  where
    turned : (a b c : Bool) → (a || (b || c)) ≡ (b || (a || c))
    turned true true c = refl
    turned true false c = refl
    turned false b c = refl
used_parts t (Abort u ∷ rest) = ap (λ m. (u == t) || m) (used_parts t rest) ∙ turned (u == t) (has_image t rest) (is_ended t rest)
  where
    turned : (a b c : Bool) → (a || (b || c)) ≡ (b || (a || c))
    turned true true c = refl
    turned true false c = refl
    turned false b c = refl

-- a transaction without outcome that is not open was never used
pub unused : (t : ℕ) (trail : List Record) → is_ended t trail ≡ false → set.contains (open_in trail) t ≡ false → is_used t trail ≡ false
unused t trail running closed = used_parts t trail ∙ no (has_image t trail) (is_ended t trail) running (sym (contains-open_in trail t) ∙ closed)
  where
    no : (a b : Bool) → b ≡ false → (a && not b) ≡ false → (a || b) ≡ false
    no true b e h = absurd_true b e h
      where
        absurd_true : (b : Bool) → b ≡ false → (true && not b) ≡ false → (true || b) ≡ false
        absurd_true true e h = cc
        absurd_true false e h = cc
    no false b e h = e

numbers_turned : (a b : ℕ) → (a == b) ≡ (b == a)
numbers_turned a b = grind (arith, nat_tests)

-- a transaction that is active is made so
pub active_already : (active : set.FinSet nat_cmp) (t : ℕ) → set.contains active t ≡ true → active ≡ set.insert active t
active_already active t runs = set.same_set nat_cmp_total exact_unsigned active (set.insert active t) (λ q.
    sym (set.contains-insert nat_cmp_total active t q ∙ ap (λ m. m || set.contains active q) (unsigned_tied q t)
    ∙ (elim (q == t) as (λ m. (q == t) ≡ m → (m || set.contains active q) ≡ set.contains active q) [
      | true ↦ λ e. sym (subst (λ n. set.contains active n ≡ true) (sym (eqb-true q t e)) runs)
      | false ↦ λ e. refl
    ] refl)))

-- an image makes its transaction open
pub opens : (trail : List Record) (t v : ℕ) (f k : List ℕ) (b a : Option (List ℕ)) → is_ended t trail ≡ false → set.insert (open_in trail) t ≡ open_in (trail ++ Image t v f k b a ∷ [])
opens trail t v f k b a running = set.same_set nat_cmp_total exact_unsigned (set.insert (open_in trail) t) (open_in (trail ++ Image t v f k b a ∷ [])) (λ q.
    set.contains-insert nat_cmp_total (open_in trail) t q ∙ ap (λ m. m || set.contains (open_in trail) q) (unsigned_tied q t ∙ numbers_turned q t) ∙ ap (λ m. (t == q) || m) (contains-open_in trail q)
    ∙ step q ∙ sym (contains-open_in (trail ++ Image t v f k b a ∷ []) q))
  where
    joined : (s h e : Bool) → (s ≡ true → e ≡ false) → (s || (h && not e)) ≡ ((h || (s || false)) && not (e || (false || false)))
    joined true true true out = let no = out refl in cc
    joined true true false out = refl
    joined true false true out = let no = out refl in cc
    joined true false false out = refl
    joined false true true out = refl
    joined false true false out = refl
    joined false false true out = refl
    joined false false false out = refl

    step : (q : ℕ) → ((t == q) || is_open q trail) ≡ is_open q (trail ++ Image t v f k b a ∷ [])
    step q =
        joined (t == q) (has_image q trail) (is_ended q trail) (λ e. subst (λ n. is_ended n trail ≡ false) (eqb-true t q e) running)
        ∙ sym (λ i. list_any-append (is_image_of q) trail (Image t v f k b a ∷ []) i && not (list_any-append (is_outcome_of q) trail (Image t v f k b a ∷ []) i))

-- an outcome closes its transaction
closes : (trail : List Record) (t : ℕ) (r : Record) → ((q : ℕ) → is_image_of q r ≡ false) → ((q : ℕ) → is_outcome_of q r ≡ (t == q)) → set.remove (open_in trail) t ≡ open_in (trail ++ r ∷ [])
closes trail t r none outcome = set.same_set nat_cmp_total exact_unsigned (set.remove (open_in trail) t) (open_in (trail ++ r ∷ [])) (λ q.
    set.contains-remove nat_cmp_total (open_in trail) t q ∙ ap (λ m. not m && set.contains (open_in trail) q) (unsigned_tied q t ∙ numbers_turned q t) ∙ ap (λ m. not (t == q) && m) (contains-open_in trail q)
    ∙ step q ∙ sym (contains-open_in (trail ++ r ∷ []) q))
  where
    joined : (s h e : Bool) → (not s && (h && not e)) ≡ ((h || (false || false)) && not (e || (s || false)))
    joined true true true = refl
    joined true true false = refl
    joined true false true = refl
    joined true false false = refl
    joined false true true = refl
    joined false true false = refl
    joined false false true = refl
    joined false false false = refl

    step : (q : ℕ) → (not (t == q) && is_open q trail) ≡ is_open q (trail ++ r ∷ [])
    step q =
        joined (t == q) (has_image q trail) (is_ended q trail)
        ∙ sym ((λ i. list_any-append (is_image_of q) trail (r ∷ []) i && not (list_any-append (is_outcome_of q) trail (r ∷ []) i))
        ∙ (λ i. (has_image q trail || (none q i || false)) && not (is_ended q trail || (outcome q i || false))))

pub closes_commit : (trail : List Record) (t : ℕ) → set.remove (open_in trail) t ≡ open_in (trail ++ Commit t ∷ [])
closes_commit trail t = closes trail t (Commit t) (λ q. refl) (λ q. refl)

pub closes_abort : (trail : List Record) (t : ℕ) → set.remove (open_in trail) t ≡ open_in (trail ++ Abort t ∷ [])
closes_abort trail t = closes trail t (Abort t) (λ q. refl) (λ q. refl)

same_list : (a : List ℕ) → pointwise nat_eq a a ≡ true
same_list [] = refl
same_list (x ∷ xs) = and_from (nat_eq x x) (pointwise nat_eq xs xs) (eq-eqb x x refl) (same_list xs)

same_itself : (a : Option (List ℕ)) → same_value a a ≡ true
same_itself None = refl
same_itself (Some a) = same_list a

-- places that show what they are set back to
none_back : (t : ℕ) (trail : List Record) (es : List (RecKey × Option (List ℕ))) → AllByRecursion (λ e. raw nothing trail e.0 ≡ e.1) es → put_back t trail es ≡ trail
none_back t trail [] h = refl
none_back t trail (e ∷ es) h =
    ap (λ m. put_back t (cond m trail (after_change trail t e.0 e.1)) es) (subst (λ b. same_value (raw nothing trail e.0) b ≡ true) h.0 (same_itself (raw nothing trail e.0)))
    ∙ none_back t trail es h.1

-- where a transaction may abort, its backout is the abort alone
pub aborted : (trail : List Record) (t : ℕ) → CanAbort nothing trail t → after_abort trail t ≡ trail ++ Abort t ∷ []
aborted trail t can =
    ap (λ m. cond m (put_back t trail (found_by trail t) ++ Abort t ∷ []) trail) can.running
    ∙ ap (λ (l : List Record). l ++ Abort t ∷ []) (none_back t trail (found_by trail t) (shown (found_by trail t) (entries_found place_cmp place_cmp_total place_cmp_exact (map.from_entries (filter_map (found_of t) trail)))))
  where
    first_of : (q : RecKey) → map.find place_cmp q (found_by trail t) ≡ first_before (λ u. u == t) q trail
    first_of q = sym (map.get-entries (map.from_entries {R = place_cmp} (filter_map (found_of t) trail)) q) ∙ map.get-from_entries place_cmp_total (filter_map (found_of t) trail) q ∙ found-first_before t q trail

    shown : (es : List (RecKey × Option (List ℕ))) → AllByRecursion (λ e. map.find place_cmp e.0 (found_by trail t) ≡ Some e.1) es → AllByRecursion (λ e. raw nothing trail e.0 ≡ e.1) es
    shown [] h = tt
    shown (e ∷ es) h = (subst (λ o. IfSome o (λ before. raw nothing trail e.0 ≡ before)) (sym (first_of e.0) ∙ h.0) (can.restored e.0), shown es h.1)

-- a transaction without outcome may be active
running_more : (trail : List Record) (active : set.FinSet nat_cmp) (t : ℕ) → IsRunning trail active → is_ended t trail ≡ false → IsRunning trail (set.insert active t)
running_more trail active t s out = record {
  legal = s.legal;
  opened = λ u h. set.contains-insert nat_cmp_total active t u ∙ or_right (eq_by_cmp nat_cmp u t) (set.contains active u) (s.opened u h);
  unended = λ u h. elim (or_cases (eq_by_cmp nat_cmp u t) (set.contains active u) (sym (set.contains-insert nat_cmp_total active t u) ∙ h)) [
    | inl same ↦ subst (λ n. is_ended n trail ≡ false) (sym (eqb-true u t (sym (unsigned_tied u t) ∙ same))) out
    | inr was ↦ s.unended u was
  ];
}

abbrev pub NextFollows : Type 0
NextFollows = (base : Contents) (trail : List Record) (r : Record) → Legal base (trail ++ r ∷ []) → Legal base trail × CanFollow base trail r

-- an image is noted
pub image_next : {E : Type 0} (next : NextFollows) (r : Result (Unit {0}) E) (old mid new : ActiveTxns) (t : ℕ) (k : RecKey) (before after : Option (List ℕ)) →
    ((trail : List Record) (active : set.FinSet nat_cmp) → Tells old trail active → (set.contains active t ≡ false → is_used t trail ≡ false) → Tells mid trail (set.insert active t)) →
    OnOk r ((trail : List Record) (active : set.FinSet nat_cmp) (after : Option (List ℕ)) → Tells mid trail active → IsRunning trail active → set.contains active t ≡ true → before ≡ raw nothing trail k →
    Tells new (after_change trail t k after) active) → OnOk r (NotesNext (Image t k.vol k.file k.key before after) old new)
image_next next (Err e) old mid new t k before after begun noted = tt
image_next next (Ok u) old mid new t k before after begun noted = λ trail legal h.
    let parts = next nothing trail (Image t k.vol k.file k.key before after) legal in
    let can = parts.1 in
    let active : set.FinSet nat_cmp = set.insert (open_in trail) t in
    let here : set.contains active t ≡ true = set.contains-insert nat_cmp_total (open_in trail) t t ∙ ap (λ m. m || set.contains (open_in trail) t) (unsigned_tied t t ∙ eq-eqb t t refl) in
    let told = noted trail active after (begun trail (open_in trail) h (λ closed. unused t trail can.running closed)) (running_more trail (open_in trail) t (open_run trail parts.0) can.running) here can.reads in
    subst (λ b. Tells new (trail ++ Image t k.vol k.file k.key b after ∷ []) (open_in (trail ++ Image t k.vol k.file k.key b after ∷ []))) (sym can.reads)
    (subst (λ s. Tells new (after_change trail t k after) s) (opens trail t k.vol k.file k.key (raw nothing trail k) after can.running) told)

-- a commit is noted
pub commit_next : (next : NextFollows) (old new : ActiveTxns) (t : ℕ) → ((trail : List Record) (active : set.FinSet nat_cmp) → Tells old trail active → IsRunning trail active → set.contains active t ≡ true → Tells new (after_commit trail t) (set.remove active t)) →
    NotesNext (Commit t) old new
commit_next next old new t ends trail legal h =
    let parts = next nothing trail (Commit t) legal in
    subst (λ l. Tells new l (open_in (trail ++ Commit t ∷ []))) (ap (λ m. cond m (trail ++ Commit t ∷ []) trail) parts.1)
    (subst (λ s. Tells new (after_commit trail t) s) (closes_commit trail t) (ends trail (open_in trail) h (open_run trail parts.0) (contains-open_in trail t ∙ parts.1)))

-- an abort is noted
pub abort_next : (next : NextFollows) (old new : ActiveTxns) (t : ℕ) → ((trail : List Record) (active : set.FinSet nat_cmp) → Tells old trail active → IsRunning trail active → set.contains active t ≡ true → Tells new (after_abort trail t) (set.remove active t)) →
    NotesNext (Abort t) old new
abort_next next old new t ends trail legal h =
    let parts = next nothing trail (Abort t) legal in
    subst (λ l. Tells new l (open_in (trail ++ Abort t ∷ []))) (aborted trail t parts.1)
    (subst (λ s. Tells new (after_abort trail t) s) (closes_abort trail t) (ends trail (open_in trail) h (open_run trail parts.0) (contains-open_in trail t ∙ parts.1.running)))
