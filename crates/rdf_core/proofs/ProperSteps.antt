-- Every line of the primary keeps it proper.
use Rattle.std.proofs.Common.{◌≡◌, ℕ, Bool, true, false, not, ◌||◌, ◌==◌, nat_lt, List, [], ◌∷◌, ◌++◌, length, drop, Option, Some, None, refl, sym, ap, ◌∙◌, subst, arith}
use Rattle.std.proofs.lemmas.Bool.Decides.{nat_tests}
use Rattle.std.proofs.lemmas.Bool.{or_parts}
use Rattle.std.proofs.lemmas.List.{append_assoc}
use Rattle.std.proofs.Math.Seq.{drop-append_seam}
use Rattle.std.specs.FinSet as set
use Rattle.std.specs.Ordering.{nat_cmp}
use Rattle.rdf_types.specs.declared.layout.Layout.{Layout}
use Rattle.rdf_types.specs.declared.records.RecKey.{RecKey}
use Rattle.rdf_types.specs.declared.records.Record.{Record}
use Rattle.rdf_model.specs.Contents.{nothing}
use Rattle.rdf_model.specs.Trail.{owner}
use Rattle.rdf_model.specs.Legal.{Legal}
use Rattle.rdf_model.specs.Lines.{after_change, after_commit, after_abort, after_restart}
use Rattle.rdf_model.specs.Running.{IsRunning, is_used}
use Rattle.rdf_model.specs.LegalLaws.{legal_first}
use Rattle.rdf_core.specs.declared.events.Standing.{Standing}
use Rattle.rdf_core.specs.declared.events.Standing.TheVariants.{Up, Down, Lost}
use Rattle.rdf_core.specs.declared.replies.NoWhy.{NoWhy}
use Rattle.rdf_core.specs.declared.replies.NoWhy.TheVariants as no
use Rattle.plan_lang.specs.declared.lines.Line.{Line}
use Rattle.plan_lang.specs.declared.lines.Line.TheVariants as line
use Rattle.rdf_core.specs.Effects.{when, first}
use Rattle.rdf_core.specs.Primary.{Primary, is_lost, is_down, needs_up, needs_active, locked_for, cannot_use, stands, primary_refusal, primary_parts, primary_after, trail_after, grown, with_record}
use Rattle.rdf_core.specs.Proper.{IsProperAt, IsProper, legal_of}
use Rattle.rdf_core.specs.PartLaws.{Every}
use Rattle.rdf_core.specs.GrowthLaws.{trail_grows}

-- what a line that is not refused knows

first_two : (x y : Option NoWhy) → first (x ∷ y ∷ []) ≡ None → (x ≡ None) × (y ≡ None)
first_two None None e = (refl, refl)
first_two None (Some y) e = cc
first_two (Some x) y e = cc

first_four : (x y z w : Option NoWhy) → first (x ∷ y ∷ z ∷ w ∷ []) ≡ None → (x ≡ None) × (y ≡ None) × (w ≡ None)
first_four None None None None e = (refl, refl, refl)
first_four None None None (Some w) e = cc
first_four None None (Some z) w e = cc
first_four None (Some y) z w e = cc
first_four (Some x) y z w e = cc

when_not : (b : Bool) (why : NoWhy) → when b why ≡ None → b ≡ false
when_not true why e = cc
when_not false why e = refl

is_up_at : (st : Standing) → first (when (is_lost st) no.Lost ∷ when (is_down st) no.Down ∷ []) ≡ None → st ≡ Up
is_up_at Up e = refl
is_up_at Down e = cc
is_up_at Lost e = cc

active_is : (b : Bool) → when (not b) no.Txn ≡ None → b ≡ true
active_is true e = refl
active_is false e = cc

owned : (t : ℕ) (o : Option ℕ) → locked_for t o ≡ None → (u : ℕ) → o ≡ Some u → u ≡ t
owned t None e u h = cc
owned t (Some v) e u h = same u v t (some_is v u h) (when_not (not (v == t)) (no.Locked v) e)
  where
    some_is : (v u : ℕ) → (let x : Option ℕ = Some v in x) ≡ Some u → v ≡ u
    some_is v u h = cc

    same : (u v t : ℕ) → v ≡ u → not (v == t) ≡ false → u ≡ t
    same u v t e h = grind (arith, nat_tests)

runs_at : (st : Standing) (trail : List Record) (active : set.FinSet nat_cmp) → st ≡ Up → IsProperAt st trail active → IsRunning trail active
runs_at st trail active e p = subst (λ s. IsProperAt s trail active) e p

proper_at : (st : Standing) (trail : List Record) (active : set.FinSet nat_cmp) → st ≡ Up → IsRunning trail active → IsProperAt st trail active
proper_at st trail active e r = subst (λ s. IsProperAt s trail active) (sym e) r

-- the lines of transactions keep the state of the primary
pub record LinesRun : Type 0 where
  pub begin_runs : (trail : List Record) (active : set.FinSet nat_cmp) (t : ℕ) → IsRunning trail active → is_used t trail ≡ false → IsRunning trail (set.insert active t)
  pub change_runs : (trail : List Record) (active : set.FinSet nat_cmp) (t : ℕ) (k : RecKey) (after : Option (List ℕ)) → IsRunning trail active → set.contains active t ≡ true →
      ((u : ℕ) → owner trail k ≡ Some u → u ≡ t) → IsRunning (after_change trail t k after) active
  pub commit_runs : (trail : List Record) (active : set.FinSet nat_cmp) (t : ℕ) → IsRunning trail active → IsRunning (after_commit trail t) (set.remove active t)
  pub abort_runs : (trail : List Record) (active : set.FinSet nat_cmp) (t : ℕ) → IsRunning trail active → IsRunning (after_abort trail t) (set.remove active t)
  pub restart_runs : (trail : List Record) → Legal nothing trail → IsRunning (after_restart trail) set.empty

changed : LinesRun → (layout : Layout) (a : Primary) (t : ℕ) (k : RecKey) (after : Option (List ℕ)) (rest : Option NoWhy) → first (cannot_use layout a t k ∷ rest ∷ []) ≡ None → IsProper a → IsProperAt a.standing (after_change a.trail t k after) a.active
changed laws layout a t k after rest e p =
    let none = (first_two (cannot_use layout a t k) rest e).0 in
    let all = first_four (needs_up a) (needs_active a t) (when (not (nat_lt k.vol layout.volumes)) no.Volume) (locked_for t (owner a.trail k)) none in
    proper_at a.standing (after_change a.trail t k after) a.active (is_up_at a.standing all.0)
    (laws.change_runs a.trail a.active t k after (runs_at a.standing a.trail a.active (is_up_at a.standing all.0) p) (active_is (set.contains a.active t) all.1) (owned t (owner a.trail k) all.2))

pub after_proper : LinesRun → (layout : Layout) (a : Primary) (l : Line) → primary_refusal layout a l ≡ None → IsProper a → IsProper (primary_after a l)
after_proper laws layout a (line.Begin t) e p =
    let all = first_two (needs_up a) (when (set.contains a.active t || is_used t a.trail) no.Used) e in
    let fresh = or_parts (set.contains a.active t) (is_used t a.trail) (when_not (set.contains a.active t || is_used t a.trail) no.Used all.1) in
    proper_at a.standing a.trail (set.insert a.active t) (is_up_at a.standing all.0) (laws.begin_runs a.trail a.active t (runs_at a.standing a.trail a.active (is_up_at a.standing all.0) p) fresh.1)
after_proper laws layout a (line.Insert t k value) e p = changed laws layout a t k (Some value) (when (stands a.trail k) no.Exists) e p
after_proper laws layout a (line.Update t k value) e p = changed laws layout a t k (Some value) (when (not (stands a.trail k)) no.Missing) e p
after_proper laws layout a (line.Delete t k) e p = changed laws layout a t k None (when (not (stands a.trail k)) no.Missing) e p
after_proper laws layout a (line.Commit t) e p =
    let up = is_up_at a.standing (first_two (needs_up a) (needs_active a t) e).0 in
    proper_at a.standing (after_commit a.trail t) (set.remove a.active t) up (laws.commit_runs a.trail a.active t (runs_at a.standing a.trail a.active up p))
after_proper laws layout a (line.Abort t) e p =
    let up = is_up_at a.standing (first_two (needs_up a) (needs_active a t) e).0 in
    proper_at a.standing (after_abort a.trail t) (set.remove a.active t) up (laws.abort_runs a.trail a.active t (runs_at a.standing a.trail a.active up p))
after_proper laws layout a line.Lose e p = (legal_of a.standing a.trail a.active p, refl)
after_proper laws layout a (line.Cut node) e p = (legal_of a.standing a.trail a.active p, refl)
after_proper laws layout a (line.Restart node) e p = laws.restart_runs a.trail (legal_of a.standing a.trail a.active p)
after_proper laws layout a _ e p = p

-- a stop leaves a part of the records that the line appends

grown_legal : (a : Primary) (rs : List Record) → Legal nothing (a.trail ++ rs) → Every (λ (x : Primary). Legal nothing x.trail) (grown a rs)
grown_legal a [] h = tt
grown_legal a (r ∷ rest) h = (legal_first nothing [] (a.trail ++ r ∷ []) rest again, grown_legal (with_record a r) rest again)
  where
    again : Legal nothing ((a.trail ++ r ∷ []) ++ rest)
    again = subst (λ t. Legal nothing t) (sym (append_assoc a.trail (r ∷ []) rest)) h

pub appended_legal : (a : Primary) (l : Line) → Legal nothing (trail_after a.trail l) → Every (λ (x : Primary). Legal nothing x.trail) (primary_parts a l)
appended_legal a l h =
    let g = trail_grows a.trail l in
    grown_legal a (drop (length a.trail) (trail_after a.trail l))
    (subst (λ t. Legal nothing t) (g.1 ∙ ap (λ rs. a.trail ++ rs) (sym (ap (λ t. drop (length a.trail) t) g.1 ∙ drop-append_seam a.trail g.0))) h)
