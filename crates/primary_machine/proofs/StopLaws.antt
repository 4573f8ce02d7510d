-- What is left of a line of the primary that a stop cuts off.
use Rattle.std.proofs.Common.{◌≡◌, ℕ, zero, suc, ◌+◌, true, false, List, [], ◌∷◌, ◌++◌, take, drop, length, fold, Option, Some, None, is_some, Result, Ok, Err, OnOk, IsTrue, refl, sym, ap, ◌∙◌, append-nil, append_assoc}
use Rattle.std.proofs.Math.Seq.{take-append-add, drop-append_seam}
use Rattle.rdf_types.specs.declared.layout.Layout.{Layout}
use Rattle.rdf_types.specs.declared.records.Node.TheVariants.{A}
use Rattle.rdf_types.specs.declared.records.Record.{Record}
use Rattle.rdf_model.specs.Lines.{after_abort, after_restart}
use Rattle.rdf_model.specs.Losers.{losers}
use Rattle.plan_lang.specs.declared.lines.Line.TheVariants as line
use Rattle.rdf_core.specs.declared.events.Standing.{Standing}
use Rattle.rdf_core.specs.declared.events.Standing.TheVariants.{Up, Down, Lost}
use Rattle.rdf_core.specs.declared.replies.NoWhy.TheVariants as no
use Rattle.rdf_core.specs.Effects.{reaches_disks, after_parts, parts_unless, when, first}
use Rattle.rdf_core.specs.Primary.{Primary, is_lost, is_up, grown, with_record, primary_refusal, primary_parts, primary_fallen}
use Rattle.primary_machine.specs.Stops.{CanCut, first_parts}
use Rattle.primary_machine.proofs.AddedLaws.{Adds, adds_none, aborts_add, abort_adds}

with_trail : Primary → List Record → Primary
with_trail a trail = record a { trail = trail }

-- the first of some records, one after another
after_grown : (a : Primary) (rs : List Record) (n : ℕ) → after_parts a (grown a rs) n ≡ record a { trail = a.trail ++ take n rs }
after_grown a [] zero = ap (λ (l : List Record). record a { trail = l }) (sym (append-nil a.trail))
after_grown a [] (suc n) = ap (λ (l : List Record). record a { trail = l }) (sym (append-nil a.trail))
after_grown a (r ∷ rs) zero = ap (λ (l : List Record). record a { trail = l }) (sym (append-nil a.trail))
after_grown a (r ∷ rs) (suc n) = after_grown (with_record a r) rs n ∙ ap (λ (l : List Record). record a { trail = l }) (append_assoc a.trail (r ∷ []) (take n rs))

pub cut_parts : (a : Primary) (new : List Record) → Adds a.trail new → (n : ℕ) → record a { trail = take (length a.trail + n) new } ≡ after_parts a (grown a (drop (length a.trail) new)) n
cut_parts a new adds n =
    ap (λ (l : List Record). record a { trail = l }) (ap (take (length a.trail + n)) adds.longer ∙ take-append-add a.trail adds.more n ∙ ap (λ (l : List Record). a.trail ++ take n l) (sym rest))
    ∙ sym (after_grown a (drop (length a.trail) new) n)
  where
    rest : drop (length a.trail) new ≡ adds.more
    rest = ap (drop (length a.trail)) adds.longer ∙ drop-append_seam a.trail adds.more

-- a backout that is cut off
pub abort_first : (layout : Layout) (a : Primary) (t n : ℕ) → primary_refusal layout a (line.Abort t) ≡ None → primary_fallen 1 (record a { trail = take (length a.trail + n) (after_abort a.trail t) }) ≡ first_parts layout a (line.Abort t) n
abort_first layout a t n e =
    ap (primary_fallen 1) (cut_parts a (after_abort a.trail t) (abort_adds a.trail a.trail t (adds_none a.trail)) n)
    ∙ sym (ap (λ why. primary_fallen 1 (after_parts a (parts_unless why (primary_parts a (line.Abort t))) n)) e)

up_or_lost : (standing : Standing) → IsTrue (reaches_disks (first (when (is_lost standing) no.Lost ∷ when (is_up standing) no.Up ∷ []))) → first (when (is_lost standing) no.Lost ∷ when (is_up standing) no.Up ∷ []) ≡ None
up_or_lost Up h = absurd (let f : false ≡ true = h in cc)
up_or_lost Down h = refl
up_or_lost Lost h = absurd (let f : false ≡ true = h in cc)

pub restart_first : {E : Type 0} (r : Result Unit E) (layout : Layout) (a new : Primary) (ts : List ℕ) (n : ℕ) → ts ≡ losers a.trail → OnOk r (new ≡ primary_fallen 1 (record a { trail = take (length a.trail + n) (fold after_abort a.trail ts) })) →
    OnOk r (CanCut layout a (line.Restart A) n → new ≡ first_parts layout a (line.Restart A) n)
restart_first (Err e) layout a new ts n is ok = tt
restart_first (Ok u) layout a new ts n is ok = λ can.
    ok ∙ ap (λ l. primary_fallen 1 (record a { trail = take (length a.trail + n) (fold after_abort a.trail l) })) is
    ∙ ap (primary_fallen 1) (cut_parts a (after_restart a.trail) (aborts_add a.trail a.trail (losers a.trail) (adds_none a.trail)) n)
    ∙ sym (ap (λ why. primary_fallen 1 (after_parts a (parts_unless why (primary_parts a (line.Restart A))) n)) (up_or_lost a.standing can.reaches))

pub none_is : {X : Type 0} (o : Option X) → is_some o ≡ false → o ≡ None
none_is None e = refl
none_is (Some x) e = cc

pub abort_on : {E : Type 0} (r : Result Unit E) (layout : Layout) (a new : Primary) (t n : ℕ) → primary_refusal layout a (line.Abort t) ≡ None → OnOk r (new ≡ primary_fallen 1 (record a { trail = take (length a.trail + n) (after_abort a.trail t) })) →
    OnOk r (CanCut layout a (line.Abort t) n → new ≡ first_parts layout a (line.Abort t) n)
abort_on (Err e) layout a new t n none ok = tt
abort_on (Ok u) layout a new t n none ok = λ can. ok ∙ abort_first layout a t n none
