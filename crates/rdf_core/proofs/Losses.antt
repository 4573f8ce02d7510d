-- In every run a lost primary stays lost.
use Rattle.std.proofs.Common.{◌≡◌, ℕ, true, false, ◌||◌, inl, inr, List, [], ◌∷◌, Option, Some, None, refl, sym, ap, ◌∙◌, subst}
use Rattle.std.proofs.lemmas.Bool.{and_parts}
use Rattle.rdf_types.specs.declared.layout.Layout.{Layout}
use Rattle.rdf_types.specs.declared.records.Node.{Node}
use Rattle.rdf_types.specs.declared.records.Node.TheVariants.{A}
use Rattle.plan_lang.specs.declared.lines.Line.{Line}
use Rattle.plan_lang.specs.declared.lines.Line.TheVariants as line
use Rattle.plan_lang.specs.Sessions.{fits_session}
use Rattle.rdf_core.specs.MoveLaws.{move_primary}
use Rattle.rdf_core.specs.declared.events.Standing.{Standing}
use Rattle.rdf_core.specs.declared.events.Standing.TheVariants.{Up, Down, Lost}
use Rattle.rdf_core.specs.declared.replies.NoWhy.{NoWhy}
use Rattle.rdf_core.specs.declared.replies.NoWhy.TheVariants as no
use Rattle.rdf_core.specs.declared.replies.Reply.{Reply}
use Rattle.rdf_core.specs.declared.replies.Reply.TheVariants.{Done, No, Stopped}
use Rattle.rdf_core.specs.Effects.{IsCutOff, when, first, reaches_disks, parts_unless, Whole, Cut}
use Rattle.rdf_core.specs.Primary.{Primary, is_lost, is_down, is_up, cannot_use}
use Rattle.rdf_core.specs.State.{State, fallen}
use Rattle.rdf_core.specs.Lines.{refusal, kept, parts, after, says}
use Rattle.rdf_core.specs.Allowed.{has_names, open_node}
use Rattle.rdf_core.specs.Step.{Step, StepEnds, disks_of}
use Rattle.rdf_core.specs.Run.{RunsFrom, after_move}
use Rattle.rdf_core.specs.Losses.{IsLost, loses, has_lost}
use Rattle.rdf_core.specs.PartLaws.{every_parts, refused_or_done, first_some}
use Rattle.rdf_core.proofs.ProperRuns.{IsStill, unless_still, kept_primary, read_primary, end_primary}
use Rattle.rdf_core.proofs.RunLaws.{run_keeps}

same_lost : (old new : State) → new.primary ≡ old.primary → IsLost old → IsLost new
same_lost old new e lost = subst (λ (a : Primary). is_lost a.standing ≡ true) (sym e) lost

-- what a lost primary refuses

when_lost : (standing : Standing) (rest : List (Option NoWhy)) → is_lost standing ≡ true → first (when (is_lost standing) no.Lost ∷ rest) ≡ Some no.Lost
when_lost Up rest lost = cc
when_lost Down rest lost = cc
when_lost Lost rest lost = refl

module _ (layout : Layout) (s : State) (lost : IsLost s) where
  up : first (when (is_lost s.primary.standing) no.Lost ∷ when (is_down s.primary.standing) no.Down ∷ []) ≡ Some no.Lost
  up = when_lost s.primary.standing (when (is_down s.primary.standing) no.Down ∷ []) lost

  -- of a line that a plan may have, each that uses a disk of the primary
  disks_lost : (l : Line) → has_names layout l ≡ true → disks_of l ≡ Some A → refusal layout s l ≡ Some no.Lost
  disks_lost (line.Insert t k value) n of = first_some (cannot_use layout s.primary t k) _ no.Lost (first_some _ _ no.Lost up)
  disks_lost (line.Update t k value) n of = first_some (cannot_use layout s.primary t k) _ no.Lost (first_some _ _ no.Lost up)
  disks_lost (line.Delete t k) n of = first_some (cannot_use layout s.primary t k) _ no.Lost (first_some _ _ no.Lost up)
  disks_lost (line.Get t k) n of = first_some (cannot_use layout s.primary t k) _ no.Lost (first_some _ _ no.Lost up)
  disks_lost (line.Commit t) n of = first_some _ _ no.Lost up
  disks_lost (line.Abort t) n of = first_some _ _ no.Lost up
  disks_lost (line.List A vol) n of = first_some _ _ no.Lost up
  disks_lost (line.Restart A) n of = when_lost s.primary.standing _ lost
  disks_lost (line.Deliver A k) n of = cc
  disks_lost (line.Purge A) n of = cc
  disks_lost (line.Takeover A) n of = cc
  disks_lost (line.CopyAudit A from) n of = cc
  disks_lost _ n of = cc

  -- what a line that is done leaves
  after_lost : (points : List ℕ) (l : Line) → refusal layout s l ≡ None → IsLost (after layout points s l)
  after_lost points (line.Read node key) e = same_lost s (after layout points s (line.Read node key)) (read_primary layout s key s.session) lost
  after_lost points line.End e = same_lost s (after layout points s line.End) (end_primary layout s s.session) lost
  after_lost points line.Lose e = refl
  after_lost points (line.Cut A) e = absurd (some_none (sym up ∙ e))
    where
      some_none : (let x : Option NoWhy = Some no.Lost in x) ≡ None → ⊥
      some_none f = cc
  after_lost points (line.Cut node) e = lost
  after_lost points (line.Restart A) e = absurd (some_none (sym (when_lost s.primary.standing (when (is_up s.primary.standing) no.Up ∷ []) lost) ∙ e))
    where
      some_none : (let x : Option NoWhy = Some no.Lost in x) ≡ None → ⊥
      some_none f = cc
  after_lost points (line.Restart node) e = lost
  after_lost points _ e = lost

  -- and one that a stop cuts off
  cut_lost : (points : List ℕ) (l : Line) (node : Node) (done : ℕ) (reply : Reply) (new : State) → has_names layout l ≡ true → disks_of l ≡ Some node →
      IsCutOff node (fallen node) s (refusal layout s l) (parts layout points s l) done reply new → IsLost new
  cut_lost points l A done reply new n of off = absurd (never (sym (ap reaches_disks (disks_lost l n of)) ∙ off.may))
    where
      never : false ≡ true → ⊥
      never e = cc
  cut_lost points l node done reply new n of off = same_lost s new (ap (λ (x : State). x.primary) off.leaves ∙ every_parts (IsStill s) s (parts_unless (refusal layout s l) (parts layout points s l)) done refl (unless_still layout points s l node (refusal layout s l) refl of)) lost

step_lost : (layout : Layout) (old : State) (l : Line) (reply : Reply) (new : State) → Step layout old l reply new → IsLost old → IsLost new
step_lost layout old l reply new step lost = go step.1
  where
    go : StepEnds layout old l reply new → IsLost new
    go (points, goes, Whole d) = elim (refused_or_done (refusal layout old l) (kept old l) (after layout points old l) (says layout points old l) reply new d) [
      | inl ref ↦ same_lost old new (ap (λ (x : State). x.primary) ref.2 ∙ kept_primary old l ref.0) lost
      | inr did ↦ subst IsLost (sym did.2) (after_lost layout old lost points l did.0)
    ]
    go (points, goes, Cut node of done off) = cut_lost layout old lost points l node done reply new (and_parts (has_names layout l) (fits_session (open_node old.session) l) step.0).0 of off

pub stays_lost : (layout : Layout) (lines : List Line) (replies : List Reply) (old last : State) → RunsFrom layout old lines replies last → IsLost old → IsLost last
stays_lost layout lines replies old last r lost =
    run_keeps IsLost layout (λ rise s e can h. same_lost s (after_move rise s e) (move_primary rise s e) h) (step_lost layout) lines replies old last r lost

-- a `lose` that is answered ok

lose_loses : (layout : Layout) (old new : State) → StepEnds layout old line.Lose Done new → IsLost new
lose_loses layout old new (points, goes, Whole d) =
    elim (refused_or_done (refusal layout old line.Lose) (kept old line.Lose) (after layout points old line.Lose) (says layout points old line.Lose) Done new d) [
      | inl ref ↦ absurd (refused ref.0 ref.1)
      | inr did ↦ subst IsLost (sym did.2) refl
    ]
  where
    refused : (why : NoWhy) → Done ≡ No why → ⊥
    refused why e = cc
lose_loses layout old new (points, goes, Cut node of done off) = absurd (stopped node off.says)
  where
    stopped : (node : Node) → Done ≡ Stopped node → ⊥
    stopped node e = cc

step_loses : (layout : Layout) (old : State) (l : Line) (reply : Reply) (new : State) → StepEnds layout old l reply new → loses l reply ≡ true → IsLost new
step_loses layout old line.Lose Done new ends e = lose_loses layout old new ends
step_loses layout old _ _ new ends e = cc

pub once_lost : (layout : Layout) (lines : List Line) (replies : List Reply) (old last : State) → RunsFrom layout old lines replies last → has_lost lines replies ≡ true → IsLost last
once_lost layout [] replies old last r e = cc
once_lost layout (l ∷ lines) [] old last r e = absurd r
once_lost layout (l ∷ lines) (reply ∷ replies) old last r e =
    elim (loses l reply) as (λ m. loses l reply ≡ m → (m || has_lost lines replies) ≡ true → IsLost last) [
      | true ↦ λ f g. stays_lost layout lines replies r.1 last r.4 (step_loses layout r.0 l reply r.1 r.3.1 f)
      | false ↦ λ f g. once_lost layout lines replies r.1 last r.4 g
    ] refl e
