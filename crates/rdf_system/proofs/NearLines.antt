-- The lines on the primary: whose disks they use, and their rows on the whole.
use Rattle.std.proofs.Common.{◌≡◌, ◌⊎◌, inl, inr, ℕ, true, List, [], length, map, Option, Some, None, refl, sym, ap, ◌∙◌, subst}
use Rattle.std.proofs.lemmas.Bool.{or_cases}
use Rattle.rdf_types.specs.declared.layout.Layout.{Layout}
use Rattle.rdf_types.specs.declared.records.Node.{Node}
use Rattle.rdf_types.specs.declared.records.Node.TheVariants.{A, B, C}
use Rattle.plan_lang.specs.declared.lines.Line.{Line}
use Rattle.plan_lang.specs.declared.lines.Line.TheVariants as line
use Rattle.rdf_core.specs.declared.replies.NoWhy.{NoWhy}
use Rattle.rdf_core.specs.declared.replies.Reply.{Reply}
use Rattle.rdf_core.specs.declared.replies.Reply.TheVariants.{Stopped}
use Rattle.rdf_core.specs.Effects.{parts_unless, Whole, Cut}
use Rattle.rdf_core.specs.Lines.{refusal, kept, parts, after, says}
use Rattle.rdf_core.specs.Happens.{points_for, parts_of}
use Rattle.rdf_core.specs.Primary.{primary_refusal, primary_parts}
use Rattle.rdf_core.specs.State.{State, with_primary}
use Rattle.rdf_core.specs.Rule.{Rule, Says}
use Rattle.rdf_core.specs.Step.{StepEnds, disks_of, is_for_primary}
use Rattle.rdf_core.specs.PartLaws.{map_unless}
use Rattle.rdf_core.specs.RowLaws.{primary_row, primary_lifted, primary_refused, primary_uses}
use Rattle.rdf_core.specs.StopLaws.{primary_unstopped, send_unstopped, done_unstopped, stopped_is}
use Rattle.by_node.specs.Each.{at}
use Rattle.rdf_system.proofs.PlaceLaws.{not_so}
use Rattle.rdf_primary.specs.Replies.{primary_parts_of}
use Rattle.rdf_system.specs.NodeLines.{is_on_primary, is_of_sender}
use Rattle.rdf_system.proofs.Telling.{is_near, only_used}

pub on_of : (l : Line) → is_for_primary l ≡ true → is_on_primary l ≡ true
on_of (line.Restart A) e = refl
on_of (line.Restart B) e = e
on_of (line.Restart C) e = e
on_of _ e = e

-- a line on the primary changes it alone, or is its restart
pub for_or_restart : (l : Line) → is_on_primary l ≡ true → (is_for_primary l ≡ true) ⊎ (l ≡ line.Restart A)
for_or_restart (line.Restart A) e = inr refl
for_or_restart (line.Restart B) e = inl e
for_or_restart (line.Restart C) e = inl e
for_or_restart _ e = inl e

-- a line near the primary is on it, or on the sender's side
pub near_sides : (l : Line) → is_near l ≡ true → (is_on_primary l ≡ true) ⊎ (is_of_sender l ≡ true)
near_sides l = or_cases (is_on_primary l) (is_of_sender l)

-- it uses a disk of this node, or none, where it uses no other node's
pub used_or_not : (named : Node) (o : Option Node) → ((node : Node) → o ≡ Some node → node ≡ named) → (o ≡ Some named) ⊎ (o ≡ None)
used_or_not named None only = inr refl
used_or_not named (Some node) only = inl (ap (λ (n : Node). Some n) (only node refl))

pub uses_a : (l : Line) → is_on_primary l ≡ true → (disks_of l ≡ Some A) ⊎ (disks_of l ≡ None)
uses_a l e = elim (for_or_restart l e) [ inl h ↦ used_or_not A (disks_of l) (primary_uses l h) | inr h ↦ inl (ap disks_of h) ]

pub only_a : (l : Line) → is_on_primary l ≡ true → (node : Node) → disks_of l ≡ Some node → node ≡ A
only_a l e = only_used A (disks_of l) (uses_a l e)

-- what refuses it is what refuses it on the primary
pub lifted_refusal : (layout : Layout) (s : State) (l : Line) → is_on_primary l ≡ true → refusal layout s l ≡ primary_refusal layout s.primary l
lifted_refusal layout s l e = elim (for_or_restart l e) [ inl h ↦ primary_refused layout [] s l h | inr h ↦ subst (λ (k : Line). refusal layout s k ≡ primary_refusal layout s.primary k) (sym h) refl ]

-- its durable parts are those of the primary
pub lifted_all : (layout : Layout) (points : List ℕ) (s : State) (l : Line) → is_on_primary l ≡ true → parts layout points s l ≡ map (with_primary s) (primary_parts s.primary l)
lifted_all layout points s l e =
    elim (for_or_restart l e) [
      | inl h ↦ primary_lifted layout points s l h
      | inr h ↦ subst (λ (k : Line). parts layout points s k ≡ map (with_primary s) (primary_parts s.primary k)) (sym h) refl
    ]

-- and so those that it has where it is not refused
pub lifted_parts : (layout : Layout) (s : State) (l : Line) → is_on_primary l ≡ true → parts_of layout s l ≡ map (with_primary s) (primary_parts_of layout s.primary l)
lifted_parts layout s l e =
    ap (λ (o : Option NoWhy). parts_unless o (parts layout (points_for layout s l) s l)) (lifted_refusal layout s l e)
    ∙ ap (λ (xs : List State). parts_unless (primary_refusal layout s.primary l) xs) (lifted_all layout (points_for layout s l) s l e)
    ∙ map_unless (with_primary s) (primary_refusal layout s.primary l) (primary_parts s.primary l)

-- what such a line says where it is done is not that a node stopped
sender_unstopped : (layout : Layout) (points : List ℕ) (s : State) (l : Line) (node : Node) → is_of_sender l ≡ true → says layout points s l (Stopped node) → ⊥
sender_unstopped layout points s (line.Send of most) node e told = send_unstopped node (length s.primary.trail) most (at s.senders of) told
sender_unstopped layout points s (line.Rewind of) node e told = cc
sender_unstopped layout points s (line.Ack of) node e told = cc
sender_unstopped layout points s _ node e told = not_so e

near_unstopped : (layout : Layout) (points : List ℕ) (s : State) (l : Line) → is_near l ≡ true → (node : Node) → says layout points s l (Stopped node) → ⊥
near_unstopped layout points s l near node told =
    elim (near_sides l near) [
      | inl on ↦ elim (for_or_restart l on) [
        | inl h ↦ primary_unstopped s.primary l node (subst (λ (r : Rule State). Says r.answer (Stopped node)) (primary_row layout points s l h) told)
        | inr h ↦ primary_unstopped s.primary (line.Restart A) node (subst (λ (k : Line). says layout points s k (Stopped node)) h told)
      ]
      | inr of ↦ sender_unstopped layout points s l node of told
    ]

-- the node that a reply tells to have stopped is the one whose disks the line uses
pub told : (layout : Layout) (s : State) (l : Line) (reply : Reply) (next : State) → is_near l ≡ true → StepEnds layout s l reply next → (node : Node) → reply ≡ Stopped node → disks_of l ≡ Some node
told layout s l reply next near (points, goes, Cut of used done off) node e = used ∙ ap (λ (n : Node). Some n) (stopped_is of node (sym off.says ∙ e))
told layout s l reply next near (points, goes, Whole d) node e = absurd (done_unstopped (refusal layout s l) (kept s l) (after layout points s l) (says layout points s l) reply next (near_unstopped layout points s l near) d node e)
