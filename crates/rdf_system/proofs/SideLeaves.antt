-- What a line on the primary or on the sender's side may leave where it is broken off, whatever the backups are at.
use Rattle.std.proofs.Common.{◌≡◌, ◌⊎◌, inl, inr, ℕ, ◌≤◌, true, List, length, Option, Some, IsTrue, sym, ap, ◌∙◌, subst}
use Rattle.std.proofs.lemmas.List.{length-map}
use Rattle.rdf_types.specs.declared.layout.Layout.{Layout}
use Rattle.rdf_types.specs.declared.records.Node.{Node}
use Rattle.rdf_types.specs.declared.records.Node.TheVariants.{A}
use Rattle.plan_lang.specs.declared.lines.Line.{Line}
use Rattle.rdf_core.specs.declared.replies.NoWhy.{NoWhy}
use Rattle.rdf_core.specs.Effects.{after_parts, reaches_disks}
use Rattle.rdf_core.specs.GrowthLaws.{Grows, grows_not}
use Rattle.rdf_core.specs.Lines.{refusal}
use Rattle.rdf_core.specs.Happens.{parts_of}
use Rattle.rdf_core.specs.PartLaws.{map_parts}
use Rattle.rdf_core.specs.Primary.{Primary, primary_refusal, primary_fallen}
use Rattle.rdf_core.specs.State.{State, with_primary, fallen}
use Rattle.rdf_core.specs.Step.{disks_of}
use Rattle.rdf_primary.specs.Replies.{primary_parts_of}
use Rattle.rdf_system.specs.Lines.{MayLeave, Before, Within}
use Rattle.rdf_system.specs.NodeLines.{is_on_primary, is_of_sender}
use Rattle.rdf_system.proofs.NearLines.{only_a, lifted_parts, lifted_refusal}
use Rattle.rdf_system.proofs.OnSenders.{uses_none}
use Rattle.rdf_system.proofs.PlaceLaws.{none_some}
use Rattle.rdf_system.proofs.Telling.{some_grow}

-- it leaves the backups, the trail only grows, and any other state with that primary may be left so
pub record SideLeaves (layout : Layout) (mid : State) (l : Line) (left : State) : Type 0 where
  pub backups : left.backups ≡ mid.backups
  pub grows : Grows mid.primary.trail left.primary.trail
  pub again : (other : State) → other.primary ≡ mid.primary → MayLeave layout other l (with_primary other left.primary)

before_leaves : (layout : Layout) (mid : State) (l : Line) (left : State) → left ≡ mid → SideLeaves layout mid l left
before_leaves layout mid l left is = record {
  backups = ap (λ (s : State). s.backups) is;
  grows = subst (λ (s : State). Grows mid.primary.trail s.primary.trail) (sym is) (grows_not mid.primary.trail);
  again = λ other e. Before (ap (λ (a : Primary). with_primary other a) (ap (λ (s : State). s.primary) is ∙ sym e));
}

module _ (layout : Layout) (l : Line) (on : is_on_primary l ≡ true) (of : disks_of l ≡ Some A) (done rise : ℕ) where
  -- the primary that it leaves
  abbrev left_of : Primary → Primary
  left_of a = primary_fallen rise (after_parts a (primary_parts_of layout a l) done)

  part_left : (s : State) → fallen A rise (after_parts s (parts_of layout s l) done) ≡ with_primary s (left_of s.primary)
  part_left s = ap (λ (xs : List State). fallen A rise (after_parts s xs done)) (lifted_parts layout s l on) ∙ ap (fallen A rise) (map_parts (with_primary s) s.primary (primary_parts_of layout s.primary l) done)

  many_parts : (s : State) → length (parts_of layout s l) ≡ length (primary_parts_of layout s.primary l)
  many_parts s = ap (λ (xs : List State). length xs) (lifted_parts layout s l on) ∙ length-map (primary_parts_of layout s.primary l) (with_primary s)

  within_leaves : (mid left : State) → IsTrue (reaches_disks (refusal layout mid l)) → done ≤ length (parts_of layout mid l) → left ≡ fallen A rise (after_parts mid (parts_of layout mid l) done) → SideLeaves layout mid l left
  within_leaves mid left reaches few is = record {
    backups = ap (λ (s : State). s.backups) now;
    grows = subst (λ (s : State). Grows mid.primary.trail s.primary.trail) (sym now) (some_grow (primary_refusal layout mid.primary l) mid.primary l done);
    again = λ other e. Within A of
        (subst (λ (o : Option NoWhy). IsTrue (reaches_disks o)) (lifted_refusal layout mid l on ∙ ap (λ (a : Primary). primary_refusal layout a l) (sym e) ∙ sym (lifted_refusal layout other l on)) reaches)
        done
        (subst (λ n. done ≤ n) (many_parts mid ∙ ap (λ (a : Primary). length (primary_parts_of layout a l)) (sym e) ∙ sym (many_parts other)) few)
        rise
        (ap (λ (a : Primary). with_primary other a) (ap (λ (s : State). s.primary) now ∙ ap (λ (a : Primary). left_of a) (sym e)) ∙ sym (part_left other));
  }
    where
      now : left ≡ with_primary mid (left_of mid.primary)
      now = is ∙ part_left mid

pub side_leaves : (layout : Layout) (mid : State) (l : Line) (left : State) → (is_on_primary l ≡ true) ⊎ (is_of_sender l ≡ true) → MayLeave layout mid l left → SideLeaves layout mid l left
side_leaves layout mid l left near (Before is) = before_leaves layout mid l left is
side_leaves layout mid l left (inl on) (Within node of reaches done few rise is) =
    let here : node ≡ A = only_a l on node of in
    within_leaves layout l on (of ∙ ap (λ (n : Node). Some n) here) done rise mid left reaches few (is ∙ ap (λ (n : Node). fallen n rise (after_parts mid (parts_of layout mid l) done)) here)
side_leaves layout mid l left (inr on) (Within node of reaches done few rise is) = none_some (sym (uses_none l on) ∙ of)
