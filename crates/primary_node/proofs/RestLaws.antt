-- The disks of a node that is not up stand for a primary that is down.
use Rattle.std.proofs.Common.{◌≡◌, ℕ, List, length, refl, sym, ◌∙◌}
use Rattle.std.specs.FinSet as set
use Rattle.rdf_disk.specs.Files.{Disk}
use Rattle.rdf_disk.specs.Counts.{Counts}
use Rattle.rdf_disk.specs.Outcomes.{Narrows}
use Rattle.rdf_disk.specs.declared.disk.Disk.{Ghosts}
use Rattle.plan_lang.specs.declared.lines.Line.{Line}
use Rattle.tmf_core.specs.States.{tmf_volumes}
use Rattle.rdf_core.specs.declared.events.Standing.TheVariants.{Down}
use Rattle.rdf_core.specs.Effects.{after_parts}
use Rattle.rdf_core.specs.Primary.{Primary as State, primary_fallen}
use Rattle.rdf_primary.specs.declared.primary.Primary.{Primary}
use Rattle.rdf_primary.specs.States.{state_of, disks_in, IsRunning}
use Rattle.rdf_primary.specs.Replies.{Breaks as Broken, primary_parts_of}
use Rattle.rdf_primary.specs.Restarting.{StoodForSome}
use Rattle.rdf_primary.specs.StandingLaws.{running_stands}
use Rattle.primary_node.specs.Cuts.{Each, AreCut}
use Rattle.primary_node.specs.Nodes.{HasLayout}
use Rattle.primary_node.proofs.CutLaws.{goes_off, still_stands, cut_narrows, some_left}

-- disks of which no more may be left than before
pub stood_still : {D : Type 0} (files : D → Disk) (old new : List D) → Each (λ i x y. (m : ℕ) → Narrows (files x m) (files y m)) old new → StoodForSome files old → StoodForSome files new
stood_still files old new narrow (layout, (a, s)) = (layout, (a, record { down = s.down; stands = still_stands files layout a old new narrow s.stands }))

module _ {D : Type 0} {d : Ghosts D} (tells : Type 0) (files : D → Disk) (counts : D → Counts) (they : tells) (volumes : ℕ) (laid : HasLayout volumes) where
  -- a primary that ran, and was cut
  pub fallen_rests : (p : Primary D d) (disks : List D) → tmf_volumes p.tmf ≡ volumes → IsRunning files p → AreCut tells files counts (disks_in p) disks → StoodForSome files disks
  fallen_rests p disks sized runs cut =
      let b : State = record (state_of 0 p) { standing = Down; active = set.empty } in (
        laid.0,
        (
          b,
          record {
            down = refl;
            stands = goes_off files laid.0 (state_of 0 p) b (disks_in p) disks refl (λ v c k. k) (cut_narrows tells files counts they (disks_in p) disks cut) (running_stands files p runs laid.0 0 (laid.1 ∙ sym sized));
          },
        ),
      )

  -- a primary that a line's fault took down, and was cut
  pub broken_rests : (l : Line) (old new : Primary D d) (disks : List D) → tmf_volumes old.tmf ≡ volumes → Broken files l old new → AreCut tells files counts (disks_in new) disks → StoodForSome files disks
  broken_rests l old new disks sized broken cut =
      let was : State = state_of 0 old in
      let s = some_left tells files counts they (disks_in new) disks cut laid.0 (length (primary_parts_of laid.0 was l)) (λ k. primary_fallen 0 (after_parts was (primary_parts_of laid.0 was l) k)) (broken.stands laid.0 0 0 (laid.1 ∙ sym sized)) in
      (laid.0, (primary_fallen 0 (after_parts was (primary_parts_of laid.0 was l) s.0), record { down = refl; stands = s.1.1 }))
