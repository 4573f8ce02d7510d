-- The causes of answers, and what the disks count.
use Rattle.std.proofs.Common.{◌≡◌, inr, ℕ, zero, suc, false, List, length, Option, Some, None, Result, refl, sym, ap, ◌∙◌, subst}
use Rattle.std.specs.Prelude.{slice_get, MatchOption}
use Rattle.std.specs.Option.{option_map}
use Rattle.std.proofs.lemmas.List.{length-map}
use Rattle.std.proofs.lemmas.Option.{slice_get-map}
use Rattle.rdf_disk.specs.Files.{Disk}
use Rattle.rdf_disk.specs.Counts.{Counts, Ending, Causes}
use Rattle.rdf_disk.specs.declared.disk.Disk.{Ghosts}
use Rattle.rdf_volume.specs.declared.volume.Volume.{Volume}
use Rattle.rdf_volume.specs.Views.{disk_of}
use Rattle.node_faults.specs.declared.NodeFault.{NodeFault}
use Rattle.node_faults.specs.declared.NodeFault.TheVariants as fault
use Rattle.node_faults.specs.Faults.{ending_at, ending_for, is_damage, IsSound}
use Rattle.tmf_core.specs.declared.store.Store.{Store}
use Rattle.tmf_core.specs.Stores.{counts_at, CausesIf, CausedBy}
use Rattle.tmf_core.specs.Disks.{disks_of}
use Rattle.tmf_core.specs.States.{tmf_volumes}
use Rattle.rdf_core.specs.declared.replies.Reply.{Reply}
use Rattle.rdf_primary.specs.declared.primary.Primary.{Primary}
use Rattle.rdf_primary.specs.States.{disks_in}
use Rattle.rdf_primary.specs.Restarting.{StoodForSome}
use Rattle.primary_node.specs.declared.node.PrimaryNode.{PrimaryNode}
use Rattle.primary_node.specs.Cuts.{IfBoth, Each, IsCut, AreCut}
use Rattle.primary_node.specs.Nodes.{HasLayout, MayRest, MayRun, MayServe, disks_at, disks_among}
use Rattle.primary_node.specs.Lines.{FailsBy, IsCaused, stop_told}
use Rattle.primary_node.proofs.CutLaws.{same_length}
pub use Rattle.node_disks.specs.CountLaws.{fails_cut, fuses_stay, cut_off, none_fails, none_fuses, still_on, cut_fine, cut_fuses}

module _ {D : Type 0} (counts : D → Counts) where
  pub counts_disk : (s : Store D) (i : ℕ) → counts_at counts s i ≡ option_map counts (slice_get (disks_of s.trail s.volumes.items) i)
  counts_disk s zero = refl
  counts_disk s (suc v) = sym (ap (λ o. option_map counts o) (slice_get-map (λ volume. disk_of volume) s.volumes.items v) ∙ twice (slice_get s.volumes.items v))
    where
      twice : (o : Option (Volume D)) → option_map counts (option_map (λ volume. disk_of volume) o) ≡ option_map (λ volume. counts (disk_of volume)) o
      twice None = refl
      twice (Some volume) = refl

  abbrev Ended : NodeFault → ℕ → D → D → Type 0
  Ended why i x y = Causes (ending_at i why) (counts x) (counts y)

  of_options : (e : Ending) (x y : Option D) → CausesIf e (option_map counts x) (option_map counts y) → IfBoth (λ a b. Causes e (counts a) (counts b)) x y
  of_options e None None h = tt
  of_options e None (Some y) h = none (counts y) h
    where
      none : (c : Counts) → (let some : Option Counts = Some c in some ≡ None) → ⊥
      none c g = cc
  of_options e (Some x) None h = absurd h
  of_options e (Some x) (Some y) h = h

  -- the causes of a call, disk by disk
  pub by_disk : {T : Type 0} (r : Result T NodeFault) (old new : Store D) → CausedBy counts r old new → Each (λ i x y. Causes (ending_for i r) (counts x) (counts y)) (disks_of old.trail old.volumes.items) (disks_of new.trail new.volumes.items)
  by_disk r old new h = λ i. of_options (ending_for i r) _ _
      (subst (λ o. CausesIf (ending_for i r) (option_map counts (slice_get (disks_of old.trail old.volumes.items) i)) o) (counts_disk new i) (subst (λ o. CausesIf (ending_for i r) o (counts_at counts new i)) (counts_disk old i) (h.1 i)))

  pub many_of : {d : Ghosts D} (p : Primary D d) (volumes : ℕ) → tmf_volumes p.tmf ≡ volumes → length (disks_in p) ≡ suc volumes
  many_of p volumes sized = ap suc (length-map p.tmf.store.volumes.items (λ volume. disk_of volume) ∙ sized)

  -- the disks of a primary that went down
  pub are_off : {d : Ghosts D} (tells : Type 0) (files : D → Disk) (p : Primary D d) (volumes : ℕ) (disks : List D) → tmf_volumes p.tmf ≡ volumes → (tells → StoodForSome files disks) → HasLayout volumes → AreCut tells files counts (disks_in p) disks → MayRest tells files counts volumes disks
  are_off tells files p volumes disks sized stood laid cut = record {
    many = same_length (λ i x y. IsCut tells files counts x y) (disks_in p) disks cut ∙ many_of p volumes sized;
    off = cut_off counts tells files (disks_in p) disks cut;
    stood = stood;
    laid = laid;
  }

-- the causes of the answer to a line that a fault ended
pub told_caused : {D : Type 0} {d : Ghosts D} (counts : D → Counts) (why : NodeFault) (old new : PrimaryNode D d) (r : Result Reply NodeFault) → r ≡ stop_told why → FailsBy counts why old new → IsCaused counts r old new
told_caused counts why old new r is fails = subst (λ x. IsCaused counts x old new) (sym is) (by_why why fails)
  where
    by_why : (w : NodeFault) → FailsBy counts w old new → IsCaused counts (stop_told w) old new
    by_why (fault.Stopped disk) h = inr (refl, (disk, h))
    by_why (fault.Failed disk) h = (h, λ e f. not_stopped f)
      where
        not_stopped : {e : ℕ} → fault.Failed disk ≡ fault.Stopped e → ⊥
        not_stopped f = cc
    by_why fault.NoMemory h = (h, λ e f. not_stopped f)
      where
        not_stopped : {e : ℕ} → fault.NoMemory ≡ fault.Stopped e → ⊥
        not_stopped f = cc
    by_why (fault.Damaged disk file at) h = (h, λ e f. not_stopped f)
      where
        not_stopped : {e : ℕ} → fault.Damaged disk file at ≡ fault.Stopped e → ⊥
        not_stopped f = cc

-- it tells of no damage where the fault tells of none
pub told_sound : (why : NodeFault) (r : Result Reply NodeFault) → r ≡ stop_told why → is_damage why ≡ false → IsSound r
told_sound why r is h = subst (λ (x : Result Reply NodeFault). IsSound x) (sym is) (by_why why h)
  where
    by_why : (w : NodeFault) → is_damage w ≡ false → IsSound (stop_told w)
    by_why (fault.Stopped disk) e = tt
    by_why (fault.Failed disk) e = e
    by_why fault.NoMemory e = e
    by_why (fault.Damaged disk file at) e = e

module _ {D : Type 0} {d : Ghosts D} (n : PrimaryNode D d) (none : n.primary ≡ None) where
  -- the disks of a node that is not up
  pub each_off : (R : ℕ → D → D → Type 0) (xs : List D) → Each R xs n.disks.items → Each R xs (disks_at n)
  each_off R xs h = subst (λ (o : Option (Primary D d)). Each R xs (disks_among o n.disks.items)) (sym none) h

  pub serves_off : (tells : Type 0) (files : D → Disk) (counts : D → Counts) (volumes : ℕ) → n.volumes ≡ volumes → MayRest tells files counts volumes n.disks.items → MayServe tells files counts n
  serves_off tells files counts volumes same h = subst (λ (o : Option (Primary D d)). MatchOption o (MayRest tells files counts n.volumes n.disks.items) (λ p. MayRun tells files counts n.volumes p × (n.lost ≡ false) × HasLayout n.volumes)) (sym none)
      (subst (λ (v : ℕ). MayRest tells files counts v n.disks.items) (sym same) h)
