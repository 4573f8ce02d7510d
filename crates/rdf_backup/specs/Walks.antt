-- Calls that work the protected volumes of a backup beside each other.
use Rattle.std.specs.Prelude.{◌≡◌, ◌≤◌, ℕ, suc, List, length, map, slice_get, Result}
use Rattle.rdf_disk.specs.Files.{Disk}
use Rattle.rdf_types.specs.declared.records.Stamped.{Stamped}
use Rattle.rdf_types.specs.Entries.{RiseFrom}
use Rattle.rdf_disk.specs.Counts.{Counts, Ending, Causes}
use Rattle.rdf_disk.specs.Counts.Ending.{Fine}
use Rattle.rdf_volume.specs.declared.volume.Volume.{Volume}
use Rattle.rdf_volume.specs.Views.{disk_of}
use Rattle.node_faults.specs.declared.NodeFault.{NodeFault}
use Rattle.node_faults.specs.Faults.{NamesOwn}
use Rattle.rdf_backup.specs.Beside.{EndsBeside}
use Rattle.rdf_backup.specs.Replies.{IfBoth}
use Rattle.rdf_backup.specs.Taking.{AreInUse}

-- what a call keeps that works the volumes beside each other: as many are there, and several of their disks may have stopped or failed, of whose faults the first is answered
pub record KeepsVolumesBeside {D T : Type 0} (counts : D → Counts) (result : Result T NodeFault) (old new : List (Volume D)) : Type 0 where
  pub many : length new ≡ length old
  pub ends : ℕ → Ending
  pub beside : EndsBeside result ends
  pub first : ends 0 ≡ Fine
  pub cause : (i : ℕ) → IfBoth (λ x y. Causes (ends (suc i)) (counts x) (counts y)) (slice_get (map (λ volume. disk_of volume) old) i) (slice_get (map (λ volume. disk_of volume) new) i)
  pub named : NamesOwn (length old) result

-- volumes that entries may bring on: they may be used, and the positions rise
pub record MayWalk {D : Type 0} (tells : Type 0) (files : D → Disk) (entries : List Stamped) (volumes : List (Volume D)) : Type 0 where
  pub few : length volumes ≤ 16
  pub rising : RiseFrom 0 entries
  pub in_use : tells → AreInUse files volumes
