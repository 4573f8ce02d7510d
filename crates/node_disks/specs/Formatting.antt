-- Disks without files, and what a node's become.
use Rattle.std.specs.Prelude.{◌≡◌, ℕ, suc, false, List, None, Some}
use Rattle.std.specs.FinMap.{empty}
use Rattle.rdf_disk.specs.Files.{Disk}
use Rattle.rdf_disk.specs.Counts.{Counts, Causes}
use Rattle.rdf_gatelog.specs.declared.fault.LogFault.{LogFault}
use Rattle.rdf_gatelog.specs.declared.fault.LogFault.TheVariants.{Damaged}
use Rattle.rdf_gatelog.specs.LogCauses.{ending_of_fault}
use Rattle.rdf_volume.specs.declared.volume.Volume.{Volume}
use Rattle.rdf_volume.specs.Views.{rows_of, restart_of, disk_of, InUse}
use Rattle.node_faults.specs.declared.Shut.{Shut}
use Rattle.node_faults.specs.Faults.{IsNamed}
use Rattle.node_faults.specs.Openings.{IsNoDamage, AreCaused}

-- no file is seen
abbrev pub IsBlank : Disk → Type 0
IsBlank disk = (m : ℕ) → (disk m).seen ≡ None

-- the disk is a volume without rows, whose restart point is 0; it is on, and counts as before
pub record IsNewVolume {D : Type 0} (tells : Type 0) (files : D → Disk) (counts : D → Counts) (x : D) (volume : Volume D) : Type 0 where
  pub in_use : tells → InUse files volume
  pub rows : rows_of volume ≡ empty
  pub restart : restart_of volume ≡ 0
  pub on : (counts (disk_of volume)).off ≡ false
  pub counts_are : counts (disk_of volume) ≡ counts x

-- nothing was made on the disk: its counts rose as the fault says, which tells no damage
pub record IsNotNew {D : Type 0} (counts : D → Counts) (x y : D) (fault : LogFault) : Type 0 where
  pub cause : Causes (ending_of_fault fault) (counts x) (counts y)
  pub sound : (file at : ℕ) → fault ≡ Damaged file at → ⊥

-- A node of so many volumes could not be made of the disks: they come back in their order. The fault tells no damage, has its cause in the counts of its disk, and names no disk that the node lacks.
pub record IsNotFormatted {D : Type 0} (counts : D → Counts) (volumes : ℕ) (disks : List D) (shut : Shut D) : Type 0 where
  pub cause : AreCaused counts (Some shut.fault) disks shut.disks.items
  pub named : IsNamed (suc volumes) shut.fault
  pub sound : IsNoDamage (Some shut.fault)
