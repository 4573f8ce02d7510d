-- What the lines of a backup keep, whatever they answer.
use Rattle.std.specs.Prelude.{◌≡◌, Result, OnOk}
use Rattle.rdf_disk.specs.Files.{Disk}
use Rattle.rdf_disk.specs.Counts.{Counts}
use Rattle.rdf_disk.specs.declared.disk.Disk.{Ghosts}
use Rattle.rdf_types.specs.declared.records.Phase.TheVariants.{Taken}
use Rattle.image_disks.specs.Values.{received}
use Rattle.node_faults.specs.declared.NodeFault.{NodeFault}
use Rattle.node_faults.specs.Faults.{NamesOwn}
use Rattle.rdf_core.specs.declared.replies.Reply.{Reply}
use Rattle.rdf_backup.specs.declared.backup.Backup.{Backup}
use Rattle.rdf_backup.specs.States.{layout_of, value_of, MayUse}
use Rattle.rdf_backup.specs.Replies.{CausedBy}
use Rattle.rdf_backup.specs.Answers.{IsPlain}
use Rattle.rdf_backup.specs.Beside.{CausedBeside}

-- A call that uses the disks of a backup: where it is done the backup may be used, and its layout stays. A fault has its cause in the counts of the disk that it names, which is one of the backup's.
pub record Keeps {D T : Type 0} {d : Ghosts D} (tells : Type 0) (files : D → Disk) (counts : D → Counts) (result : Result T NodeFault) (old new : Backup D d) : Type 0 where
  pub usable : tells → OnOk result (MayUse files new)
  pub laid : layout_of new ≡ layout_of old
  pub cause : CausedBy counts result old new
  pub named : NamesOwn (layout_of old).volumes result

-- a line, which answers what stands in no node's name, and leaves the phase as it was in memory
pub record KeepsLine {D : Type 0} {d : Ghosts D} (tells : Type 0) (files : D → Disk) (counts : D → Counts) (result : Result Reply NodeFault) (old new : Backup D d) : Type 0 where
  pub keeps : Keeps tells files counts result old new
  pub open keeps use *
  pub plain : IsPlain result
  pub phase : OnOk result ((value_of new).phase ≡ (value_of old).phase)

-- a takeover, which works the volumes beside each other: as such a line, but several disks may have stopped or failed, and where it is done the phase in memory is that of a takeover up to what was received
pub record KeepsBeside {D : Type 0} {d : Ghosts D} (tells : Type 0) (files : D → Disk) (counts : D → Counts) (result : Result Reply NodeFault) (old new : Backup D d) : Type 0 where
  pub usable : tells → OnOk result (MayUse files new)
  pub laid : layout_of new ≡ layout_of old
  pub cause : CausedBeside counts result old new
  pub named : NamesOwn (layout_of old).volumes result
  pub plain : IsPlain result
  pub taken : OnOk result ((value_of new).phase ≡ Taken (received (value_of old)))
