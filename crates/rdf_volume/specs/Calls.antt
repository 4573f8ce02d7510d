-- What each call of a volume does, whatever it answers.
use Rattle.std.specs.Prelude.{◌≡◌, ℕ, ◌+◌, ◌-◌, ◌^◌, ◌&&◌, Bool, false, nat_le, nat_lt, if◌then◌else◌, List, Result, Err, OnOk, OnErr, IfOk, IfErr}
use Rattle.std.specs.FinMap.{empty}
use Rattle.rdf_types.specs.declared.records.Change.{Change}
use Rattle.rdf_disk.specs.Files.{Disk, Contents}
use Rattle.rdf_disk.specs.Counts.{Counts, Causes}
use Rattle.rdf_disk.specs.Outcomes.{Durably, Keeps, seen_of}
use Rattle.rdf_gatelog.specs.LogCauses.{ending, ending_of_fault, NotDamaged}
use Rattle.rdf_gatelog.specs.declared.fault.LogFault.{LogFault}
use Rattle.rdf_gatelog.specs.declared.fault.LogFault.TheVariants.{Damaged}
use Rattle.rdf_model.specs.Volumes.{Rows}
use Rattle.rdf_volume.specs.declared.volume.Volume.{Volume}
use Rattle.rdf_volume.specs.declared.volume.VolShut.{VolShut}
use Rattle.rdf_volume.specs.Changes.{changed}
use Rattle.rdf_volume.specs.Flaws.{IsFlaw}
use Rattle.rdf_volume.specs.InUse.{counted}
use Rattle.rdf_volume.specs.Standing.{StandsFor, StandsBy, StandsForEither, SameVolume, WasOrBegun}
use Rattle.rdf_volume.specs.Views.{rows_of, restart_of, batches_of, file_of, disk_of, disk_in, InUse}

-- What a call does to a volume's disk: done, the volume may be used; ended by a fault, its disk durably stands so.
pub record Does {D T : Type 0} (tells : Type 0) (files : D → Disk) (counts : D → Counts) (Left : Contents → Type 0) (old : Volume D) (result : Result T LogFault) (new : Volume D) : Type 0 where
  pub ok : tells → OnOk result (InUse files new)
  pub err : tells → OnErr result (Durably (files (disk_of new)) Left)
  -- each fault has its cause in the disk's counts, which a call that is done leaves as they were
  pub cause : Causes (ending result) (counts (disk_of old)) (counts (disk_of new))

-- A batch: all changes and the restart point, as one durable step.
pub record Applies {D : Type 0} (tells : Type 0) (files : D → Disk) (counts : D → Counts) (batch : List Change) (point : ℕ) (old : Volume D) (result : Result (Unit {0}) LogFault) (new : Volume D) : Type 0 where
  pub does : Does tells files counts (StandsForEither (rows_of old) (restart_of old) (changed (rows_of old) batch) point) old result new
  pub open does use *
  pub rows : OnOk result (rows_of new ≡ changed (rows_of old) batch)
  pub restart : OnOk result (restart_of new ≡ point)
  pub batches : OnOk result (batches_of new ≡ counted (batches_of old + 1))
  pub file : OnOk result (file_of new ≡ file_of old)
  -- a fault leaves the restart point that the volume tells
  pub kept : OnErr result (restart_of new ≡ restart_of old)
  -- no damage is told, whatever the disk is
  pub sound : NotDamaged result

-- a volume in this file is checkpointed at so many batches: from that many on, where the number of the file allows it
abbrev pub is_due : ℕ → ℕ → ℕ → Bool
is_due least file batches = nat_le least batches && nat_lt file (2 ^ 32 - 2)

-- A checkpoint, or none: the same rows and restart point, as the base of the next file where it is due.
pub record Checkpoints {D : Type 0} (tells : Type 0) (files : D → Disk) (counts : D → Counts) (due : Bool) (old : Volume D) (result : Result (Unit {0}) LogFault) (new : Volume D) : Type 0 where
  pub does : Does tells files counts (StandsFor (rows_of old) (restart_of old)) old result new
  pub open does use *
  pub rows : rows_of new ≡ rows_of old
  pub restart : restart_of new ≡ restart_of old
  pub batches : OnOk result (batches_of new ≡ if due then 0 else batches_of old)
  pub file : OnOk result (file_of new ≡ if due then file_of old + 1 else file_of old)
  -- the rows are read again, and a disk that tells what it holds gives them
  pub sound : tells → NotDamaged result
  -- damage that is told is of the volume's file, whatever the disk is
  pub names : (damaged at : ℕ) → result ≡ Err (Damaged damaged at) → damaged ≡ file_of old

-- A format: a volume without rows, on a disk that was on; else the disk is as it might have been, or has such a volume or the beginning of one.
pub record Formats {D : Type 0} (tells : Type 0) (files : D → Disk) (counts_of : D → Counts) (disk : D) (result : Result (Volume D) (VolShut D)) : Type 0 where
  pub ok : tells → IfOk result (InUse files)
  pub err : tells → IfErr result (λ shut. Durably (files shut.disk) (WasOrBegun (files disk)))
  pub rows : IfOk result (λ volume. rows_of volume ≡ empty)
  pub restart : IfOk result (λ volume. restart_of volume ≡ 0)
  pub batches : IfOk result (λ volume. batches_of volume ≡ 0)
  pub file : IfOk result (λ volume. file_of volume ≡ 0)
  pub on : IfOk result (λ volume. (counts_of (disk_of volume)).off ≡ false)
  pub counts : IfOk result (λ volume. counts_of (disk_of volume) ≡ counts_of disk)
  pub cause : IfErr result (λ shut. Causes (ending_of_fault shut.fault) (counts_of disk) (counts_of shut.disk))
  pub sound : IfErr result (λ shut. (file at : ℕ) → shut.fault ≡ Damaged file at → ⊥)

-- Opening a volume: it shows what its disk stood for, by the file and with the batches that stood; and whatever the answer, the disk goes on to stand for that.
pub record Mounts {D : Type 0} (tells : Type 0) (files : D → Disk) (counts_of : D → Counts) (disk : D) (result : Result (Volume D) (VolShut D)) : Type 0 where
  pub ok : tells → IfOk result (λ volume. (rows : Rows) (restart : ℕ) → StandsFor rows restart (seen_of (files disk)) → InUse files volume × (rows_of volume ≡ rows) × (restart_of volume ≡ restart))
  pub counted : tells → IfOk result (λ volume. (file batches : ℕ) (rows : Rows) (restart : ℕ) → StandsBy file batches rows restart (seen_of (files disk)) → (file_of volume ≡ file) × (batches_of volume ≡ counted batches))
  pub keeps : tells → Keeps SameVolume (files disk) (files (disk_in result))
  -- what is told as damaged is, and nothing is that stands for something
  pub damaged : tells → IfErr result (λ shut. (file at : ℕ) → shut.fault ≡ Damaged file at → IsFlaw (seen_of (files disk)) file at)
  pub whole : tells → IfErr result (λ shut. (rows : Rows) (restart file at : ℕ) → StandsFor rows restart (seen_of (files disk)) → shut.fault ≡ Damaged file at → ⊥)
  pub on : IfOk result (λ volume. (counts_of (disk_of volume)).off ≡ false)
  pub counts : IfOk result (λ volume. counts_of (disk_of volume) ≡ counts_of disk)
  pub cause : IfErr result (λ shut. Causes (ending_of_fault shut.fault) (counts_of disk) (counts_of shut.disk))
