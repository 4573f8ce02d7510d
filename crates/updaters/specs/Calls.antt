-- What the calls on a volume do that apply images.
use Rattle.std.specs.Prelude.{◌≡◌, ◌⊎◌, ℕ, ◌≤◌, List, length, Result, Err, OnOk, OnErr}
use Rattle.rdf_types.specs.declared.records.Change.{Change}
use Rattle.rdf_types.specs.declared.records.Stamped.{Stamped}
use Rattle.rdf_disk.specs.Files.{Disk}
use Rattle.rdf_disk.specs.Counts.{Counts}
use Rattle.rdf_disk.specs.Outcomes.{Durably}
use Rattle.rdf_gatelog.specs.LogCauses.{NotDamaged}
use Rattle.rdf_gatelog.specs.declared.fault.LogFault.{LogFault}
use Rattle.rdf_gatelog.specs.declared.fault.LogFault.TheVariants.{Damaged}
use Rattle.rdf_model.specs.Window.{records}
use Rattle.rdf_volume.specs.Calls.{Does}
use Rattle.rdf_volume.specs.Changes.{changed, changes_on}
use Rattle.rdf_volume.specs.Standing.{StandsFor, StandsForEither}
use Rattle.rdf_volume.specs.Views.{rows_of, restart_of, batches_of, file_of, disk_of}
use Rattle.rdf_volume.specs.declared.volume.Volume.{Volume}
use Rattle.updaters.specs.Applied.{StandsApplied}
use Rattle.updaters.specs.Batches.{batches_after, file_after, TookBatches}

-- One batch, and a checkpoint where that is due: all changes and the restart point, as one durable step.
pub record Steps {D : Type 0} (tells : Type 0) (files : D → Disk) (counts : D → Counts) (changes : List Change) (upto : ℕ) (old : Volume D) (result : Result (Unit {0}) LogFault) (new : Volume D) : Type 0 where
  pub does : Does tells files counts (StandsForEither (rows_of old) (restart_of old) (changed (rows_of old) changes) upto) old result new
  pub open does use *
  pub rows : OnOk result (rows_of new ≡ changed (rows_of old) changes)
  pub restart : OnOk result (restart_of new ≡ upto)
  pub batches : OnOk result (batches_of new ≡ batches_after (file_of old) (batches_of old))
  pub file : OnOk result (file_of new ≡ file_after (file_of old) (batches_of old))
  -- a fault leaves the old restart point or the new one
  pub point : OnErr result ((restart_of new ≡ restart_of old) ⊎ (restart_of new ≡ upto))
  -- a disk that tells what it holds has no damage, and damage that is told is of the volume's file, whatever the disk is
  pub sound : tells → NotDamaged result
  pub names : (damaged at : ℕ) → result ≡ Err (Damaged damaged at) → damaged ≡ file_of old

-- its disk durably stands for the whole batch
abbrev pub StandsWhole : {D : Type 0} → (D → Disk) → List Change → ℕ → Volume D → Volume D → Type 0
StandsWhole files changes upto old new = Durably (files (disk_of new)) (StandsFor (changed (rows_of old) changes) upto)

-- Redo by these entries, which are those of a list below a position: the volume's images among them are applied in their order, in batches of 64, and that position is then its restart point.
-- Ended by a fault, the disk durably stands for what the images up to some position make.
pub record Redoes {D : Type 0} (tells : Type 0) (files : D → Disk) (counts : D → Counts) (vol : ℕ) (entries all : List Stamped) (upto : ℕ) (old : Volume D) (result : Result (Unit {0}) LogFault) (new : Volume D) : Type 0 where
  pub does : Does tells files counts (StandsApplied vol all (restart_of old) upto (rows_of old)) old result new
  pub open does use *
  pub rows : OnOk result (rows_of new ≡ changed (rows_of old) (changes_on vol (records entries)))
  pub restart : OnOk result (restart_of new ≡ upto)
  pub batches : OnOk result (TookBatches (length (changes_on vol (records entries))) (file_of old, batches_of old) (file_of new, batches_of new))
  -- a disk that tells what it holds has no damage, and damage that is told is of a file of the volume's from its own on, whatever the disk is
  pub sound : tells → NotDamaged result
  pub names : (damaged at : ℕ) → result ≡ Err (Damaged damaged at) → file_of old ≤ damaged
  -- where nothing is to be done nothing is
  pub idle : restart_of old ≡ upto → new ≡ old
