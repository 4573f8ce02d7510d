-- What redo makes of a volume.
use Rattle.std.specs.Prelude.{◌≡◌, ℕ, ◌≤◌, max, List, [], length, take, drop, Result, OnOk}
use Rattle.rdf_types.specs.declared.records.Record.{Record}
use Rattle.rdf_disk.specs.Files.{Disk, Contents}
use Rattle.rdf_disk.specs.Counts.{Counts}
use Rattle.rdf_gatelog.specs.LogCauses.{NotDamaged}
use Rattle.rdf_gatelog.specs.declared.fault.LogFault.{LogFault}
use Rattle.rdf_model.specs.Contents.{nothing}
use Rattle.rdf_model.specs.Trail.{raw}
use Rattle.rdf_model.specs.Volumes.{Rows, AreOn}
use Rattle.rdf_volume.specs.Calls.{Does}
use Rattle.rdf_volume.specs.Changes.{changed, changes_on}
use Rattle.rdf_volume.specs.Standing.{StandsFor}
use Rattle.rdf_volume.specs.Views.{rows_of, restart_of}
use Rattle.rdf_volume.specs.declared.volume.Volume.{Volume}

-- the rows after the volume's images of the trail at the positions from p to below q, in their order
abbrev pub redone : ℕ → List Record → ℕ → ℕ → Rows → Rows
redone vol trail p q rows = changed rows (changes_on vol (drop p (take q trail)))

-- the contents stand for what redo leaves of these rows up to some position, with that restart point
pub record StandsRedone (vol : ℕ) (trail : List Record) (p : ℕ) (rows : Rows) (contents : Contents) : Type 0 where
  pub q : ℕ
  pub from : p ≤ q
  pub upto : q ≤ max p (length trail)
  pub stands : StandsFor (redone vol trail p q rows) q contents

-- Redo of a volume: its images from its restart point on are applied, and behind the one that is then left the trail has none.
-- Ended by a fault, its disk durably stands for what redo leaves up to some position.
pub record Redoes {D : Type 0} (tells : Type 0) (files : D → Disk) (counts : D → Counts) (vol : ℕ) (trail : List Record) (old : Volume D) (result : Result (Unit {0}) LogFault) (new : Volume D) : Type 0 where
  pub does : Does tells files counts (StandsRedone vol trail (restart_of old) (rows_of old)) old result new
  pub open does use *
  pub rows : OnOk result (rows_of new ≡ redone vol trail (restart_of old) (restart_of new) (rows_of old))
  pub whole : OnOk result (changes_on vol (drop (restart_of new) trail) ≡ [])
  -- a volume that showed a prefix of the trail shows one up to its restart point, and all of it
  pub shows : OnOk result (AreOn vol (raw nothing (take (restart_of old) trail)) (rows_of old)
      → AreOn vol (raw nothing (take (restart_of new) trail)) (rows_of new) × AreOn vol (raw nothing trail) (rows_of new))
  pub from : restart_of old ≤ restart_of new
  pub upto : restart_of new ≤ max (restart_of old) (length trail)
  -- it reads no rows again: no damage is told, whatever the disk is
  pub sound : NotDamaged result
