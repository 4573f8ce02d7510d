-- How a session begins and how it is left.
use Rattle.std.specs.Prelude.{◌≡◌, ℕ, List, false, Option, Some, None, Result, Ok, Err}
use Rattle.std.specs.List.{AllZip}
use Rattle.rdf_types.specs.declared.records.Stamped.{Stamped}
use Rattle.rdf_disk.specs.Files.{Disk}
use Rattle.rdf_disk.specs.Counts.{Counts, Causes}
use Rattle.rdf_disk.specs.Outcomes.{Durably}
use Rattle.rdf_gatelog.specs.declared.fault.LogFault.{LogFault}
use Rattle.rdf_gatelog.specs.declared.fault.LogFault.TheVariants.{Damaged, NoMemory}
use Rattle.rdf_gatelog.specs.LogCauses.{ending_of_fault}
use Rattle.rdf_volume.specs.Views.{restart_of, disk_of}
use Rattle.rdf_volume.specs.declared.volume.Volume.{Volume}
use Rattle.updaters.specs.declared.updating.UpdaterEnd.{UpdaterEnd}
use Rattle.updaters.specs.declared.updating.UpdaterEnd.TheVariants as updater
use Rattle.volume_sessions.specs.declared.placed.Placed.{Placed}
use Rattle.volume_sessions.specs.declared.placed.Left.{Left}
use Rattle.volume_sessions.specs.Shown.{Shown}
use Rattle.volume_sessions.specs.Rising.{Rose, StandsAlong}

-- the session as it is opened: these volumes, and these entries up to a position
pub record IsOpened {D : Type 0} (volumes : List (Placed D)) (start : ℕ) (part : List Stamped) (end : ℕ) (s : Shown D) : Type 0 where
  pub start_is : s.start ≡ start
  pub entries : s.entries ≡ part
  pub end_is : s.end ≡ end
  pub volumes_are : s.volumes ≡ volumes
  pub lent : s.lent ≡ false

-- a volume on which a fault was met: the disk durably stands for it, come to some position, and the fault has its cause in the counts
pub record HasBroken {D : Type 0} (tells : Type 0) (files : D → Disk) (counts : D → Counts) (vol : ℕ) (entries : List Stamped) (upto : ℕ) (old : Volume D) (why : LogFault) (new : Volume D) : Type 0 where
  pub stands : tells → Durably (files (disk_of new)) (StandsAlong vol entries upto old)
  pub cause : Causes (ending_of_fault why) (counts (disk_of old)) (counts (disk_of new))
  pub sound : tells → (file at : ℕ) → why ≡ Damaged file at → ⊥

-- the answer of a volume: the fault that its seat keeps, or else want of memory where its updater ended before all was applied
abbrev pub answer_of : Option LogFault → UpdaterEnd → Result (Unit {0}) LogFault
answer_of (Some why) end = Err why
answer_of None updater.Drained = Ok tt
answer_of None updater.Stopped = Err NoMemory
answer_of None updater.Failed = Err NoMemory
answer_of None updater.NoMemory = Err NoMemory
answer_of None (updater.Damaged file at) = Err NoMemory

-- what came of a volume since it was last seen: it has come to the end, or a fault was met
abbrev pub HasCome : {D : Type 0} → Type 0 → (D → Disk) → (D → Counts) → ℕ → List Stamped → ℕ → Volume D → Result (Unit {0}) LogFault → Volume D → Type 0
HasCome tells files counts vol entries upto old (Ok x) new = Rose tells files counts vol entries upto old new × (restart_of new ≡ upto)
HasCome tells files counts vol entries upto old (Err why) new = HasBroken tells files counts vol entries upto old why new

abbrev pub HasLeft : {D : Type 0} → Type 0 → (D → Disk) → (D → Counts) → List Stamped → ℕ → Placed D → Left D → Type 0
HasLeft tells files counts entries upto old left = HasCome tells files counts old.vol entries upto old.volume left.answer left.volume

-- What was driven in a session, from how it was opened to how it was left; and what then came of each volume
pub record HasRun {D O : Type 0} (tells : Type 0) (files : D → Disk) (counts : D → Counts) (drives : Shown D → O → Shown D → Type 0) (volumes : List (Placed D)) (start : ℕ) (part : List Stamped) (end : ℕ) (out : O) (left : List (Left D)) : Type 0 where
  pub opened : Shown D
  pub closed : Shown D
  pub opens : IsOpened volumes start part end opened
  pub same : closed.key ≡ opened.key
  pub driven : drives opened out closed
  pub lefts : AllZip (HasLeft tells files counts closed.entries closed.end) closed.volumes left
