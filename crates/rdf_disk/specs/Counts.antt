-- The counts of a disk, and what an answer says of them.
use Rattle.std.specs.Prelude.{◌≡◌, ℕ, ◌+◌, ◌≤◌, min, Bool, true, false, Result, Ok, Err}
use Rattle.rdf_types.specs.Counts.{most, Rose}
use Rattle.rdf_disk.specs.declared.fault.DiskFault.{DiskFault}
use Rattle.rdf_disk.specs.declared.fault.DiskFault.TheVariants.{Stopped, Failed, NoMemory}

-- how often a disk has failed, has stopped and was given a fuse, and whether it is off
pub record Counts : Type 0 where
  pub faults : ℕ
  pub stops : ℕ
  pub fuses : ℕ
  pub off : Bool

-- the disk failed: its faults rose, and no other count changed
pub record Faulted (old new : Counts) : Type 0 where
  pub no_less : old.faults ≤ new.faults
  pub rose : Rose old.faults new.faults
  pub stops : new.stops ≡ old.stops
  pub fuses : new.fuses ≡ old.fuses
  pub off : new.off ≡ old.off

-- the disk stopped, or was off, which is no stop more; it is off from then on
pub record WasStopped (old new : Counts) : Type 0 where
  pub no_less : old.stops ≤ new.stops
  pub rose : old.off ≡ false → Rose old.stops new.stops
  pub still : old.off ≡ true → new.stops ≡ old.stops
  pub off : new.off ≡ true
  pub faults : new.faults ≡ old.faults
  pub fuses : new.fuses ≡ old.fuses

-- how a call ended, as far as the counts go
pub data Ending : Type 0 where
  Fine Stop Fault : Ending

-- each ending has its cause
abbrev pub Causes : Ending → Counts → Counts → Type 0
Causes Fine old new = new ≡ old
Causes Stop old new = WasStopped old new
Causes Fault old new = Faulted old new

abbrev pub ending_of_fault : DiskFault → Ending
ending_of_fault Stopped = Stop
ending_of_fault Failed = Fault
ending_of_fault NoMemory = Fine

abbrev pub ending : {T : Type 0} → Result T DiskFault → Ending
ending (Ok x) = Fine
ending (Err e) = ending_of_fault e

-- the counts after a fuse, a cut and a restart
abbrev pub fused : Counts → Counts
fused c = record c { fuses = min (c.fuses + 1) most }

abbrev pub turned_off : Counts → Counts
turned_off c = record c { off = true }

abbrev pub turned_on : Counts → Counts
turned_on c = record c { off = false }

-- a restart is Ok, or the disk has failed
abbrev pub Restarts : {T : Type 0} → Result T DiskFault → Counts → Counts → Type 0
Restarts (Ok x) old new = new ≡ turned_on old
Restarts (Err Failed) old new = Faulted old new
Restarts (Err Stopped) old new = ⊥
Restarts (Err NoMemory) old new = ⊥
