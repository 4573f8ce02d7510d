-- What the calls of a disk in memory do, by what becomes of each of them.
use Rattle.std.specs.Prelude.{◌≡◌, ◌≢◌, ℕ, Bool, true, false, not, List, length, None, Some, Result, Ok, Err}
use Rattle.rdf_disk.specs.declared.fault.DiskFault.{DiskFault}
use Rattle.rdf_disk.specs.declared.fault.DiskFault.TheVariants.{Stopped, Failed, NoMemory}
use Rattle.rdf_disk.specs.declared.memory.MemDisk.{MemDisk}
use Rattle.rdf_disk.specs.declared.memory_meter.Meter.{Meter}
use Rattle.rdf_disk.specs.declared.memory_meter.Turn.{Turn}
use Rattle.rdf_disk.specs.declared.memory_meter.Turn.TheVariants.{Go, Fail, Stop, Off}
use Rattle.rdf_disk.specs.Files.{Disk}
use Rattle.rdf_disk.specs.MemoryChanges.{state_of, Change, Write, Remove, FailedWrite, FailedRemove, Told, quiet, changed, left_by}
use Rattle.rdf_disk.specs.MemoryFiles.{told_at}
use Rattle.rdf_disk.specs.MemoryMeters.{turn_of, counted, IsAnswer}

-- what the disk tells of its files
abbrev pub tells_of : MemDisk → ℕ → Told
tells_of d n = told_at d.files.entries n

-- the files that a disk tells
abbrev pub files_of : MemDisk → Disk
files_of d n = state_of (tells_of d n)

-- the call was counted, and its answer is the one of its turn
abbrev pub IsCounted : {T : Type 0} → Result T DiskFault → Meter → Meter → Type 0
IsCounted result old new = IsAnswer (turn_of old) result × (new ≡ counted (turn_of old) old)

-- a stop settles a file
abbrev pub settled_after : Turn → Told → Told
settled_after Go t = t
settled_after Fail t = t
settled_after (Stop tear) t = quiet (left_by tear t)
settled_after Off t = t

-- only a stop changes what the disk tells
abbrev pub IsLook : Turn → MemDisk → MemDisk → Type 0
IsLook turn old new = (n : ℕ) → tells_of new n ≡ settled_after turn (tells_of old n)

-- the file, with the change where the file is there
abbrev pub unlinked_by : Change → Told → Told
unlinked_by c t = elim t.seen [ None ↦ t | Some bytes ↦ changed c t ]

-- what a write, a removal and a sync make of a file, by the call's turn
abbrev pub after_write : Turn → Bool → ℕ → List ℕ → Told → Told
after_write Go odd at bytes t = changed (Write odd at bytes) t
after_write Fail odd at bytes t = changed (FailedWrite at (length bytes)) t
after_write (Stop tear) odd at bytes t = quiet (left_by tear (changed (Write odd at bytes) t))
after_write Off odd at bytes t = t

abbrev pub after_removal : Turn → Bool → Told → Told
after_removal Go odd t = unlinked_by (Remove odd) t
after_removal Fail odd t = unlinked_by FailedRemove t
after_removal (Stop tear) odd t = quiet (left_by tear (unlinked_by (Remove odd) t))
after_removal Off odd t = t

abbrev pub after_sync : Turn → Told → Told
after_sync Go t = quiet t.seen
after_sync Fail t = t
after_sync (Stop tear) t = quiet (left_by tear t)
after_sync Off t = t

-- whether the next change has an odd number, after a call that is one change, and after one that is none
abbrev pub odd_after_change : Turn → Bool → Bool
odd_after_change Go odd = not odd
odd_after_change Fail odd = odd
odd_after_change (Stop tear) odd = false
odd_after_change Off odd = odd

abbrev pub odd_after : Turn → Bool → Bool
odd_after Go odd = odd
odd_after Fail odd = odd
odd_after (Stop tear) odd = false
odd_after Off odd = odd

abbrev pub odd_after_sync : Turn → Bool → Bool
odd_after_sync Go odd = false
odd_after_sync Fail odd = odd
odd_after_sync (Stop tear) odd = false
odd_after_sync Off odd = odd

-- the file tells this, and a stop settles each other file
pub record Tells (file : ℕ) (turn : Turn) (old new : MemDisk) (is : Told) : Type 0 where
  pub this : tells_of new file ≡ is
  pub others : (m : ℕ) → m ≢ file → tells_of new m ≡ settled_after turn (tells_of old m)

-- a write that was counted
pub record IsWrite (file at : ℕ) (bytes : List ℕ) (turn : Turn) (old new : MemDisk) : Type 0 where
  pub tells : Tells file turn old new (after_write turn old.files.odd at bytes (tells_of old file))
  pub odd : new.files.odd ≡ odd_after_change turn old.files.odd

-- a removal that was counted
pub record IsRemoval (file : ℕ) (turn : Turn) (old new : MemDisk) : Type 0 where
  pub tells : Tells file turn old new (after_removal turn old.files.odd (tells_of old file))
  pub odd : new.files.odd ≡ elim (tells_of old file).seen [ None ↦ odd_after turn old.files.odd | Some bytes ↦ odd_after_change turn old.files.odd ]

-- each file, the number of the next change and the counts are as before
pub record IsAsBefore (old new : MemDisk) : Type 0 where
  pub tells : (n : ℕ) → tells_of new n ≡ tells_of old n
  pub odd : new.files.odd ≡ old.files.odd
  pub meter : new.meter ≡ old.meter

-- what is asked of the file by a write, by the call's turn
abbrev pub wished : Turn → Bool → ℕ → List ℕ → Change
wished Go odd at bytes = Write odd at bytes
wished Fail odd at bytes = FailedWrite at (length bytes)
wished (Stop tear) odd at bytes = Write odd at bytes
wished Off odd at bytes = FailedWrite at (length bytes)

abbrev pub wished_away : Turn → Bool → Change
wished_away Go odd = Remove odd
wished_away Fail odd = FailedRemove
wished_away (Stop tear) odd = Remove odd
wished_away Off odd = FailedRemove

abbrev pub is_done : Turn → Bool
is_done Go = true
is_done Fail = false
is_done (Stop tear) = true
is_done Off = false

-- the call did this, or it found no memory and did that
abbrev pub DidOrNot : {T : Type 0} → Result T DiskFault → Type 0 → Type 0 → Type 0
DidOrNot (Ok x) did not = did
DidOrNot (Err Stopped) did not = did
DidOrNot (Err Failed) did not = did
DidOrNot (Err NoMemory) did not = not

-- a write, and a removal, that was counted or found no memory
abbrev pub DoesWrite : {T : Type 0} → Result T DiskFault → ℕ → ℕ → List ℕ → MemDisk → MemDisk → Type 0
DoesWrite result file at bytes old new = DidOrNot result (IsCounted result old.meter new.meter × IsWrite file at bytes (turn_of old.meter) old new) (IsAsBefore old new)

abbrev pub DoesRemoval : {T : Type 0} → Result T DiskFault → ℕ → MemDisk → MemDisk → Type 0
DoesRemoval result file old new = DidOrNot result (IsCounted result old.meter new.meter × IsRemoval file (turn_of old.meter) old new) (IsAsBefore old new)
