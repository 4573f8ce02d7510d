-- What a file in memory tells.
use Rattle.std.specs.Prelude.{ℕ, ◌+◌, ◌≤◌, ◌<◌, Bool, not, IsSome, length, reverse, vec_len, vec_capacity}
use Rattle.rdf_disk.specs.MemoryChanges.{Told, Change, Write, Remove, FailedWrite, FailedRemove}
use Rattle.rdf_disk.specs.Files.{bytes_of}
use Rattle.rdf_disk.specs.MemoryUndo.{told_of}
use Rattle.rdf_disk.specs.declared.memory_entry.Entry.{Entry}
use Rattle.rdf_disk.specs.declared.memory_entry.Edit.{Edit}
use Rattle.rdf_disk.specs.declared.memory_entry.Edit.TheVariants.{Put, Delete, FailedPut, FailedDelete}

abbrev pub told : Entry → Told
told e = told_of (reverse e.undo.items) e.held.bytes.items e.held.len

-- there is room for one undo more, here and aside, and for bytes up to a place
pub record HasRoom (e : Entry) (end : ℕ) : Type 0 where
  pub undo : vec_len e.undo < vec_capacity e.undo
  pub aside : vec_len e.undo + 1 ≤ vec_capacity e.redo
  pub bytes : end ≤ length e.held.bytes.items

-- the change that is asked for, even or odd
abbrev pub meant : Bool → Edit → Change
meant odd (Put at bytes) = Write odd at bytes.now
meant odd Delete = Remove odd
meant odd (FailedPut at n) = FailedWrite at n
meant odd FailedDelete = FailedRemove

-- a write begins within the file or at its end, and a file that is removed is there
abbrev pub IsPossible : Edit → Told → Type 0
IsPossible (Put at bytes) t = at ≤ length (bytes_of t.seen)
IsPossible Delete t = IsSome t.seen
IsPossible (FailedPut at n) t = Unit {0}
IsPossible FailedDelete t = Unit {0}

-- a write and a removal that are done take a number
abbrev pub next_odd : Bool → Edit → Bool
next_odd odd (Put at bytes) = not odd
next_odd odd Delete = not odd
next_odd odd (FailedPut at n) = odd
next_odd odd FailedDelete = odd
