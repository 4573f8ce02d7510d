-- The calls that a folder in memory refuses, and how.
use Rattle.std.specs.Prelude.{ℕ, ◌==◌, List, Option}
use Rattle.std.specs.List.{find}
use Rattle.std.specs.Option.{option_map}
use Rattle.folder_disk.specs.declared.fault.FolderFault.{FolderFault}
use Rattle.folder_disk.specs.declared.fault.FolderFault.TheVariants.{NotFound, Interrupted, Refused, Failed, NoMemory}

-- a refusal tells nothing of what is there, and is no want of memory
abbrev pub refusal_of : FolderFault → FolderFault
refusal_of NotFound = Failed
refusal_of Interrupted = Interrupted
refusal_of Refused = Refused
refusal_of Failed = Failed
refusal_of NoMemory = Failed

-- how the call of that number is refused, by the first that is planned for it
abbrev pub planned_at : List (ℕ × FolderFault) → ℕ → Option FolderFault
planned_at refused call = option_map (λ (p : ℕ × FolderFault). refusal_of p.1) (find (λ (p : ℕ × FolderFault). p.0 == call) refused)
