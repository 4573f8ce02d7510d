-- Why a call on a disk in a folder failed: the folder refused a call.
use Rattle.std.specs.Prelude.{◌≡◌, ℕ, ◌≤◌, Bool, true, false, Result, Ok, Err}
use Rattle.rdf_types.specs.Counts.{Rose}
use Rattle.rdf_disk.specs.declared.fault.DiskFault.{DiskFault}
use Rattle.rdf_disk.specs.declared.fault.DiskFault.TheVariants.{Stopped as DiskStopped, Failed as DiskFailed, NoMemory as DiskNoMemory}
use Rattle.folder_disk.specs.declared.call_fault.CallFault.{CallFault}
use Rattle.folder_disk.specs.declared.call_fault.CallFault.TheVariants.{Failed, NoMemory}
use Rattle.folder_disk.specs.declared.fault.FolderFault.{FolderFault}
use Rattle.folder_disk.specs.declared.fault.FolderFault.TheVariants.{NotFound, Interrupted, Refused, Failed as FolderFailed, NoMemory as FolderNoMemory}

-- refusals are counted, and where a call failed there is one more
pub record HasCause (failed : Bool) (old new : ℕ) : Type 0 where
  pub no_less : old ≤ new
  pub rose : failed ≡ true → Rose old new

-- whether an answer is a failure, which want of memory and a stop are not
abbrev pub is_fault : {T : Type 0} → Result T DiskFault → Bool
is_fault (Ok x) = false
is_fault (Err DiskStopped) = false
is_fault (Err DiskFailed) = true
is_fault (Err DiskNoMemory) = false

-- the same of the answers behind it
abbrev pub is_failed_by : CallFault → Bool
is_failed_by Failed = true
is_failed_by NoMemory = false

abbrev pub is_failed : {T : Type 0} → Result T CallFault → Bool
is_failed (Ok x) = false
is_failed (Err e) = is_failed_by e

-- what is told of an error of the folder
abbrev pub told_of : FolderFault → CallFault
told_of NotFound = Failed
told_of Interrupted = Failed
told_of Refused = Failed
told_of FolderFailed = Failed
told_of FolderNoMemory = NoMemory

-- of a call behind a change that was asked for each error is one
abbrev pub is_undone : {T E : Type 0} → Result T E → Bool
is_undone (Ok x) = false
is_undone (Err e) = true
