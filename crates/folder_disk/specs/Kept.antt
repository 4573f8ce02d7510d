-- What a disk over a folder holds, and what its calls keep.
use Rattle.std.specs.Prelude.{◌≡◌, Bool, false, Result}
use Rattle.rdf_disk.specs.Files.{Disk}
use Rattle.rdf_disk.specs.declared.fault.DiskFault.{DiskFault}
use Rattle.folder_disk.specs.declared.folder.Folder.{Ghosts}
use Rattle.folder_disk.specs.declared.tracked.Tracked.{Tracked}
use Rattle.folder_disk.specs.declared.disk.FolderDisk.{FolderDisk}
use Rattle.folder_disk.specs.Causes.{HasCause, is_fault}
use Rattle.folder_disk.specs.Tracked.{files_of, files_if}

-- the files of a folder that is tracked
abbrev pub kept_in : {F : Type 0} {g : Ghosts F} → Tracked F g → Disk
kept_in {g = g} t = files_of (g.names t.folder)

-- where no sync was refused before, a failure has a refusal of the folder
abbrev pub Caused : {F : Type 0} {g : Ghosts F} → Bool → Tracked F g → Tracked F g → Type 0
Caused {g = g} failed old new = old.has_lost ≡ false → HasCause failed (g.refusals old.folder) (g.refusals new.folder)

-- the files of a disk over a folder
abbrev pub files_in : {F : Type 0} {g : Ghosts F} → FolderDisk F g → Disk
files_in {g = g} d = files_if d.meter.off (g.names d.kept.folder)

-- where the folder lost nothing before, a call of its disk fails only where the folder refused one
abbrev pub FailsByFolder : {F : Type 0} {g : Ghosts F} {T : Type 0} → Result T DiskFault → FolderDisk F g → FolderDisk F g → Type 0
FailsByFolder {g = g} answer old new = g.lost old.kept.folder ≡ false → HasCause (is_fault answer) (g.refusals old.kept.folder) (g.refusals new.kept.folder)
