-- The folder that a disk is over.
use Rattle.std.specs.Prelude.{ℕ, List, [], ◌∷◌, codes}
use Rattle.std.specs.String.{string_bytes}
use Rattle.folder_disk.specs.declared.folder.Folder.{Ghosts}
use Rattle.folder_disk.specs.declared.disk.FolderDisk.{FolderDisk}
use Rattle.system_folder.specs.declared.folder.DirFolder.{DirFolder}

-- an empty name is the folder in which the program runs
abbrev pub name_or_here : List ℕ → List ℕ
name_or_here [] = codes "."
name_or_here (c ∷ name) = c ∷ name

-- the name of a disk's folder
abbrev pub folder_of : {R F L : Type 0} {d : Ghosts (DirFolder R F L)} → FolderDisk (DirFolder R F L) d → List ℕ
folder_of disk = string_bytes disk.kept.folder.name
