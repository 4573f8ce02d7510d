-- The folders of disks.
use Rattle.std.specs.Prelude.{◌≡◌, ℕ, zero, suc, List, [], ◌∷◌, ◌++◌, map, codes, decimal}
use Rattle.rdf_system.specs.declared.racks.Racks.{Racks}
use Rattle.folder_disk.specs.declared.folder.Folder.{Ghosts}
use Rattle.folder_disk.specs.declared.disk.FolderDisk.{FolderDisk}
use Rattle.system_folder.specs.declared.folder.DirFolder.{DirFolder}
use Rattle.system_folder.specs.Names.{folder_of}

-- in a folder, the one named by a node's letter and a disk's number
abbrev pub folder_name : List ℕ → List ℕ → ℕ → List ℕ
folder_name dir node disk = dir ++ codes "/" ++ node ++ decimal disk

-- those of so many disks of a node, in their order
abbrev pub folder_names : List ℕ → List ℕ → ℕ → List (List ℕ)
folder_names dir node zero = []
folder_names dir node (suc n) = folder_names dir node n ++ folder_name dir node n ∷ []

-- the folders of disks, in their order
abbrev pub folders_of : {R F L : Type 0} {d : Ghosts (DirFolder R F L)} → List (FolderDisk (DirFolder R F L) d) → List (List ℕ)
folders_of disks = map (λ disk. folder_of disk) disks

-- the primary's disks are the folders a0 to a16, and those of the backups b0 to b16 and c0 to c16
pub record AreIn {R F L : Type 0} {d : Ghosts (DirFolder R F L)} (dir : List ℕ) (racks : Racks (FolderDisk (DirFolder R F L) d)) : Type 0 where
  pub primary : folders_of racks.primary.items ≡ folder_names dir (codes "a") 17
  pub backups : map (λ disks. folders_of disks.items) racks.backups.items ≡ folder_names dir (codes "b") 17 ∷ folder_names dir (codes "c") 17 ∷ []
