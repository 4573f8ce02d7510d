-- The folders of one disk more.
use Rattle.std.proofs.Common.{◌≡◌, ◌∙◌, ℕ, suc, List, [], ◌∷◌, ◌++◌, ◌+◌, Result, Ok, Err, IfOk, ap, refl, arith}
use Rattle.std.proofs.lemmas.List.{map-append}
use Rattle.folder_disk.specs.declared.folder.Folder.{Ghosts}
use Rattle.folder_disk.specs.declared.disk.FolderDisk.{FolderDisk}
use Rattle.system_folder.specs.declared.folder.DirFolder.{DirFolder}
use Rattle.system_folder.specs.Names.{name_or_here, folder_of}
use Rattle.rdf_folders.specs.FolderNames.{folder_name, folder_names, folders_of}

-- one more disk in the folder of its number
pub one_more : {R F L : Type 0} {d : Ghosts (DirFolder R F L)} (dir node : List ℕ) (n : ℕ) (disks all : List (FolderDisk (DirFolder R F L) d)) (disk : FolderDisk (DirFolder R F L) d)
    → all ≡ disks ++ disk ∷ [] → folders_of disks ≡ folder_names dir node n → folder_of disk ≡ folder_name dir node n → folders_of all ≡ folder_names dir node (n + 1)
one_more dir node n disks all disk grown named last =
    let next : n + 1 ≡ suc n = omega arith in
    rw (grown, next) (map-append (λ one. folder_of one) disks (disk ∷ []) ∙ rw (named, last) refl)

-- a name with a slash in it is not empty
not_here : (dir node : List ℕ) (n : ℕ) → name_or_here (folder_name dir node n) ≡ folder_name dir node n
not_here [] node n = refl
not_here (c ∷ dir) node n = refl

-- a disk over the folder of that name is in the folder of its number
pub named_so : {R F L E : Type 0} {d : Ghosts (DirFolder R F L)} (made : Result (FolderDisk (DirFolder R F L) d) E) (dir node : List ℕ) (n : ℕ) (name : List ℕ)
    → name ≡ folder_name dir node n → IfOk made (λ disk. folder_of disk ≡ name_or_here name) → IfOk made (λ disk. folder_of disk ≡ folder_name dir node n)
named_so (Ok disk) dir node n name is h = h ∙ ap name_or_here is ∙ not_here dir node n
named_so (Err fault) dir node n name is h = tt
