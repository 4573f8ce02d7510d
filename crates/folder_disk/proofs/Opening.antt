-- A file that is not found is not there.
use Rattle.std.proofs.Common.{◌≡◌, Err, None, subst}
use Rattle.folder_disk.specs.declared.fault.FolderFault.{FolderFault}
use Rattle.folder_disk.specs.declared.fault.FolderFault.TheVariants.{NotFound}
use Rattle.folder_disk.specs.Names.{Name, Opens}

pub missing : (e : FolderFault) (n : Name) → e ≡ NotFound → Opens (Err e) n → n.file.seen ≡ None
missing e n is opens = subst (λ (f : FolderFault). Opens (Err f) n) is opens
