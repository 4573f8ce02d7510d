-- What writing the first gate does to a file that has none, or nothing else.
use Rattle.std.specs.Prelude.{◌≡◌, ℕ, ◌≤◌, List, [], ◌∷◌, length, Option, Some, None}
use Rattle.rdf_disk.specs.Files.{Disk, bytes_of, settled}
use Rattle.rdf_gatelog.specs.LogCalls.{OthersSynced}

-- the file is a closed gate alone, and all is safe
pub record GateClosed (file : ℕ) (old new : Disk) : Type 0 where
  pub this : new file ≡ settled (Some (0 ∷ []))
  pub others : OthersSynced file old new

-- the file has at most one byte, and is there if it was
pub record StaysShort (was is : Option (List ℕ)) : Type 0 where
  pub short : length (bytes_of is) ≤ 1
  pub there : is ≡ None → was ≡ None
