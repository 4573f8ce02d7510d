-- Sessions of volumes 0 and 1.
use Rattle.std.specs.Prelude.{◌≡◌, ℕ, ◌≤◌, ◌∷◌, [], List, Vec, vec_capacity}
use Rattle.std.specs.Global.{Global}
use Rattle.rdf_types.specs.declared.records.Stamped.{Stamped}
use Rattle.rdf_disk.specs.Files.{Disk}
use Rattle.rdf_volume.specs.Views.{restart_of, InUse}
use Rattle.volume_sessions.specs.declared.placed.Placed.{Placed}
use Rattle.volume_sessions.specs.Shown.{Shown}

-- volume 0 is the first of them
abbrev pub IsVisited : {D : Type 0} → Shown D → Type 0
IsVisited {D} s = (first : Placed D) × (rest : List (Placed D)) × (s.volumes ≡ first ∷ rest) × (first.vol ≡ 0)

-- what a visit needs: an image at the end of the session, a key of volume 0, and memory to publish one entry
pub record MayVisit {D : Type 0} (pos vol : ℕ) (room : Vec Stamped Global) (s : Shown D) : Type 0 where
  pub visited : IsVisited s
  pub end_is : s.end ≡ 4
  pub image : pos ≡ 4
  pub key : vol ≡ 0
  pub empty : room.items ≡ []
  pub space : 1 ≤ vec_capacity room

-- two volumes without rows, 0 and 1
pub record AreTwo {D : Type 0} (tells : Type 0) (files : D → Disk) (volumes : List (Placed D)) : Type 0 where
  pub first : Placed D
  pub second : Placed D
  pub are : volumes ≡ first ∷ second ∷ []
  pub number : first.vol ≡ 0
  pub starts : (restart_of first.volume ≡ 0) × (restart_of second.volume ≡ 0)
  pub in_use : tells → InUse files first.volume × InUse files second.volume
