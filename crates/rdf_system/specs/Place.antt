-- The disks of the nodes, place by place.
use Rattle.std.specs.Prelude.{◌≡◌, ◌≤◌, ℕ, suc, Bool, true, false, ◌&&◌, nat_lt, List, [], ◌∷◌, map, length, take, slice_get, Option, Some, None, vec_capacity}
use Rattle.std.specs.Global.{Vec}
use Rattle.rdf_types.specs.declared.layout.Layout.{Layout}
use Rattle.rdf_types.specs.declared.records.Node.{Node}
use Rattle.rdf_types.specs.declared.records.Node.TheVariants.{A, B, C}
use Rattle.rdf_core.specs.Allowed.{is_node}
use Rattle.node_disks.specs.Cuts.{IfBoth}
use Rattle.rdf_system.specs.declared.racks.Racks.{Racks}

-- a primary with 17 disks, and two backups of 17 disks
pub record IsFull {D : Type 0} (racks : Racks D) : Type 0 where
  pub primary : length racks.primary.items ≡ 17
  pub backups : map (λ disks. length disks.items) racks.backups.items ≡ 17 ∷ 17 ∷ []

-- these disks, where they are there
abbrev pub items_in : {D : Type 0} → Option (Vec D) → List D
items_in None = []
items_in (Some disks) = disks.items

-- the disks of a node
abbrev pub disks_in : {D : Type 0} → Racks D → Node → List D
disks_in racks A = racks.primary.items
disks_in racks B = items_in (slice_get racks.backups.items 0)
disks_in racks C = items_in (slice_get racks.backups.items 1)

-- the disk with the number at the node
abbrev pub disk_at : {D : Type 0} → Racks D → Node → ℕ → Option D
disk_at racks node i = slice_get (disks_in racks node) i

-- the disks that a system of that layout uses: those of its nodes, up to the last volume's
abbrev pub is_used : Layout → Node → ℕ → Bool
is_used layout node i = is_node layout node && nat_lt i (suc layout.volumes)

-- the disks of a node that are used, where the node is
abbrev pub used_at : {D : Type 0} → Layout → Racks D → Node → List D
used_at layout racks node = take (suc layout.volumes) (disks_in racks node)

-- the place comes before the other one, by node and number
abbrev pub is_before : Node → ℕ → Node → ℕ → Bool
is_before A i A j = nat_lt i j
is_before A i B j = true
is_before A i C j = true
is_before B i A j = false
is_before B i B j = nat_lt i j
is_before B i C j = true
is_before C i A j = false
is_before C i B j = false
is_before C i C j = nat_lt i j

-- at each place the disk is so related to the one before, or there is none
abbrev pub AtEach : {D : Type 0} → (Node → ℕ → D → D → Type 0) → (Node → ℕ → Option D) → (Node → ℕ → Option D) → Type 0
AtEach R old new = (node : Node) (i : ℕ) → IfBoth (R node i) (old node i) (new node i)

-- a disk that is used goes so, and any other stays as it was
abbrev pub IfUsed : {D : Type 0} → Bool → (D → D → Type 0) → D → D → Type 0
IfUsed true R x y = R x y
IfUsed false R x y = y ≡ x

-- an emptied list that has room for so many
pub record HasRoom {X : Type 0} (many : ℕ) (room : Vec X) : Type 0 where
  pub empty : room.items ≡ []
  pub roomy : many ≤ vec_capacity room
