-- How the disks of a node are opened, one after the other.
use Rattle.std.specs.Prelude.{◌≡◌, ◌⊎◌, ℕ, suc, ◌+◌, ◌≤◌, List, [], ◌∷◌, length, Option, Some, None, vec_len, vec_capacity}
use Rattle.rdf_gatelog.specs.declared.fault.LogFault.{LogFault}
use Rattle.node_faults.specs.declared.NodeFault.{NodeFault}
use Rattle.node_faults.specs.declared.NodeFault.TheVariants.{NoMemory}
use Rattle.node_faults.specs.declared.Shut.{Shut}
use Rattle.node_faults.specs.Faults.{fault_at}
use Rattle.node_disks.specs.declared.opening.Begun.{Begun}
use Rattle.node_disks.specs.declared.opening.Rooms.{Rooms}

-- the disk of that number could not be opened, and this is its fault as the node's
pub record HasFault {D : Type 0} (Fails : D → D → LogFault → Type 0) (n : ℕ) (x y : D) (said : NodeFault) : Type 0 where
  pub fault : LogFault
  pub said_is : said ≡ fault_at n fault
  pub fails : Fails x y fault

-- Of disks whose places begin with n each is open, up to the first that can't be opened. That one comes back with its fault, and those behind it as they were.
abbrev pub AreOpened : {D V : Type 0} → (ℕ → D → V → Type 0) → (ℕ → D → D → LogFault → Type 0) → ℕ → List D → List V → List D → Option NodeFault → Type 0
AreOpened Opens Fails n [] [] [] None = Unit {0}
AreOpened Opens Fails n (x ∷ xs) (v ∷ vs) left fault = Opens n x v × AreOpened Opens Fails (suc n) xs vs left fault
AreOpened Opens Fails n (x ∷ xs) [] (y ∷ left) (Some said) = HasFault (Fails n) (suc n) x y said × (left ≡ xs)
AreOpened Opens Fails n _ _ _ _ = ⊥

-- the lists are empty, and have room for so many
pub record IsRoom {D V : Type 0} (many : ℕ) (rooms : Rooms D V) : Type 0 where
  pub empty : (vec_len rooms.room ≡ 0) × (rooms.opened.items ≡ []) × (rooms.left.items ≡ [])
  pub roomy : (many ≤ vec_capacity rooms.room) × (many ≤ vec_capacity rooms.opened) × (many ≤ vec_capacity rooms.left)

-- the first of these disks is open, the others are as they were, and there is room for all
pub record HasBegun {D F V : Type 0} (Opens : D → F → Type 0) (disks : List D) (b : Begun D F V) : Type 0 where
  pub disk : D
  pub split : disks ≡ disk ∷ b.rest.items
  pub many : length disks ≡ length b.rest.items + 1
  pub opens : Opens disk b.first
  pub room : IsRoom (length b.rest.items + 1) b.rooms

-- the first of these disks could not be opened, and the others are as they were
pub record HasFirstFault {D : Type 0} (Fails : D → D → LogFault → Type 0) (disks : List D) (shut : Shut D) : Type 0 where
  pub disk : D
  pub after : D
  pub rest : List D
  pub split : disks ≡ disk ∷ rest
  pub back : shut.disks.items ≡ after ∷ rest
  pub fault : HasFault Fails 0 disk after shut.fault

-- no disk is open: there was no memory and all are as they were, or the first one has a fault
abbrev pub HasNotBegun : {D : Type 0} → (D → D → LogFault → Type 0) → List D → Shut D → Type 0
HasNotBegun Fails disks shut = ((shut.disks.items ≡ disks) × (shut.fault ≡ NoMemory)) ⊎ HasFirstFault Fails disks shut

-- A node whose first disk was open could not be opened: its disks come back in their order, with the fault of one behind the first, or for want of memory.
pub record IsNotWhole {D : Type 0} (first : D) (back : List D) (why : Option NodeFault) (shut : Shut D) : Type 0 where
  pub disks : shut.disks.items ≡ first ∷ back
  pub fault : (why ≡ Some shut.fault) ⊎ ((why ≡ None) × (shut.fault ≡ NoMemory))
