-- How the disks of a node are opened, one after the other.
use Rattle.std.specs.Prelude.{◌≡◌, ℕ, zero, suc, ◌≤◌, false, List, [], ◌∷◌, slice_get, Option, Some, None, IfSome}
use Rattle.rdf_types.specs.Counts.{Rose}
use Rattle.rdf_disk.specs.Counts.{Counts, Ending, Causes}
use Rattle.rdf_disk.specs.Counts.Ending.{Fine, Stop, Fault}
use Rattle.node_faults.specs.declared.NodeFault.{NodeFault}
use Rattle.node_faults.specs.declared.NodeFault.TheVariants.{Damaged}
use Rattle.node_faults.specs.Faults.{ending_at}

-- nothing is damaged
abbrev pub IsNoDamage : Option NodeFault → Type 0
IsNoDamage fault = (disk file at : ℕ) → fault ≡ Some (Damaged disk file at) → ⊥

-- how the opening ended so far for the disk of that number
abbrev pub ending_if : ℕ → Option NodeFault → Ending
ending_if disk None = Fine
ending_if disk (Some fault) = ending_at disk fault

-- each disk, whose numbers begin with n, with the one at its place afterwards; there are as many of both
abbrev pub Pairs : {D : Type 0} → (ℕ → Option NodeFault → D → D → Type 0) → ℕ → Option NodeFault → List D → List D → Type 0
Pairs Goes n fault [] [] = Unit {0}
Pairs Goes n fault (x ∷ xs) (y ∷ ys) = Goes n fault x y × Pairs Goes (suc n) fault xs ys
Pairs Goes n fault _ _ = ⊥

-- the counts of a disk rose as that ending says
abbrev pub IsCaused : {D : Type 0} → (D → Counts) → ℕ → Option NodeFault → D → D → Type 0
IsCaused counts n fault x y = Causes (ending_if n fault) (counts x) (counts y)

-- a fault of a disk has its cause in the counts of that disk, the counts of each other disk stay, and all come back
abbrev pub AreCaused : {D : Type 0} → (D → Counts) → Option NodeFault → List D → List D → Type 0
AreCaused counts fault old new = Pairs (IsCaused counts) zero fault old new

-- the disk may have been turned on; the count that the ending is of rose, or stands where it stays, and the others are the same
abbrev pub Rises : Ending → Counts → Counts → Type 0
Rises Fine old new = (new.faults ≡ old.faults) × (new.stops ≡ old.stops) × (new.fuses ≡ old.fuses)
Rises Stop old new = (new.faults ≡ old.faults) × (old.stops ≤ new.stops) × Rose old.stops new.stops × (new.fuses ≡ old.fuses)
Rises Fault old new = (old.faults ≤ new.faults) × Rose old.faults new.faults × (new.stops ≡ old.stops) × (new.fuses ≡ old.fuses)

-- so did those of the disk with that number
abbrev pub IsRaised : {D : Type 0} → (D → Counts) → ℕ → Option NodeFault → D → D → Type 0
IsRaised counts n fault x y = Rises (ending_if n fault) (counts x) (counts y)

-- a fault of a disk has its cause in the counts of that disk, no other disk failed, stopped or was given a fuse, and all come back
abbrev pub AreRaised : {D : Type 0} → (D → Counts) → Option NodeFault → List D → List D → Type 0
AreRaised counts fault old new = Pairs (IsRaised counts) zero fault old new

-- each disk is on
abbrev pub AreOn : {D : Type 0} → (D → Counts) → List D → Type 0
AreOn counts disks = (i : ℕ) → IfSome (slice_get disks i) (λ disk. (counts disk).off ≡ false)
