-- The disks of a node that is cut, beside each as it was.
use Rattle.std.specs.Prelude.{◌≡◌, ℕ, List, slice_get, Option, Some, None}
use Rattle.rdf_disk.specs.Files.{Disk}
use Rattle.rdf_disk.specs.Counts.{Counts, turned_off}
use Rattle.rdf_disk.specs.Calls.{AllSettle}

-- both are there and are so related, or none is
abbrev pub IfBoth : {X : Type 0} → (X → X → Type 0) → Option X → Option X → Type 0
IfBoth R None None = Unit {0}
IfBoth R None (Some y) = ⊥
IfBoth R (Some x) None = ⊥
IfBoth R (Some x) (Some y) = R x y

-- each disk is so related to the one at its place before, whose number is given, and there are as many
abbrev pub Each : {X : Type 0} → (ℕ → X → X → Type 0) → List X → List X → Type 0
Each R old new = (i : ℕ) → IfBoth (R i) (slice_get old i) (slice_get new i)

-- the disk is off, and each of its files is one outcome of a stop
pub record IsCut {D : Type 0} (tells : Type 0) (files : D → Disk) (counts : D → Counts) (old new : D) : Type 0 where
  pub settles : tells → AllSettle (files old) (files new)
  pub counts_are : counts new ≡ turned_off (counts old)

-- each disk is cut
abbrev pub AreCut : {D : Type 0} → (tells : Type 0) → (D → Disk) → (D → Counts) → List D → List D → Type 0
AreCut tells files counts old new = Each (λ i x y. IsCut tells files counts x y) old new
