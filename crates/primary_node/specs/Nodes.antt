-- The node of the primary as the machine has it.
use Rattle.std.specs.Prelude.{◌≡◌, ℕ, suc, Bool, true, false, List, length, slice_get, IfSome, Option, Some, None, MatchOption}
use Rattle.std.specs.FinSet as set
use Rattle.rdf_types.specs.declared.layout.Layout.{Layout}
use Rattle.rdf_disk.specs.Files.{Disk}
use Rattle.rdf_disk.specs.Counts.{Counts}
use Rattle.rdf_disk.specs.declared.disk.Disk.{Ghosts}
use Rattle.tmf_core.specs.States.{tmf_volumes}
use Rattle.rdf_core.specs.declared.events.Standing.{Standing}
use Rattle.rdf_core.specs.declared.events.Standing.TheVariants.{Down, Lost}
use Rattle.rdf_core.specs.Primary.{Primary as State}
use Rattle.rdf_primary.specs.declared.primary.Primary.{Primary}
use Rattle.rdf_primary.specs.States.{state_of, disks_in, IsLaidOut, IsUp, IsRunning}
use Rattle.rdf_primary.specs.Standing.{PrimaryStandsFor}
use Rattle.rdf_primary.specs.Restarting.{StoodForSome}
use Rattle.primary_node.specs.declared.node.PrimaryNode.{PrimaryNode}

-- how a node stands that is not up
abbrev pub standing_off : Bool → Standing
standing_off true = Lost
standing_off false = Down

-- the disks of a node, in their order
abbrev pub disks_among : {D : Type 0} {d : Ghosts D} → Option (Primary D d) → List D → List D
disks_among None disks = disks
disks_among (Some p) disks = disks_in p

abbrev pub disks_at : {D : Type 0} {d : Ghosts D} → PrimaryNode D d → List D
disks_at n = disks_among n.primary n.disks.items

-- the primary is up and may be used, and its disks are on
pub record MayRun {D : Type 0} {d : Ghosts D} (tells : Type 0) (files : D → Disk) (counts : D → Counts) (volumes : ℕ) (p : Primary D d) : Type 0 where
  pub up : IsUp p
  pub runs : tells → IsRunning files p
  pub sized : tmf_volumes p.tmf ≡ volumes
  pub on : (i : ℕ) → IfSome (slice_get (disks_in p) i) (λ disk. (counts disk).off ≡ false)

-- there is a layout with so many volumes
abbrev pub HasLayout : ℕ → Type 0
HasLayout volumes = (layout : Layout) × (layout.volumes ≡ volumes)

-- the disks of a node that is not up are all there, and off, and stand for a primary that is down
pub record MayRest {D : Type 0} (tells : Type 0) (files : D → Disk) (counts : D → Counts) (volumes : ℕ) (disks : List D) : Type 0 where
  pub many : length disks ≡ suc volumes
  pub off : (i : ℕ) → IfSome (slice_get disks i) (λ disk. (counts disk).off ≡ true)
  pub stood : tells → StoodForSome files disks
  pub laid : HasLayout volumes

-- the node may be used: a lost one is not up
abbrev pub MayServe : {D : Type 0} {d : Ghosts D} → Type 0 → (D → Disk) → (D → Counts) → PrimaryNode D d → Type 0
MayServe tells files counts n = MatchOption n.primary (MayRest tells files counts n.volumes n.disks.items) (λ p. MayRun tells files counts n.volumes p × (n.lost ≡ false) × HasLayout n.volumes)

-- the primary runs and is at that state
pub record IsUpAt {D : Type 0} {d : Ghosts D} (layout : Layout) (a : State) (p : Primary D d) : Type 0 where
  pub laid : IsLaidOut layout p
  pub state : a ≡ state_of a.stops p

-- the primary does not run, has no active transaction, and its disks stand for that state
pub record IsOffAt {D : Type 0} (files : D → Disk) (layout : Layout) (a : State) (off : Standing) (disks : List D) : Type 0 where
  pub stood : a.standing ≡ off
  pub none_active : a.active ≡ set.empty
  pub stands : PrimaryStandsFor files layout a disks

-- the node is at that state of the machine
abbrev pub IsAt : {D : Type 0} {d : Ghosts D} → (D → Disk) → Layout → State → PrimaryNode D d → Type 0
IsAt files layout a n = MatchOption n.primary (IsOffAt files layout a (standing_off n.lost) n.disks.items) (λ p. IsUpAt layout a p)
