-- The node of a backup as the machine has it.
use Rattle.std.specs.Prelude.{◌≡◌, ℕ, suc, true, false, List, length, slice_get, IfSome, Option, Some, None, MatchOption}
use Rattle.rdf_types.specs.declared.layout.Layout.{Layout}
use Rattle.rdf_types.specs.declared.records.Node.{Node}
use Rattle.rdf_types.specs.declared.records.Phase.TheVariants.{Running}
use Rattle.rdf_types.specs.declared.records.Record.{Record}
use Rattle.rdf_disk.specs.Files.{Disk}
use Rattle.rdf_disk.specs.Counts.{Counts}
use Rattle.rdf_disk.specs.declared.disk.Disk.{Ghosts}
use Rattle.rdf_model.specs.Contents.{nothing}
use Rattle.rdf_model.specs.Legal.{Legal}
use Rattle.node_faults.specs.Openings.{AreCaused}
use Rattle.rdf_core.specs.Backup.{Backup as State}
use Rattle.rdf_core.specs.State.{blank_backup}
use Rattle.rdf_backup.specs.declared.backup.Backup.{Backup}
use Rattle.rdf_backup.specs.States.{layout_of, state_of, disks_in, MayUse, Serves}
use Rattle.rdf_backup.specs.Standing.{BackupStandsFor}
use Rattle.rdf_backup.specs.Restarting.{AreAtZero}
use Rattle.backup_node.specs.declared.node.BackupNode.{BackupNode}
use Rattle.backup_node.specs.Moves.{phase_at}

-- the disks of a node, in their order
abbrev pub disks_among : {D : Type 0} {d : Ghosts D} → Option (Backup D d) → List D → List D
disks_among None disks = disks
disks_among (Some b) disks = disks_in b

abbrev pub disks_at : {D : Type 0} {d : Ghosts D} → BackupNode D d → List D
disks_at n = disks_among n.backup n.disks.items

-- each disk is on, or each is off
abbrev pub AreOn : {D : Type 0} → (D → Counts) → List D → Type 0
AreOn counts disks = (i : ℕ) → IfSome (slice_get disks i) (λ disk. (counts disk).off ≡ false)

abbrev pub AreOff : {D : Type 0} → (D → Counts) → List D → Type 0
AreOff counts disks = (i : ℕ) → IfSome (slice_get disks i) (λ disk. (counts disk).off ≡ true)

-- the backup may be used, and its disks are on
pub record MayRun {D : Type 0} {d : Ghosts D} (tells : Type 0) (files : D → Disk) (counts : D → Counts) (volumes : ℕ) (b : Backup D d) : Type 0 where
  pub runs : tells → MayUse files b
  pub sized : (layout_of b).volumes ≡ volumes
  pub on : AreOn counts (disks_in b)

-- the disks of a node that is down are all there, and off
pub record MayRest {D : Type 0} (counts : D → Counts) (volumes : ℕ) (disks : List D) : Type 0 where
  pub many : length disks ≡ suc volumes
  pub off : AreOff counts disks

-- the node may be used
abbrev pub MayServe : {D : Type 0} {d : Ghosts D} → Type 0 → (D → Disk) → (D → Counts) → BackupNode D d → Type 0
MayServe tells files counts n = MatchOption n.backup (MayRest counts n.volumes n.disks.items) (λ b. MayRun tells files counts n.volumes b)

-- the backup serves over the trail and is at that state
pub record IsUpAt {D : Type 0} {d : Ghosts D} (files : D → Disk) (layout : Layout) (trail : List Record) (b : State) (up : Backup D d) : Type 0 where
  pub laid : layout_of up ≡ layout
  pub state : b ≡ state_of b.stops up
  pub serves : Serves files trail up

-- the backup is down, its disks stand for that state over the trail, and a volume that is not protected stands at 0
pub record IsOffAt {D : Type 0} (files : D → Disk) (layout : Layout) (trail : List Record) (b : State) (disks : List D) : Type 0 where
  pub down : b.up ≡ false
  pub stands : BackupStandsFor files layout trail b disks
  pub at_zero : AreAtZero layout b.volumes

-- the node is at that state of the machine, over the primary's trail
abbrev pub IsAt : {D : Type 0} {d : Ghosts D} → (D → Disk) → Layout → List Record → State → BackupNode D d → Type 0
IsAt files layout trail b n = MatchOption n.backup (IsOffAt files layout trail b n.disks.items) (λ up. IsUpAt files layout trail b up)

-- a node that is up has this layout
abbrev pub IsLaid : {D : Type 0} {d : Ghosts D} → Layout → BackupNode D d → Type 0
IsLaid layout n = MatchOption n.backup (Unit {0}) (λ b. layout_of b ≡ layout)

-- the node is at some state over some trail
abbrev pub IsAtSome : {D : Type 0} {d : Ghosts D} → (D → Disk) → Layout → BackupNode D d → Type 0
IsAtSome files layout n = (trail : List Record) × ((b : State) × IsAt files layout trail b n)

-- the node of that name over disks without files that were on: it is at the state of a backup that has received nothing, over each legal trail, may be used, runs, and none of the counts rose
pub record IsFormatted {D : Type 0} {d : Ghosts D} (tells : Type 0) (files : D → Disk) (counts : D → Counts) (layout : Layout) (name : Node) (disks : List D) (node : BackupNode D d) : Type 0 where
  pub at : tells → (trail : List Record) → Legal nothing trail → IsAt files layout trail (blank_backup layout) node
  pub serves : MayServe tells files counts node
  pub sized : node.volumes ≡ layout.volumes
  pub named_so : node.name ≡ name
  pub laid : IsLaid layout node
  pub phase : phase_at node ≡ Some Running
  pub cause : AreCaused counts None disks (disks_at node)
