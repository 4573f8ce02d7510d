-- What the system and the racks stand for.
use Rattle.std.specs.Prelude.{◌≡◌, ℕ, true, false, ◌++◌, List, [], length, slice_get, Option, Some, None, MatchOption}
use Rattle.rdf_types.specs.declared.layout.Layout.{Layout}
use Rattle.rdf_types.specs.declared.records.Node.{Node}
use Rattle.rdf_types.specs.declared.records.Node.TheVariants.{A}
use Rattle.rdf_types.specs.declared.records.Record.{Record}
use Rattle.rdf_disk.specs.Files.{Disk}
use Rattle.rdf_disk.specs.Counts.{Counts, turned_off}
use Rattle.rdf_disk.specs.declared.disk.Disk.{Ghosts}
use Rattle.rdf_core.specs.Allowed.{is_backup}
use Rattle.rdf_core.specs.Backup.{Backup}
use Rattle.rdf_core.specs.Run.{Run}
use Rattle.plan_lang.specs.declared.lines.Line.{Line}
use Rattle.rdf_core.specs.declared.replies.Reply.{Reply}
use Rattle.by_node.specs.Each.{at}
use Rattle.rdf_core.specs.State.{State, blank_backup, by_node}
use Rattle.rdf_primary.specs.Standing.{PrimaryStandsFor}
use Rattle.rdf_backup.specs.Standing.{BackupStandsFor}
use Rattle.primary_node.specs.Nodes.{disks_at, IsAt, MayServe as PrimaryMayServe}
use Rattle.backup_node.specs.declared.node.BackupNode.{BackupNode}
use Rattle.backup_node.specs.Nodes.{disks_at as backup_disks, IsAt as BackupIsAt, IsAtSome, IsLaid, MayServe as BackupMayServe}
use Rattle.senders.specs.Sending.{AreSenders}
use Rattle.rdf_system.specs.declared.racks.Racks.{Racks}
use Rattle.rdf_system.specs.declared.site.Site.{Site}
use Rattle.rdf_system.specs.declared.system.System.{System}
use Rattle.rdf_system.specs.Place.{HasRoom, is_used, used_at, IfUsed}
use Rattle.rdf_system.specs.Sessions.{node_of, IsPlacedAt, IsSession}

-- the disks of a backup's node, where there is one
abbrev pub node_disks : {D : Type 0} {d : Ghosts D} → Option (BackupNode D d) → List D
node_disks None = []
node_disks (Some n) = backup_disks n

-- the disks of a backup's site: those of its node, and behind them those that no node uses
abbrev pub site_disks : {D : Type 0} {d : Ghosts D} → Site D d → List D
site_disks site = node_disks site.node ++ site.spare.items

-- the disks of a node: at the primary's place those of its node stand first
abbrev pub disks_of_node : {D : Type 0} {d : Ghosts D} → System D d → Node → List D
disks_of_node sys node = by_node node (disks_at sys.primary) [] ++ site_disks (at sys.sites node)

-- the disk with the number at the node
abbrev pub disk_of : {D : Type 0} {d : Ghosts D} → System D d → Node → ℕ → Option D
disk_of sys node i = slice_get (disks_of_node sys node) i

-- the layout that the system was started with
abbrev pub layout_of : {D : Type 0} {d : Ghosts D} → System D d → Layout
layout_of sys = sys.layout

-- a backup's node is that of the name, with the layout's volumes, and has this layout while it is up
pub record IsNodeOf {D : Type 0} {d : Ghosts D} (layout : Layout) (name : Node) (n : BackupNode D d) : Type 0 where
  pub placed : is_backup layout name ≡ true
  pub named : n.name ≡ name
  pub sized : n.volumes ≡ layout.volumes
  pub laid : IsLaid layout n

-- there is a backup's node just where the layout has one, and room to hand 17 disks back
pub record IsWholeSite {D : Type 0} {d : Ghosts D} (layout : Layout) (name : Node) (site : Site D d) : Type 0 where
  pub node : MatchOption site.node (is_backup layout name ≡ false) (IsNodeOf layout name)
  pub room : HasRoom 17 site.room

-- each node has 17 disks and the layout's volumes, and there is room to hand all disks back
pub record IsWhole {D : Type 0} {d : Ghosts D} (sys : System D d) : Type 0 where
  pub many : (node : Node) → length (disks_of_node sys node) ≡ 17
  pub sized : sys.primary.volumes ≡ sys.layout.volumes
  pub sites : (node : Node) → IsWholeSite sys.layout node (at sys.sites node)
  pub shelf : HasRoom 2 sys.shelf
  pub session : IsPlacedAt sys.layout (node_of sys.session)

-- a site's node may be used
abbrev pub SiteMayServe : {D : Type 0} {d : Ghosts D} → Type 0 → (D → Disk) → (D → Counts) → Site D d → Type 0
SiteMayServe tells files counts site = MatchOption site.node (Unit {0}) (BackupMayServe tells files counts)

-- the system may be used
pub record MayServe {D : Type 0} {d : Ghosts D} (tells : Type 0) (files : D → Disk) (counts : D → Counts) (sys : System D d) : Type 0 where
  pub whole : IsWhole sys
  pub primary : PrimaryMayServe tells files counts sys.primary
  pub sites : (node : Node) → SiteMayServe tells files counts (at sys.sites node)

-- a disk that is used was cut, and any other is as it was
abbrev pub WasCut : {D : Type 0} → (D → Counts) → Layout → Node → ℕ → D → D → Type 0
WasCut counts layout node i old new = IfUsed (is_used layout node i) (λ x y. counts y ≡ turned_off (counts x)) old new

-- the site's node is at that state of the machine; a backup that is not used is as at the start
abbrev pub IsAtSite : {D : Type 0} {d : Ghosts D} → (D → Disk) → Layout → List Record → Backup → Site D d → Type 0
IsAtSite files layout trail b site = MatchOption site.node (b ≡ blank_backup layout) (BackupIsAt files layout trail b)

-- the system is at that state of the machine
pub record IsAtState {D : Type 0} {d : Ghosts D} (files : D → Disk) (layout : Layout) (s : State) (sys : System D d) : Type 0 where
  pub laid : layout_of sys ≡ layout
  pub primary : IsAt files layout s.primary sys.primary
  pub senders : AreSenders layout s.primary.trail s.senders sys.senders
  pub sites : (node : Node) → IsAtSite files layout s.primary.trail (at s.backups node) (at sys.sites node)
  pub session : IsSession layout s.backups s.session sys.session

-- there is a node at the site, at some state over some trail
abbrev pub IsSomewhere : {D : Type 0} {d : Ghosts D} → (D → Disk) → Layout → Site D d → Type 0
IsSomewhere files layout site = MatchOption site.node ⊥ (IsAtSome files layout)

-- the disks of the site's node stand for that state
abbrev pub SiteStandsFor : {D : Type 0} {d : Ghosts D} → (D → Disk) → Layout → List Record → Backup → Site D d → Type 0
SiteStandsFor files layout trail b site = MatchOption site.node (Unit {0}) (λ n. BackupStandsFor files layout trail b (backup_disks n))

-- the disks of the system stand for that state, whatever the nodes are at
pub record DisksStandFor {D : Type 0} {d : Ghosts D} (files : D → Disk) (layout : Layout) (s : State) (sys : System D d) : Type 0 where
  pub laid : layout_of sys ≡ layout
  pub primary : PrimaryStandsFor files layout s.primary (disks_at sys.primary)
  pub sites : (node : Node) → SiteStandsFor files layout s.primary.trail (at s.backups node) (at sys.sites node)

-- the racks stand for that state
pub record RacksStandFor {D : Type 0} (files : D → Disk) (layout : Layout) (s : State) (racks : Racks D) : Type 0 where
  pub primary : PrimaryStandsFor files layout s.primary (used_at layout racks A)
  pub backup : (node : Node) → is_backup layout node ≡ true → BackupStandsFor files layout s.primary.trail (at s.backups node) (used_at layout racks node)

-- the system is where some run of the machine leads
pub record IsStood {D : Type 0} {d : Ghosts D} (files : D → Disk) (sys : System D d) : Type 0 where
  pub lines : List Line
  pub replies : List Reply
  pub state : State
  pub run : Run (layout_of sys) lines replies state
  pub at : IsAtState files (layout_of sys) state sys
