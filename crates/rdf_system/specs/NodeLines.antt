-- What one node does for a line, with all that the system needs of it.
use Rattle.std.specs.Prelude.{◌≡◌, ℕ, List, true, false, Option, is_some, MatchOption, Result, IfErr}
use Rattle.rdf_types.specs.declared.layout.Layout.{Layout}
use Rattle.rdf_types.specs.declared.records.Node.{Node}
use Rattle.rdf_types.specs.declared.records.Node.TheVariants.{A}
use Rattle.rdf_types.specs.declared.records.Record.{Record}
use Rattle.rdf_disk.specs.Files.{Disk}
use Rattle.rdf_disk.specs.Counts.{Counts}
use Rattle.rdf_disk.specs.declared.disk.Disk.{Ghosts}
use Rattle.plan_lang.specs.declared.lines.Line.{Line}
use Rattle.plan_lang.specs.declared.lines.Line.TheVariants as line
use Rattle.node_faults.specs.declared.NodeFault.{NodeFault}
use Rattle.node_disks.specs.Cuts.{IfBoth}
use Rattle.rdf_core.specs.declared.replies.Reply.{Reply}
use Rattle.rdf_core.specs.Allowed.{has_names}
use Rattle.rdf_core.specs.Backup.{Backup, Around, points_in}
use Rattle.rdf_core.specs.Happens.{points_for}
use Rattle.rdf_core.specs.Lines.{around}
use Rattle.rdf_core.specs.Primary.{Primary}
use Rattle.by_node.specs.Each.{Each, at, with_at}
use Rattle.rdf_core.specs.State.{State}
use Rattle.rdf_primary.specs.Standing.{PrimaryStandsFor}
use Rattle.primary_node.specs.declared.node.PrimaryNode.{PrimaryNode}
use Rattle.primary_node.specs.Nodes.{disks_at, IsAt, MayServe as PrimaryMayServe}
use Rattle.primary_node.specs.Calls as primary
use Rattle.backup_node.specs.declared.node.BackupNode.{BackupNode}
use Rattle.backup_node.specs.Nodes.{IsLaid}
use Rattle.backup_node.specs.Lines as backup
use Rattle.rdf_system.specs.declared.fault.StepFault.{StepFault}
use Rattle.rdf_system.specs.declared.session.SessionState.{SessionState}
use Rattle.rdf_system.specs.declared.site.Site.{Site}
use Rattle.rdf_system.specs.declared.system.System.{System}
use Rattle.rdf_system.specs.Moves.{phase_of}
use Rattle.plan_lang.specs.Sessions.{fits_session}
use Rattle.rdf_system.specs.Sessions.{node_of}
use Rattle.rdf_system.specs.Lines.{Does}
use Rattle.rdf_system.specs.States.{layout_of, MayServe, IsAtSite, IsAtState, SiteStandsFor}
pub use Rattle.rdf_system.specs.OnNodes.{is_on_primary, is_of_sender, is_of_backup, site_at}

-- a line that one node does, a backup, without a wait: one that changes the backup alone, but no copy and no takeover, or one that opens a session
abbrev pub is_on_backup : Node → Line → Type 0
is_on_backup name (line.Session node) = node ≡ name
is_on_backup name (line.CopyAudit node from) = ⊥
is_on_backup name (line.Takeover node) = ⊥
is_on_backup name l = is_of_backup name l

-- a line that each kind of node has, on that node
abbrev pub IsOn : Node → Line → Type 0
IsOn of (line.List node vol) = node ≡ of
IsOn of (line.Status node) = node ≡ of
IsOn of (line.Fuse node disk calls tear) = node ≡ of
IsOn of (line.Cut node) = node ≡ of
IsOn of _ = ⊥

-- what the primary's node does for a line, and that its disks then stand for the state that it is at
pub record PrimaryDoes {D : Type 0} {d : Ghosts D} (tells : Type 0) (files : D → Disk) (counts : D → Counts) (l : Line) (result : Result Reply NodeFault) (old new : PrimaryNode D d) : Type 0 where
  pub does : primary.Does tells files counts l result old new
  pub stands : tells → (layout : Layout) (a : Primary) → IsAt files layout a new → PrimaryStandsFor files layout a (disks_at new)

-- the rest of the system has for a backup's line this message, for a purge the present restart points, and for a restart this layout
abbrev pub Suits : Layout → Line → Option (List ℕ) → Layout → Around → Backup → Type 0
Suits own (line.Deliver node k) message layout w b = backup.Names message layout w
Suits own (line.Purge node) message layout w b = w.points ≡ points_in layout w.trail b.volumes
Suits own (line.Restart node) message layout w b = backup.Of own layout w
Suits own _ message layout w b = backup.Any layout w

-- how a line goes at a backup's node
abbrev pub LinePerforms : {D : Type 0} {d : Ghosts D} → (D → Disk) → Layout → Option (List ℕ) → Line → Result Reply NodeFault → BackupNode D d → BackupNode D d → Type 0
LinePerforms files own message l result old new = backup.PerformsWhere files (Suits own l message) l result old new

-- there is a node at the site, and this holds of it
abbrev pub HasNode : {D : Type 0} {d : Ghosts D} → (BackupNode D d → Type 0) → Site D d → Type 0
HasNode P site = MatchOption site.node ⊥ P

-- a copy comes from the node at this site
abbrev pub FromSite : {D : Type 0} {d : Ghosts D} → (D → Disk) → Site D d → Layout → Around → Type 0
FromSite files site layout w = HasNode (λ n. backup.FromLead files n layout w) site

-- what a backup's node of that layout does for a line: over disks that tell it goes so
pub record BackupDoes {D : Type 0} {d : Ghosts D} (tells : Type 0) (files : D → Disk) (counts : D → Counts) (own : Layout) (Goes : BackupNode D d → BackupNode D d → Type 0) (l : Line) (result : Result Reply NodeFault) (old new : BackupNode D d) : Type 0 where
  pub performs : tells → Goes old new
  pub keeps : backup.Keeps tells files counts l result old new
  pub open keeps use *
  pub laid : IsLaid own old → IsLaid own new
  pub sound : tells → backup.IsSoundAt files result old

-- the node at the site does it, and the disks beside it stay
pub record SiteDoes {D : Type 0} {d : Ghosts D} (tells : Type 0) (files : D → Disk) (counts : D → Counts) (own : Layout) (Goes : BackupNode D d → BackupNode D d → Type 0) (l : Line) (result : Result Reply NodeFault) (old new : Site D d) : Type 0 where
  pub node : IfBoth (λ x y. BackupDoes tells files counts own Goes l result x y) old.node new.node
  pub spare : new.spare ≡ old.spare
  pub room : new.room ≡ old.room
  pub stands : tells → (layout : Layout) (trail : List Record) (b : Backup) → IsAtSite files layout trail b new → SiteStandsFor files layout trail b new

-- one backup's site behind a line, and the session
abbrev pub with_site : {D : Type 0} {d : Ghosts D} → System D d → Node → Site D d → SessionState → System D d
with_site sys node site session = record sys { sites = with_at sys.sites node site; session = session }

-- the things around a line, where a purge goes by the present restart points
abbrev pub about : Layout → State → Line → Around
about layout s l = around (points_for layout s l) s l

-- the node at the backup's site did the line, and the rest of the system is as it was
pub record AtBackup {D : Type 0} {d : Ghosts D} (tells : Type 0) (files : D → Disk) (counts : D → Counts) (Goes : BackupNode D d → BackupNode D d → Type 0) (name : Node) (l : Line) (result : Result Reply NodeFault) (old new : System D d) : Type 0 where
  pub does : SiteDoes tells files counts old.layout Goes l result (site_at old name) (site_at new name)
  pub rest : new ≡ with_site old name (site_at new name) old.session

-- so it did any line but a copy or a takeover, for a message that the rest of the system has for it
pub record LineAt {D : Type 0} {d : Ghosts D} (tells : Type 0) (files : D → Disk) (counts : D → Counts) (name : Node) (l : Line) (result : Result Reply NodeFault) (old new : System D d) : Type 0 where
  pub message : Option (List ℕ)
  pub suits : tells → (layout : Layout) (s : State) → IsAtState files layout s old → Suits old.layout l message layout (about layout s l) (at s.backups name)
  pub at : AtBackup tells files counts (LinePerforms files old.layout message l result) name l result old new

-- the system with these sites in the place of its own
abbrev pub with_sites : {D : Type 0} {d : Ghosts D} → System D d → Each (Site D d) → System D d
with_sites sys sites = record sys { sites = sites }

-- A line on the primary or on the sender's side of a backup, whatever the sites are, where this holds of the system with them: it changes no site.
pub record DoesBeside {D : Type 0} {d : Ghosts D} (tells : Type 0) (files : D → Disk) (counts : D → Counts) (Holds : System D d → Type 0) (l : Line) (result : Result Reply StepFault) (old new : System D d) : Type 0 where
  pub rest : new ≡ record old { primary = new.primary; senders = new.senders }
  pub serves : PrimaryMayServe tells files counts old.primary → PrimaryMayServe tells files counts new.primary
  pub own : IfErr result (λ why. why.node ≡ A)
  pub does : (sites : Each (Site D d)) → Holds (with_sites old sites) → MayServe tells files counts (with_sites old sites) → has_names (layout_of old) l ≡ true → fits_session (node_of old.session) l ≡ true →
      Does tells files counts l result (with_sites old sites) (with_sites new sites)

-- so it is whatever they are
abbrev pub Anyhow : {D : Type 0} {d : Ghosts D} → System D d → Type 0
Anyhow sys = Unit {0}

-- so far the backup has received, where it is up
pub record HasReceived {D : Type 0} {d : Ghosts D} (tells : Type 0) (files : D → Disk) (node : Node) (received : Option ℕ) (sys : System D d) : Type 0 where
  pub up : is_some received ≡ is_some (phase_of sys node)
  pub so_far : tells → (layout : Layout) (s : State) → IsAtState files layout s sys → MatchOption received ((at s.backups node).up ≡ false) (λ n. ((at s.backups node).up ≡ true) × (n ≡ (at s.backups node).received))
