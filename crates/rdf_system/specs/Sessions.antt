-- The session that is open, as the system and as the machine have it.
use Rattle.std.specs.Prelude.{◌≡◌, Bool, true, false, not, length, Option, Some, None}
use Rattle.rdf_types.specs.declared.layout.Layout.{Layout}
use Rattle.rdf_types.specs.declared.records.Node.{Node}
use Rattle.plan_lang.specs.declared.lines.Line.{Line}
use Rattle.plan_lang.specs.declared.lines.Line.TheVariants as line
use Rattle.rdf_core.specs.declared.replies.NoWhy.{NoWhy}
use Rattle.rdf_core.specs.declared.replies.NoWhy.TheVariants as no
use Rattle.rdf_core.specs.Allowed.{is_backup}
use Rattle.rdf_core.specs.Backup.{Backup, is_running}
use Rattle.rdf_core.specs.Sessions.{Session, Closed, Refused, Open, Opened, is_backup_node, met_stop}
use Rattle.by_node.specs.Each.{Each, at}
use Rattle.rdf_core.specs.Step.{disks_of}
use Rattle.rdf_system.specs.declared.session.Bar.{Bar}
use Rattle.rdf_system.specs.declared.session.Bar.TheVariants as bars
use Rattle.rdf_system.specs.declared.session.SessionState.{SessionState}
use Rattle.rdf_system.specs.declared.session.SessionState.TheVariants as system

-- why a session was refused, as the reply to its line told it
abbrev pub why_of : Bar → NoWhy
why_of bars.Down = no.Down
why_of bars.Taking = no.Taking
why_of bars.Taken = no.Taken

-- what is kept of that: a session is refused for nothing else
abbrev pub as_bar : NoWhy → Bar
as_bar no.Taking = bars.Taking
as_bar no.Taken = bars.Taken
as_bar _ = bars.Down

-- whose session is open, refused or not
abbrev pub node_of : SessionState → Option Node
node_of system.Closed = None
node_of (system.Refused node bar) = Some node
node_of (system.Open node stopped) = Some node

-- a disk of its node stopped in the session that is open
abbrev pub has_stopped : SessionState → Bool
has_stopped system.Closed = false
has_stopped (system.Refused node bar) = false
has_stopped (system.Open node stopped) = stopped

-- the node of a session that was not refused and in which no disk stopped: its lines go over threads
abbrev pub running_in : SessionState → Option Node
running_in (system.Open node false) = Some node
running_in _ = None

-- the node whose disks the end of a session uses: none where one of them stopped before
abbrev pub ended_by : SessionState → Option Node
ended_by system.Closed = None
ended_by (system.Refused node bar) = None
ended_by (system.Open node false) = Some node
ended_by (system.Open node true) = None

-- the node whose disks may stop in the line
abbrev pub used_by : SessionState → Line → Option Node
used_by session (line.Read node key) = Some node
used_by session line.End = ended_by session
used_by session l = disks_of l

-- the session is of a backup that the layout has
abbrev pub IsPlacedAt : Layout → Option Node → Type 0
IsPlacedAt layout None = Unit {0}
IsPlacedAt layout (Some node) = is_backup layout node ≡ true

-- A session that was not refused: the machine has it of the same backup, and notes stops of each volume. The backup is in Running, and up unless a disk of it stopped.
pub record IsOpen (layout : Layout) (backups : Each Backup) (o : Opened) (node : Node) (stopped : Bool) : Type 0 where
  pub node_is : o.node ≡ node
  pub placed : is_backup_node node ≡ true
  pub many : length o.halted ≡ length layout.protect
  pub met : met_stop o ≡ stopped
  pub up : (at backups node).up ≡ not stopped
  pub runs : is_running (at backups node).volumes ≡ true

-- the machine's session is the system's
abbrev pub IsSession : Layout → Each Backup → Session → SessionState → Type 0
IsSession layout backups Closed system.Closed = Unit {0}
IsSession layout backups (Refused of why) (system.Refused node bar) = (of ≡ node) × (why ≡ why_of bar)
IsSession layout backups (Open o) (system.Open node stopped) = IsOpen layout backups o node stopped
IsSession layout backups _ _ = ⊥
