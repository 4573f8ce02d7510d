-- The state of the whole system: small parts, one for each thing that moves by itself.
use Rattle.std.specs.Prelude.{ℕ, true, [], ◌∷◌, if◌then◌else◌}
use Rattle.std.specs.FinSet as set
use Rattle.rdf_types.specs.declared.layout.Layout.{Layout}
use Rattle.rdf_types.specs.declared.records.Node.{Node}
use Rattle.by_node.specs.Each.{Each, at, with_at, every}
use Rattle.rdf_core.specs.declared.events.Standing.TheVariants.{Up}
use Rattle.rdf_core.specs.Layouts.{points_at}
use Rattle.rdf_core.specs.Primary.{Primary, primary_fallen}
use Rattle.rdf_core.specs.Sender.{Sender}
use Rattle.rdf_core.specs.Backup.{Backup, Running, backup_fallen}
use Rattle.rdf_core.specs.Sessions.{Session, Closed, is_backup_node, with_cut}

-- the primary, a sender and a backup for each backup node, and the session. No line asks for a node's that the layout does not have
pub record State : Type 0 where
  pub primary : Primary
  pub senders : Each Sender
  pub backups : Each Backup
  pub session : Session

-- each of these put in the place of what was
abbrev pub with_primary : State → Primary → State
with_primary s a = record { primary = a; senders = s.senders; backups = s.backups; session = s.session }

-- a node's sender
abbrev pub with_sender : State → Node → Sender → State
with_sender s node x = record { primary = s.primary; senders = with_at s.senders node x; backups = s.backups; session = s.session }

-- a node's backup
abbrev pub with_backup : State → Node → Backup → State
with_backup s node x = record { primary = s.primary; senders = s.senders; backups = with_at s.backups node x; session = s.session }

-- the session
abbrev pub with_session : State → Session → State
with_session s session = record { primary = s.primary; senders = s.senders; backups = s.backups; session = session }

-- what is of the primary, or of a backup
abbrev pub by_node : {X : Type 0} → Node → X → X → X
by_node node of_primary of_backup = if is_backup_node node then of_backup else of_primary

-- the state after so many stops of disks of the node
abbrev pub fallen : Node → ℕ → State → State
fallen node n s =
    by_node node (with_primary s (primary_fallen n s.primary)) (with_session (with_backup s node (backup_fallen n (at s.backups node))) (with_cut s.session node))

-- nothing sent
abbrev pub idle_sender : Sender
idle_sender = record { next = 0; acked = 0; sent = [] }

-- an empty trail
abbrev pub blank_primary : Primary
blank_primary = record { trail = []; active = set.empty; standing = Up; stops = 0 }

-- nothing received
abbrev pub blank_backup : Layout → Backup
blank_backup layout = record { up = true; received = 0; starts = 0 ∷ []; number = 0; volumes = Running (points_at layout 0); stops = 0 }

-- the start: an empty trail, all nodes up, nothing received
abbrev pub blank : Layout → State
blank layout = record {
  primary = blank_primary;
  senders = every idle_sender;
  backups = every (blank_backup layout);
  session = Closed;
}
