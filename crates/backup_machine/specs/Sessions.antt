-- What is noted in the session.
use Rattle.std.specs.Prelude.{ℕ, Bool, false, Option, Some, None}
use Rattle.rdf_types.specs.declared.records.Node.{Node}
use Rattle.rdf_core.specs.Sessions.{Session, Closed, Refused, Open, Opened, has_halted, met_stop, with_halt, with_seen}
use Rattle.backup_machine.specs.declared.session.OpenedState.{OpenedState}
use Rattle.backup_machine.specs.declared.session.SessionState.{SessionState}
use Rattle.backup_machine.specs.declared.session.SessionState.TheVariants as state

-- a session since its line
abbrev pub opened_of : OpenedState → Opened
opened_of o = record { node = o.node; began = o.began; seen = o.seen; halted = o.halted; cut = o.cut }

-- the session
abbrev pub session_of : SessionState → Session
session_of state.Closed = Closed
session_of (state.Refused node why) = Refused node why
session_of (state.Open o) = Open (opened_of o)

-- the backup of the open session
abbrev pub node_in : Session → Option Node
node_in Closed = None
node_in (Refused node why) = None
node_in (Open o) = Some o.node

-- the disk of the volume stopped in the open session
abbrev pub has_halted_in : Session → ℕ → Bool
has_halted_in Closed vol = false
has_halted_in (Refused node why) vol = false
has_halted_in (Open o) vol = has_halted o vol

-- a disk of the backup stopped in the open session
abbrev pub has_met_stop : Session → Bool
has_met_stop Closed = false
has_met_stop (Refused node why) = false
has_met_stop (Open o) = met_stop o

-- the open session, once a position of the volume was read
abbrev pub seen_in : Session → ℕ → ℕ → Session
seen_in Closed vol at = Closed
seen_in (Refused node why) vol at = Refused node why
seen_in (Open o) vol at = Open (with_seen o vol at)

-- the open session, once the disk of the volume stopped
abbrev pub halted_in : Session → ℕ → Session
halted_in Closed vol = Closed
halted_in (Refused node why) vol = Refused node why
halted_in (Open o) vol = Open (with_halt o vol)
