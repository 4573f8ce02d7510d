-- The session behind a line.
use Rattle.std.proofs.Common.{◌≡◌, Bool, false, ◌||◌, Some, refl}
use Rattle.rdf_types.specs.declared.records.Node.{Node}
use Rattle.plan_lang.specs.declared.lines.Line.{Line}
use Rattle.plan_lang.specs.declared.lines.Line.TheVariants as line
use Rattle.plan_lang.specs.LineText.{same_node}
use Rattle.plan_lang.specs.Sessions.{session_after}
use Rattle.rdf_core.specs.declared.replies.Reply.{Reply}
use Rattle.rdf_core.specs.declared.replies.Reply.TheVariants.{No, Stopped}
use Rattle.rdf_system.specs.declared.session.SessionState.{SessionState}
use Rattle.rdf_system.specs.declared.session.SessionState.TheVariants as system
use Rattle.rdf_system.specs.Sessions.{as_bar, node_of}

-- the reply is that the node stopped
abbrev pub is_stop_of : Node → Reply → Bool
is_stop_of node (Stopped of) = same_node node of
is_stop_of node _ = false

-- the session that its line opens, by the reply: one that was refused keeps why
abbrev pub begun : Node → Reply → SessionState
begun node (No why) = system.Refused node (as_bar why)
begun node _ = system.Open node false

-- a stop of the session's node is noted
abbrev pub noted : SessionState → Reply → SessionState
noted system.Closed reply = system.Closed
noted (system.Refused node bar) reply = system.Refused node bar
noted (system.Open node stopped) reply = system.Open node (stopped || is_stop_of node reply)

-- the session behind a line of its node that was answered so
abbrev pub behind : SessionState → Line → Reply → SessionState
behind session (line.Session node) reply = begun node reply
behind session line.End reply = system.Closed
behind session _ reply = noted session reply

-- whose session it is goes by the line alone

pub noted_node : (ss : SessionState) (reply : Reply) → node_of (noted ss reply) ≡ node_of ss
noted_node system.Closed reply = refl
noted_node (system.Refused node bar) reply = refl
noted_node (system.Open node stopped) reply = refl

pub begun_node : (node : Node) (reply : Reply) → node_of (begun node reply) ≡ Some node
begun_node node (No why) = refl
begun_node node _ = refl

pub behind_node : (ss : SessionState) (l : Line) (reply : Reply) → node_of (behind ss l reply) ≡ session_after (node_of ss) l
behind_node ss (line.Session node) reply = begun_node node reply
behind_node ss line.End reply = refl
behind_node ss _ reply = noted_node ss reply
