-- Which lines may stand inside a session, and which outside.
use Rattle.std.specs.Prelude.{◌≡◌, Bool, true, false, List, [], ◌∷◌, Option, Some, None, IsTrue}
use Rattle.rdf_types.specs.declared.records.Node.{Node}
use Rattle.plan_lang.specs.declared.lines.Line.{Line}
use Rattle.plan_lang.specs.declared.lines.Line.TheVariants as line
use Rattle.plan_lang.specs.LineText.{same_node}

-- the line may stand in a session of the node: the lines of transactions and of the extractor,
-- and what is delivered, read and purged at that node
abbrev pub goes_in : Node → Line → Bool
goes_in of (line.Begin t) = true
goes_in of (line.Insert t k value) = true
goes_in of (line.Update t k value) = true
goes_in of (line.Delete t k) = true
goes_in of (line.Get t k) = true
goes_in of (line.Commit t) = true
goes_in of (line.Abort t) = true
goes_in of (line.Send node most) = true
goes_in of (line.Rewind node) = true
goes_in of (line.Ack node) = true
goes_in of (line.Deliver node k) = same_node of node
goes_in of (line.Read node k) = same_node of node
goes_in of (line.Purge node) = same_node of node
goes_in of line.End = true
goes_in of _ = false

-- the line may stand outside sessions
abbrev pub goes_outside : Line → Bool
goes_outside (line.Read node k) = false
goes_outside line.End = false
goes_outside _ = true

-- the line may stand where the session of this node is open, or none
abbrev pub fits_session : Option Node → Line → Bool
fits_session None l = goes_outside l
fits_session (Some of) l = goes_in of l

-- whose session is open behind the line
abbrev pub session_after : Option Node → Line → Option Node
session_after of (line.Session node) = Some node
session_after of line.End = None
session_after of _ = of

-- each line may stand where it does, and no session is open at the end
abbrev pub KeepSessions : Option Node → List Line → Type 0
KeepSessions of [] = of ≡ None
KeepSessions of (l ∷ lines) = IsTrue (fits_session of l) × KeepSessions (session_after of l) lines

-- whose session is open behind some lines
abbrev pub session_behind : Option Node → List Line → Option Node
session_behind of [] = of
session_behind of (l ∷ lines) = session_behind (session_after of l) lines
