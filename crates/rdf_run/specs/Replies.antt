-- Which replies a line may get at all, whatever the disks tell.
use Rattle.std.specs.Prelude.{◌≡◌, List, [], ◌∷◌, Option, Some}
use Rattle.rdf_types.specs.declared.records.Node.{Node}
use Rattle.rdf_types.specs.declared.records.Node.TheVariants.{A}
use Rattle.plan_lang.specs.declared.lines.Line.{Line}
use Rattle.plan_lang.specs.declared.lines.Line.TheVariants as line
use Rattle.plan_lang.specs.Sessions.{session_after}
use Rattle.rdf_core.specs.declared.replies.NoWhy.{NoWhy}
use Rattle.rdf_core.specs.declared.replies.NoWhy.TheVariants as no
use Rattle.rdf_core.specs.declared.replies.Reply.{Reply}
use Rattle.rdf_core.specs.declared.replies.Reply.TheVariants.{Done, Number, Got, Sent, NoneSent, Holds, Absent, Rows, Info, PrimaryUp, NodeDown, NodeLost, BackupUp, Stopped, No}
use Rattle.rdf_core.specs.Step.{disks_of}

-- the node is the primary's
abbrev pub IsPrimary : Node → Type 0
IsPrimary A = Unit {0}
IsPrimary _ = ⊥

-- the node is a backup's
abbrev pub IsBackup : Node → Type 0
IsBackup A = ⊥
IsBackup _ = Unit {0}

-- why a line may be refused, in the order of its row; a read and the end of a session tell what refused the session
abbrev pub MayRefuse : Line → NoWhy → Type 0
MayRefuse (line.Begin t) no.Lost = Unit {0}
MayRefuse (line.Begin t) no.Down = Unit {0}
MayRefuse (line.Begin t) no.Used = Unit {0}
MayRefuse (line.Insert t k value) no.Lost = Unit {0}
MayRefuse (line.Insert t k value) no.Down = Unit {0}
MayRefuse (line.Insert t k value) no.Txn = Unit {0}
MayRefuse (line.Insert t k value) no.Volume = Unit {0}
MayRefuse (line.Insert t k value) (no.Locked by) = Unit {0}
MayRefuse (line.Insert t k value) no.Exists = Unit {0}
MayRefuse (line.Update t k value) no.Lost = Unit {0}
MayRefuse (line.Update t k value) no.Down = Unit {0}
MayRefuse (line.Update t k value) no.Txn = Unit {0}
MayRefuse (line.Update t k value) no.Volume = Unit {0}
MayRefuse (line.Update t k value) (no.Locked by) = Unit {0}
MayRefuse (line.Update t k value) no.Missing = Unit {0}
MayRefuse (line.Delete t k) no.Lost = Unit {0}
MayRefuse (line.Delete t k) no.Down = Unit {0}
MayRefuse (line.Delete t k) no.Txn = Unit {0}
MayRefuse (line.Delete t k) no.Volume = Unit {0}
MayRefuse (line.Delete t k) (no.Locked by) = Unit {0}
MayRefuse (line.Delete t k) no.Missing = Unit {0}
MayRefuse (line.Get t k) no.Lost = Unit {0}
MayRefuse (line.Get t k) no.Down = Unit {0}
MayRefuse (line.Get t k) no.Txn = Unit {0}
MayRefuse (line.Get t k) no.Volume = Unit {0}
MayRefuse (line.Get t k) (no.Locked by) = Unit {0}
MayRefuse (line.Get t k) no.Missing = Unit {0}
MayRefuse (line.Commit t) no.Lost = Unit {0}
MayRefuse (line.Commit t) no.Down = Unit {0}
MayRefuse (line.Commit t) no.Txn = Unit {0}
MayRefuse (line.Abort t) no.Lost = Unit {0}
MayRefuse (line.Abort t) no.Down = Unit {0}
MayRefuse (line.Abort t) no.Txn = Unit {0}
MayRefuse (line.List node vol) no.Lost = IsPrimary node
MayRefuse (line.List node vol) no.Down = Unit {0}
MayRefuse (line.List node vol) no.Taking = IsBackup node
MayRefuse (line.List node vol) no.Volume = Unit {0}
MayRefuse (line.Fuse node disk calls tear) no.Lost = IsPrimary node
MayRefuse (line.Fuse node disk calls tear) no.Volume = Unit {0}
MayRefuse (line.Cut node) no.Lost = IsPrimary node
MayRefuse (line.Cut node) no.Down = Unit {0}
MayRefuse (line.Restart node) no.Lost = IsPrimary node
MayRefuse (line.Restart node) no.Up = Unit {0}
MayRefuse line.Lose no.Lost = Unit {0}
MayRefuse (line.Send node most) no.Lost = Unit {0}
MayRefuse (line.Send node most) no.Down = Unit {0}
MayRefuse (line.Rewind node) no.Lost = Unit {0}
MayRefuse (line.Rewind node) no.Down = Unit {0}
MayRefuse (line.Ack node) no.Lost = Unit {0}
MayRefuse (line.Ack node) no.Down = Unit {0}
MayRefuse (line.Deliver node k) no.Down = Unit {0}
MayRefuse (line.Deliver node k) no.Taking = Unit {0}
MayRefuse (line.Deliver node k) no.Taken = Unit {0}
MayRefuse (line.Deliver node k) no.Message = Unit {0}
MayRefuse (line.Deliver node k) (no.Gap received) = Unit {0}
MayRefuse (line.Takeover node) no.Down = Unit {0}
MayRefuse (line.Takeover node) no.PrimaryUp = Unit {0}
MayRefuse (line.Purge node) no.Down = Unit {0}
MayRefuse (line.Purge node) no.Taking = Unit {0}
MayRefuse (line.Info node) no.Down = Unit {0}
MayRefuse (line.Info node) no.Taking = Unit {0}
MayRefuse (line.CopyAudit node from) no.Down = Unit {0}
MayRefuse (line.CopyAudit node from) no.Running = Unit {0}
MayRefuse (line.CopyAudit node from) no.Taking = Unit {0}
MayRefuse (line.CopyAudit node from) (no.Purged at) = Unit {0}
MayRefuse (line.Session node) no.Down = Unit {0}
MayRefuse (line.Session node) no.Taking = Unit {0}
MayRefuse (line.Session node) no.Taken = Unit {0}
MayRefuse (line.Read node key) no.Down = Unit {0}
MayRefuse (line.Read node key) no.Taking = Unit {0}
MayRefuse (line.Read node key) no.Taken = Unit {0}
MayRefuse (line.Read node key) no.Volume = Unit {0}
MayRefuse line.End no.Down = Unit {0}
MayRefuse line.End no.Taking = Unit {0}
MayRefuse line.End no.Taken = Unit {0}
MayRefuse _ _ = ⊥

-- of which node a line may tell that it stopped, where the session of this one is open, or none: the one whose disks it uses, the one that is read, and at the end of a session that of the session
abbrev pub MayTellStop : Option Node → Line → Node → Type 0
MayTellStop session (line.Read node key) of = of ≡ node
MayTellStop session line.End of = session ≡ Some of
MayTellStop session l of = disks_of l ≡ Some of

-- the reply is of the line's own kind
abbrev pub IsOwnKind : Line → Reply → Type 0
IsOwnKind (line.Begin t) Done = Unit {0}
IsOwnKind (line.Insert t k value) (Number n) = Unit {0}
IsOwnKind (line.Update t k value) (Number n) = Unit {0}
IsOwnKind (line.Delete t k) (Number n) = Unit {0}
IsOwnKind (line.Get t k) (Got value) = Unit {0}
IsOwnKind (line.Commit t) (Number n) = Unit {0}
IsOwnKind (line.Abort t) (Number n) = Unit {0}
IsOwnKind (line.List node vol) (Rows at rows) = Unit {0}
IsOwnKind (line.Status node) (PrimaryUp len active) = IsPrimary node
IsOwnKind (line.Status node) NodeLost = IsPrimary node
IsOwnKind (line.Status node) (BackupUp phase received kept generations unended) = IsBackup node
IsOwnKind (line.Status node) NodeDown = Unit {0}
IsOwnKind (line.Fuse node disk calls tear) Done = Unit {0}
IsOwnKind (line.Cut node) Done = Unit {0}
IsOwnKind (line.Restart node) (Number n) = Unit {0}
IsOwnKind line.Lose Done = Unit {0}
IsOwnKind (line.Send node most) (Sent k from to) = Unit {0}
IsOwnKind (line.Send node most) NoneSent = Unit {0}
IsOwnKind (line.Rewind node) (Number n) = Unit {0}
IsOwnKind (line.Ack node) (Number n) = Unit {0}
IsOwnKind (line.Deliver node k) (Number n) = Unit {0}
IsOwnKind (line.Takeover node) (Number n) = Unit {0}
IsOwnKind (line.Purge node) (Number n) = Unit {0}
IsOwnKind (line.Info node) (Info volumes) = Unit {0}
IsOwnKind (line.CopyAudit node from) (Number n) = Unit {0}
IsOwnKind (line.Session node) (Number n) = Unit {0}
IsOwnKind (line.Read node key) (Holds at value) = Unit {0}
IsOwnKind (line.Read node key) (Absent at) = Unit {0}
IsOwnKind line.End (Number n) = Unit {0}
IsOwnKind _ _ = ⊥

-- a line may get this reply, where the session of this node is open, or none: it is refused so, a node stopped in it, or the reply is of its own kind
abbrev pub MayGet : Option Node → Line → Reply → Type 0
MayGet session l (No why) = MayRefuse l why
MayGet session l (Stopped node) = MayTellStop session l node
MayGet session l reply = IsOwnKind l reply

-- there are as many replies as lines, and each line may get its own, from where the session of this node is open, or none
abbrev pub AllGet : Option Node → List Line → List Reply → Type 0
AllGet session [] [] = Unit {0}
AllGet session (l ∷ lines) (reply ∷ replies) = MayGet session l reply × AllGet (session_after session l) lines replies
AllGet session _ _ = ⊥
