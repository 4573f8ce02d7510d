-- How the primary's node may answer a line, whatever its disks tell.
use Rattle.std.specs.Prelude.{◌≡◌, Bool, nat_lt, Option, Some, None, is_some, MatchOption, IfOk, Result, Ok, if◌then◌else◌}
use Rattle.rdf_types.specs.declared.records.Node.TheVariants.{A}
use Rattle.rdf_disk.specs.declared.disk.Disk.{Ghosts}
use Rattle.plan_lang.specs.declared.lines.Line.{Line}
use Rattle.plan_lang.specs.declared.lines.Line.TheVariants as line
use Rattle.node_faults.specs.declared.NodeFault.{NodeFault}
use Rattle.rdf_core.specs.declared.replies.NoWhy.TheVariants as no
use Rattle.rdf_core.specs.declared.replies.Reply.{Reply}
use Rattle.rdf_core.specs.declared.replies.Reply.TheVariants.{Done, Number, No, Stopped}
use Rattle.rdf_core.specs.Step.{disks_of}
use Rattle.rdf_primary.specs.Kinds.{MayAnswer}
use Rattle.primary_node.specs.declared.node.PrimaryNode.{PrimaryNode}
use Rattle.primary_node.specs.Lines.{why_off, status_off}

-- the primary is up
abbrev pub has_up : {D : Type 0} {d : Ghosts D} → PrimaryNode D d → Bool
has_up n = is_some n.primary

-- that reply, where the primary is not up
abbrev pub unless_up : {D : Type 0} {d : Ghosts D} → PrimaryNode D d → Reply → Option Reply
unless_up n reply = if has_up n then None else Some reply

-- the reply that a line gets for how the node stands, where no primary is asked and none is opened
abbrev pub own_reply : {D : Type 0} {d : Ghosts D} → PrimaryNode D d → Line → Option Reply
own_reply n line.Lose = Some (if n.lost then No no.Lost else Done)
own_reply n (line.Cut node) = Some (if has_up n then Done else No (why_off n.lost))
own_reply n (line.Fuse node disk calls tear) = Some (if n.lost then No no.Lost else (if nat_lt n.volumes disk then No no.Volume else Done))
own_reply n (line.Restart node) = if n.lost then Some (No no.Lost) else (if has_up n then Some (No no.Up) else None)
own_reply n (line.Status node) = unless_up n (status_off n.lost)
own_reply n l = unless_up n (No (why_off n.lost))

-- any other reply: the number of a restart, what a primary that is up answers, or that the node stopped in a line that uses its disks
abbrev pub MayReply : Line → Reply → Type 0
MayReply l (Stopped node) = (node ≡ A) × (disks_of l ≡ Some A)
MayReply (line.Restart node) (Number n) = Unit {0}
MayReply l reply = MayAnswer l reply

-- a line is answered so
abbrev pub IsReplied : {D : Type 0} {d : Ghosts D} → Line → Result Reply NodeFault → PrimaryNode D d → Type 0
IsReplied l result old = MatchOption (own_reply old l) (IfOk result (λ reply. MayReply l reply)) (λ reply. result ≡ Ok reply)
