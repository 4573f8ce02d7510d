-- Which reply an answer of a backup is not.
use Rattle.std.specs.Prelude.{◌≢◌, Result, Ok, Err}
use Rattle.rdf_types.specs.declared.records.Node.{Node}
use Rattle.node_faults.specs.declared.NodeFault.{NodeFault}
use Rattle.rdf_core.specs.declared.replies.Reply.{Reply}
use Rattle.rdf_core.specs.declared.replies.Reply.TheVariants.{Stopped}

-- the reply is not that a node stopped
abbrev pub IsNoStop : Reply → Type 0
IsNoStop reply = (node : Node) → reply ≢ Stopped node

-- no reply is that a node stopped: a stop is a fault
abbrev pub IsPlain : Result Reply NodeFault → Type 0
IsPlain (Ok reply) = IsNoStop reply
IsPlain (Err why) = Unit {0}
