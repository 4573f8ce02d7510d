-- Copies of audit from another backup.
use Rattle.std.specs.Prelude.{Option, Some, None, Result, Ok, Err}
use Rattle.rdf_types.specs.declared.records.Phase.{Phase}
use Rattle.rdf_types.specs.declared.records.Phase.TheVariants as phase
use Rattle.node_faults.specs.declared.NodeFault.{NodeFault}
use Rattle.node_faults.specs.Faults.{fault_at}
use Rattle.copyaudit.specs.declared.CopyFault.{CopyFault}
use Rattle.copyaudit.specs.declared.CopyFault.TheVariants as copy
use Rattle.rdf_core.specs.declared.replies.NoWhy.{NoWhy}
use Rattle.rdf_core.specs.declared.replies.NoWhy.TheVariants as no
use Rattle.rdf_core.specs.declared.replies.Reply.{Reply}
use Rattle.rdf_core.specs.declared.replies.Reply.TheVariants.{No}

-- why no audit is copied to a backup of that phase, or from it
abbrev pub not_taken : Phase → Option NoWhy
not_taken phase.Running = Some no.Running
not_taken phase.Taking = Some no.Taking
not_taken (phase.Taken upto) = None

-- how a copy is answered that was not made: where it is purged it is refused, and a fault of the image trails' disk is the node's
abbrev pub not_copied : CopyFault → Result Reply NodeFault
not_copied (copy.Purged first) = Ok (No (no.Purged first))
not_copied (copy.Log fault) = Err (fault_at 0 fault)
