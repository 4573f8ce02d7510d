use Rattle.std.proofs.Common.{Some, ap}
use Rattle.node_faults.specs.declared.NodeFault.{NodeFault}
use Rattle.rdf_system.proofs.ready.not_ready.Goals as goal

pub unreachable-requires : goal.unreachable-requires
unreachable-requires c = c.requires.sound c.in-Damaged.disk c.in-Damaged.file c.in-Damaged.at (ap (λ (f : NodeFault). Some f) c.in-Damaged.is)
