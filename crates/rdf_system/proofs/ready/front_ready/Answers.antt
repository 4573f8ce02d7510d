use Rattle.std.proofs.Common.{List, IfOk, subst}
use Rattle.rdf_types.specs.declared.records.Node.TheVariants.{A}
use Rattle.rdf_disk.specs.Counts.Ending.{Fine}
use Rattle.node_disks.specs.Cuts.{Each}
use Rattle.rdf_system.specs.Shelved.{front_disks}
use Rattle.rdf_system.specs.Starting.{Came}
use Rattle.rdf_system.proofs.StartLaws.{two_parts}
use Rattle.rdf_system.proofs.ready.front_ready.Goals as goal

pub returns-in-Ok-clause-came : goal.returns-in-Ok-clause-came
returns-in-Ok-clause-came g c = subst (λ (l : List g.row.D.Denot). IfOk c.front_over.result (λ front. Each (Came g.D.Disk.counts c.args.layout.now (λ node i. Fine) A) l (front_disks front)))
    (two_parts _ c.args.disks.items c.split_off.new.self.items c.in-Ok.spare.items c.in-Ok.ensures.items c.in-Ok.ensures.tail) c.front_over.ensures.came
