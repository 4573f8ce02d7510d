use Rattle.std.proofs.Common.{sym}
use Rattle.rdf_primary.specs.States.{disks_in}
use Rattle.node_disks.specs.PairLaws.{formatted_on}
use Rattle.primary_node.proofs.node.PrimaryNode.format.Goals as goal

pub up-requires : goal.up-requires
up-requires g c = record {
  runs = record {
    up = c.in-Ok.ensures.up;
    runs = c.in-Ok.ensures.runs;
    sized = sym c.in-Ok.ensures.laid;
    on = formatted_on g.D.Disk.counts c.args.disks.items (disks_in c.in-Ok.primary) c.in-Ok.ensures.cause c.requires.on;
  };
}
