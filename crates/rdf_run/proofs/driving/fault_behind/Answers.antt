use Rattle.rdf_run.proofs.Drives.{line_unstopped}
use Rattle.rdf_run.proofs.driving.fault_behind.Goals as goal

pub of_node-requires : goal.of_node-requires
of_node-requires c = line_unstopped c.args.met c.in-Broken.why c.in-Line.fault c.first_of_both.result c.args.node c.args.told.now c.in-Broken.is c.in-Line.is c.requires c.first_of_both.ensures
