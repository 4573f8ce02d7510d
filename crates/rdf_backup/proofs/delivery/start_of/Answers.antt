use Rattle.std.proofs.Common.{◌∙◌}
use Rattle.rdf_backup.proofs.Starts.{start_is, long_enough}
use Rattle.rdf_backup.proofs.delivery.start_of.Goals as goal

pub eight_from-requires : goal.eight_from-requires
eight_from-requires c = record { long = long_enough c.args.bytes.now c.requires.sent.0 c.requires.sent.1 }

pub returns : goal.returns
returns c ship is = c.eight_from.ensures ∙ start_is c.args.bytes.now ship is
