use Rattle.rdf_model.specs.Contents.{held}
use Rattle.backup_machine.proofs.ShownLaws.{rows_are}
use Rattle.backup_machine.proofs.rows.rows_of.Goals as goal

pub returns : goal.returns
returns c = rows_are c.rows.result c.args.vol (held c.args.files.now) c.rows_listed.ensures c.rows.ensures.lists
