use Rattle.rdf_machine.proofs.Backups.{kept_in}
use Rattle.rdf_machine.proofs.parts.Parts.end.Goals as goal

pub returns-then-met_stop-clause-kept : goal.returns-then-met_stop-clause-kept
returns-then-met_stop-clause-kept c = kept_in c.args.layout.now c.go_down.new.self _ (c.go_down.ensures.kept c.args.layout.now c.requires.kept)
