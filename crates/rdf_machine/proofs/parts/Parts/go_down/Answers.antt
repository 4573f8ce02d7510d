use Rattle.rdf_machine.proofs.Backups.{keep_by}
use Rattle.rdf_machine.proofs.parts.Parts.go_down.Goals as goal

pub returns-clause-kept : goal.returns-clause-kept
returns-clause-kept c = keep_by c.args.self.now c.args.node c.go_down.new.self c.args.self.now.session c.get_mut.result.now c.get_mut.ensures.value c.go_down.ensures.kept
