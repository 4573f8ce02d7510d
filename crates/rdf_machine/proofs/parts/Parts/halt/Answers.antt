use Rattle.rdf_machine.proofs.Backups.{keep_by}
use Rattle.rdf_machine.proofs.parts.Parts.halt.Goals as goal

pub returns-in-Some-clause-kept : goal.returns-in-Some-clause-kept
returns-in-Some-clause-kept c = keep_by c.args.self.now c.in-Some.node c.halt-in-Some.new.self c.halt.new.self c.get_mut.result.now c.get_mut.ensures.value c.halt-in-Some.ensures.kept
