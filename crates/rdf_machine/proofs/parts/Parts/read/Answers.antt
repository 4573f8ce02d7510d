use Rattle.rdf_machine.proofs.parts.Parts.read.Goals as goal

pub returns-then-has_halted-clause-kept : goal.returns-then-has_halted-clause-kept
returns-then-has_halted-clause-kept c = c.go_down.ensures.kept c.args.layout.now c.requires.kept
