use Rattle.rdf_machine.proofs.parts.Parts.open_session.Goals as goal

pub returns-in-Some-clause-kept : goal.returns-in-Some-clause-kept
returns-in-Some-clause-kept c = c.refuse_session.ensures.kept c.args.layout.now c.requires.kept
