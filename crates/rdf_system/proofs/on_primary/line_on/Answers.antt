use Rattle.rdf_system.proofs.on_primary.line_on.Goals as goal

pub returns : goal.returns
returns g c = record { does = c.line-answer.ensures; stands = c.stands.ensures }
