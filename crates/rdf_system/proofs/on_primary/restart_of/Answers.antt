use Rattle.rdf_system.proofs.on_primary.restart_of.Goals as goal

pub returns : goal.returns
returns g c = record { does = c.restart-answer.ensures; stands = c.stands.ensures }
