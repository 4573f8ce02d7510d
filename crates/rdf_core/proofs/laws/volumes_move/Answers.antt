use Rattle.rdf_core.proofs.RisingLaws.{volumes_rise, drifts_stop, drifts_join, run_drifts}
use Rattle.rdf_core.proofs.laws.volumes_move.Goals as goal

pub returns : goal.returns
returns c = record { rise = volumes_rise; stop = drifts_stop; join = drifts_join; go_on = run_drifts }
