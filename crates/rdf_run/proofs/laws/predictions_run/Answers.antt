use Rattle.rdf_run.proofs.ForetoldRuns.{ForetellingLaws, foretold_runs}
use Rattle.rdf_run.proofs.Runs.{run_laws}
use Rattle.rdf_run.proofs.laws.predictions_run.Goals as goal

pub returns : goal.returns
returns c = λ layout lines replies last f.
    let laws : ForetellingLaws = record {
      join = c.volumes_move.ensures.join;
      runs = run_laws c.volumes_move.ensures.go_on c.step_goes_on.ensures c.no_point_falls.ensures;
      goes = c.present_points_go.ensures;
      sound = c.positions_sound.ensures;
    } in
    foretold_runs laws layout lines replies last f
