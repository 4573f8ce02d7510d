use Rattle.std.proofs.Common.{inr, rules, ◌∙◌}
use Rattle.std.proofs.lemmas.Result.{on_err_weaker}
use Rattle.rdf_disk.specs.Outcomes.{Durably}
use Rattle.rdf_volume.specs.Changes.{changed}
use Rattle.rdf_volume.specs.Standing.{StandsFor}
use Rattle.rdf_volume.specs.Views.{rows_of, restart_of, disk_of}
use Rattle.rdf_volume.specs.StandingLaws.{stands_same}
use Rattle.updaters.proofs.batch.apply_batch.Goals as goal

pub returns-clause-steps : goal.returns-clause-steps
returns-clause-steps g c =
    let mid = c.apply.new.self in
    record { does = record { ok = search rules; err = λ tells. on_err_weaker c.checkpoint_from.result (λ (durably : Durably (g.D.Disk.files (disk_of c.checkpoint_from.new.self)) (StandsFor (rows_of mid) (restart_of mid))) x may. inr (stands_same (rows_of mid) (changed (rows_of c.args.volume.now) c.args.batch.now) (restart_of mid) c.args.restart x c.in_ok-apply.ensures.rows c.in_ok-apply.ensures.restart (durably x may))) (c.checkpoint_from.ensures.err tells); cause = search rules }; rows = search rules; restart = search rules; batches = search rules; file = search rules; point = search rules; sound = c.checkpoint_from.ensures.sound; names = λ damaged at e. c.checkpoint_from.ensures.names damaged at e ∙ c.in_ok-apply.ensures.file }

pub returns-clause-known : goal.returns-clause-known
returns-clause-known g c = λ tells.
    let mid = c.apply.new.self in
    on_err_weaker c.checkpoint_from.result
    (λ (durably : Durably (g.D.Disk.files (disk_of c.checkpoint_from.new.self)) (StandsFor (rows_of mid) (restart_of mid))).
    inr (λ x may. stands_same (rows_of mid) (changed (rows_of c.args.volume.now) c.args.batch.now) (restart_of mid) c.args.restart x c.in_ok-apply.ensures.rows c.in_ok-apply.ensures.restart (durably x may)))
    (c.checkpoint_from.ensures.err tells)
