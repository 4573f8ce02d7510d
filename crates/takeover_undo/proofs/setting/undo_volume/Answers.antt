use Rattle.std.proofs.lemmas.Result.{on_err_weaker}
use Rattle.takeover_undo.proofs.Batching.{all_undone}
use Rattle.rdf_volume.specs.Views.{disk_of, restart_of, rows_of}
use Rattle.takeover_undo.proofs.setting.undo_volume.Goals as goal

pub returns-clause-err : goal.returns-clause-err
returns-clause-err g c = λ tells.
    let first = c.args.volume.now in
    let mid = c.set_all.new.volume in
    on_err_weaker c.checkpoint_from.result (all_undone c.args.undo.now (rows_of first) (restart_of first) c.args.low (restart_of mid) (rows_of mid) (g.D.Disk.files (disk_of c.checkpoint_from.new.self)) c.in_ok-set_all.ensures.rows c.in_ok-set_all.ensures.restart) (c.checkpoint_from.ensures.err tells)
