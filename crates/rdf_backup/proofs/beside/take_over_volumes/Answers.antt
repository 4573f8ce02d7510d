use Rattle.std.proofs.lemmas.Result.{err_from_is_err_and}
use Rattle.rdf_disk.specs.AnswerLaws.{on_err}
use Rattle.rdf_backup.proofs.WorkedLaws.{no_room_keeps, old_left, worked_keeps, worked_ok, worked_taken, worked_left, worked_sound, worked_damaged}
use Rattle.rdf_backup.proofs.beside.take_over_volumes.Goals as goal

pub returns-in_err-lists-clause-keeps : goal.returns-in_err-lists-clause-keeps
returns-in_err-lists-clause-keeps g c =
    let p = err_from_is_err_and c.from_residual.result c.from_residual.ensures.1 in
    no_room_keeps g.D.Disk.tells g.D.Disk.files g.D.Disk.counts c.args.audit.now c.args.layout.now c.args.volumes.now.items c.from_residual.result p.0 p.1 p.2

pub returns-in_err-lists-clause-err : goal.returns-in_err-lists-clause-err
returns-in_err-lists-clause-err g c = λ tells.
    on_err c.from_residual.result _ (old_left g.D.Disk.tells g.D.Disk.files g.D.Disk.counts c.args.audit.now c.args.layout.now c.args.volumes.now.items (c.requires.in_use tells))

pub returns-clause-keeps : goal.returns-clause-keeps
returns-clause-keeps g c = worked_keeps g.D.Disk.tells g.D.Disk.files g.D.Disk.counts c.args.audit.now c.args.layout.now c.flags-flags.result.now c.args.volumes.now.items c.work_beside.new.volumes.items c.work_beside.result c.flags-flags.ensures c.requires.sized c.work_beside.ensures

pub returns-clause-ok : goal.returns-clause-ok
returns-clause-ok g c = λ tells.
    worked_ok g.D.Disk.tells g.D.Disk.files g.D.Disk.counts c.args.audit.now c.args.layout.now c.flags-flags.result.now c.args.volumes.now.items c.work_beside.new.volumes.items c.work_beside.result c.flags-flags.ensures c.requires.sized c.work_beside.ensures tells (c.requires.in_use tells)

pub returns-clause-taken : goal.returns-clause-taken
returns-clause-taken g c = worked_taken g.D.Disk.tells g.D.Disk.files g.D.Disk.counts c.args.audit.now c.args.layout.now c.flags-flags.result.now c.args.volumes.now.items c.work_beside.new.volumes.items c.work_beside.result c.flags-flags.ensures c.requires.sized c.work_beside.ensures

pub returns-clause-err : goal.returns-clause-err
returns-clause-err g c = λ tells.
    on_err c.work_beside.result _ (worked_left g.D.Disk.tells g.D.Disk.files g.D.Disk.counts c.args.audit.now c.args.layout.now c.flags-flags.result.now c.args.volumes.now.items c.work_beside.new.volumes.items c.work_beside.result c.flags-flags.ensures c.requires.sized c.work_beside.ensures
    c.fits_taken.ensures tells (c.requires.in_use tells))

pub returns-clause-sound : goal.returns-clause-sound
returns-clause-sound g c = worked_sound g.D.Disk.tells g.D.Disk.files g.D.Disk.counts c.args.audit.now c.args.layout.now c.flags-flags.result.now c.args.volumes.now.items c.work_beside.new.volumes.items c.work_beside.result c.flags-flags.ensures c.requires.sized c.work_beside.ensures

pub returns-clause-damaged : goal.returns-clause-damaged
returns-clause-damaged g c = worked_damaged g.D.Disk.tells g.D.Disk.files g.D.Disk.counts c.args.audit.now c.args.layout.now c.flags-flags.result.now c.args.volumes.now.items c.work_beside.new.volumes.items c.work_beside.result c.flags-flags.ensures c.requires.sized c.work_beside.ensures
