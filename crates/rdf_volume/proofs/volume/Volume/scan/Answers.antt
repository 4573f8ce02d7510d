use Rattle.std.proofs.Common.{refl}
use Rattle.rdf_disk.specs.AnswerLaws.{on_err}
use Rattle.rdf_volume.proofs.TableLaws.{looked_durably, looked_tabled}
use Rattle.rdf_volume.proofs.volume.Volume.scan.Goals as goal

pub returns-clause-ok : goal.returns-clause-ok
returns-clause-ok g c = λ tells. let u = c.requires.in_use tells in
    looked_tabled c.all_rows.result (g.D.Disk.files c.args.self.now.disk) (g.D.Disk.files c.all_rows.new.disk) c.args.self.now.log.file c.args.self.now.log.end c.args.self.now.table c.args.self.now.table c.args.self.now.restart c.args.self.now.batches
    refl (c.all_rows.ensures.files tells) u.in_use u.table_is

pub returns-clause-err : goal.returns-clause-err
returns-clause-err g c = λ tells. let u = c.requires.in_use tells in
    on_err c.all_rows.result _ (looked_durably c.all_rows.result (g.D.Disk.files c.args.self.now.disk) (g.D.Disk.files c.all_rows.new.disk) c.args.self.now.log.file c.args.self.now.log.end c.args.self.now.table.shown.rows c.args.self.now.restart c.args.self.now.batches
    (c.all_rows.ensures.files tells) u.in_use)
