use Rattle.rdf_disk.specs.AnswerLaws.{on_err}
use Rattle.rdf_volume.proofs.TableLaws.{looked_durably, looked_tabled, tabled_at_rest}
use Rattle.rdf_volume.proofs.volume.Volume.get.Goals as goal

pub returns-clause-ok : goal.returns-clause-ok
returns-clause-ok g c = λ tells. let u = c.requires.in_use tells in
    looked_tabled c.get.result (g.D.Disk.files c.args.self.now.disk) (g.D.Disk.files c.get.new.disk) c.args.self.now.log.file c.args.self.now.log.end c.args.self.now.table c.get.new.self c.args.self.now.restart c.args.self.now.batches
    c.get.ensures.shown (c.get.ensures.files tells) u.in_use
    (c.get.ensures.table tells u.in_use.log.payloads (tabled_at_rest (g.D.Disk.files c.args.self.now.disk) c.args.self.now.log.file c.args.self.now.log.end c.args.self.now.table.shown.rows c.args.self.now.restart c.args.self.now.batches u.in_use) u.table_is)

pub returns-clause-err : goal.returns-clause-err
returns-clause-err g c = λ tells. let u = c.requires.in_use tells in
    on_err c.get.result _ (looked_durably c.get.result (g.D.Disk.files c.args.self.now.disk) (g.D.Disk.files c.get.new.disk) c.args.self.now.log.file c.args.self.now.log.end c.args.self.now.table.shown.rows c.args.self.now.restart c.args.self.now.batches
    (c.get.ensures.files tells) u.in_use)
