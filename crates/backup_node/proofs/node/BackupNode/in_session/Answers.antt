use Rattle.std.proofs.Common.{refl, sym}
use Rattle.backup_node.proofs.ClosingLaws.{as_before, has_run}
use Rattle.backup_node.proofs.node.BackupNode.in_session.Goals as goal

pub returns-in-Ok-clause-runs : goal.returns-in-Ok-clause-runs
returns-in-Ok-clause-runs g c =
    has_run g.D.Disk.tells g.D.Disk.files g.D.Disk.counts (g.H.Here.Drives c.args.here g.D.Disk) c.in-Ok.ran.out c.in-Ok.ran.end c.settled-told.result c.args.self.now c.settled-told.new.self c.in-Some.backup c.session.new.self (sym c.in-Some.ensures.value) c.requires.serves
    c.in-Ok.ensures.runs c.settled-told.ensures.settles c.settled-told.ensures.sized c.settled-told.ensures.named c.ends_risen.ensures c.ends_broken.ensures

pub returns-in-Err-clause-unbegun : goal.returns-in-Err-clause-unbegun
returns-in-Err-clause-unbegun g c =
    (c.in-Err.ensures.unbegun.0, as_before g.D.Disk.tells g.D.Disk.files g.D.Disk.counts c.args.self.now c.in-Some.backup (sym c.in-Some.ensures.value) c.requires.serves _ c.session.new.self refl refl refl c.in-Err.ensures.unbegun.1)
