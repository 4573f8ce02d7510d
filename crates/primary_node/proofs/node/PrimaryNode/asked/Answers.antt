use Rattle.primary_node.proofs.CallLaws.{goes_does, told_does}
use Rattle.primary_node.proofs.node.PrimaryNode.asked.Goals as goal

pub returns-in-Ok : goal.returns-in-Ok
returns-in-Ok g c = goes_does g.D.Disk.tells g.D.Disk.files g.D.Disk.counts c.args.self.now c.args.primary c.line.new.self c.args.line.now c.requires.answered c.requires.serves c.in-Ok.reply c.in-Ok.ensures

pub returns-in-Err : goal.returns-in-Err
returns-in-Err g c = told_does g.D.Disk.tells g.D.Disk.files g.D.Disk.counts c.args.self.now c.args.primary c.line.new.self c.args.line.now c.requires.answered c.requires.serves c.fall.new.self c.in-Err.fault c.stop_told.result c.stop_told.ensures c.in-Err.ensures
    c.fall.ensures.off c.fall.ensures.lost c.fall.ensures.volumes c.fall.ensures.cut
