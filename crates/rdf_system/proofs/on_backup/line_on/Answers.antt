use Rattle.plan_lang.specs.declared.lines.Line.TheVariants as lines
use Rattle.rdf_system.proofs.Naming.{named, did, restarted}
use Rattle.rdf_system.proofs.on_backup.line_on.Goals as goal

pub returns-in-Deliver : goal.returns-in-Deliver
returns-in-Deliver g c = did g.D.Disk.tells g.D.Disk.files g.D.Disk.counts c.args.layout.now _ c.deliver.result c.args.node.now c.deliver.new.self c.args.line.now (lines.Deliver c.args.node.now.name c.in-Deliver.k)
    (named (λ n. lines.Deliver n c.in-Deliver.k) c.in-Deliver.node c.requires.own c.in-Deliver.is (λ e. e)) (c.deliver.ensures.does c.in-Deliver.k) (λ p. p)

pub returns-in-List : goal.returns-in-List
returns-in-List g c = did g.D.Disk.tells g.D.Disk.files g.D.Disk.counts c.args.layout.now _ c.list.result c.args.node.now c.list.new.self c.args.line.now (lines.List c.args.node.now.name c.in-List.vol)
    (named (λ n. lines.List n c.in-List.vol) c.in-List.node c.requires.own c.in-List.is (λ e. e)) c.list.ensures (λ p. p)

pub returns-in-Info : goal.returns-in-Info
returns-in-Info g c = did g.D.Disk.tells g.D.Disk.files g.D.Disk.counts c.args.layout.now _ c.info.result c.args.node.now c.info.new.self c.args.line.now (lines.Info c.args.node.now.name)
    (named (λ n. lines.Info n) c.in-Info.node c.requires.own c.in-Info.is (λ e. e)) c.info.ensures (λ p. p)

pub returns-in-Status : goal.returns-in-Status
returns-in-Status g c = did g.D.Disk.tells g.D.Disk.files g.D.Disk.counts c.args.layout.now _ c.status.result c.args.node.now c.status.new.self c.args.line.now (lines.Status c.args.node.now.name)
    (named (λ n. lines.Status n) c.in-Status.node c.requires.own c.in-Status.is (λ e. e)) c.status.ensures (λ p. p)

pub returns-in-Fuse : goal.returns-in-Fuse
returns-in-Fuse g c = did g.D.Disk.tells g.D.Disk.files g.D.Disk.counts c.args.layout.now _ c.fuse.result c.args.node.now c.fuse.new.self c.args.line.now (lines.Fuse c.args.node.now.name c.in-Fuse.disk c.in-Fuse.calls c.in-Fuse.tear)
    (named (λ n. lines.Fuse n c.in-Fuse.disk c.in-Fuse.calls c.in-Fuse.tear) c.in-Fuse.node c.requires.own c.in-Fuse.is (λ e. e)) c.fuse.ensures (λ p. p)

pub returns-in-Cut : goal.returns-in-Cut
returns-in-Cut g c = did g.D.Disk.tells g.D.Disk.files g.D.Disk.counts c.args.layout.now _ c.cut.result c.args.node.now c.cut.new.self c.args.line.now (lines.Cut c.args.node.now.name)
    (named (λ n. lines.Cut n) c.in-Cut.node c.requires.own c.in-Cut.is (λ e. e)) c.cut.ensures (λ p. p)

pub returns-in-Purge : goal.returns-in-Purge
returns-in-Purge g c = did g.D.Disk.tells g.D.Disk.files g.D.Disk.counts c.args.layout.now _ c.purge.result c.args.node.now c.purge.new.self c.args.line.now (lines.Purge c.args.node.now.name)
    (named (λ n. lines.Purge n) c.in-Purge.node c.requires.own c.in-Purge.is (λ e. e)) c.purge.ensures (λ p. p)

pub returns-in-Restart : goal.returns-in-Restart
returns-in-Restart g c = restarted g.D.Disk.tells g.D.Disk.files g.D.Disk.counts c.args.layout.now _ c.restart.result c.args.node.now c.restart.new.self c.args.line.now (lines.Restart c.args.node.now.name)
    (named (λ n. lines.Restart n) c.in-Restart.node c.requires.own c.in-Restart.is (λ e. e)) (λ t layout w b. c.restart.ensures.performs t layout w b) c.restart.ensures.keeps c.restart.ensures.laid c.restart.ensures.sound

pub returns-in-Session : goal.returns-in-Session
returns-in-Session g c = did g.D.Disk.tells g.D.Disk.files g.D.Disk.counts c.args.layout.now _ c.session.result c.args.node.now c.session.new.self c.args.line.now (lines.Session c.args.node.now.name)
    (named (λ n. lines.Session n) c.in-Session.node c.requires.own c.in-Session.is (λ e. e)) c.session.ensures (λ p. p)
