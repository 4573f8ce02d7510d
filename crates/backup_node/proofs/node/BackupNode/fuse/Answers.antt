use Rattle.std.proofs.Common.{◌<◌, ◌≤◌, length, refl, sym, subst, arith}
use Rattle.plan_lang.specs.declared.lines.Line.TheVariants as lines
use Rattle.rdf_core.specs.declared.replies.NoWhy.TheVariants as no
use Rattle.rdf_core.specs.declared.replies.Reply.TheVariants.{No}
use Rattle.node_disks.specs.FuseLaws.{put_fused, put_narrows}
use Rattle.backup_node.proofs.SettleLaws.{was_off, was_up}
use Rattle.backup_node.proofs.FuseLaws.{beyond_follows, off_does, up_does}
use Rattle.backup_node.proofs.KindLaws.{beyond_replied}
use Rattle.backup_node.proofs.DoesLaws.{no_no, still_does}
use Rattle.backup_node.proofs.node.BackupNode.fuse.Goals as goal

pub returns-then-self-disk : goal.returns-then-self-disk
returns-then-self-disk g c =
    let beyond : c.args.self.now.volumes < c.args.disk = omega (arith, c.if-self-disk.true) in
    still_does g.D.Disk.tells g.D.Disk.files g.D.Disk.counts c.args.self.now c.requires.serves (lines.Fuse c.args.self.now.name c.args.disk c.args.calls c.args.tear) _ (No no.Volume) c.args.self.now.backup refl (no_no no.Volume c.args.self.now.name) refl refl (beyond_replied c.args.self.now c.args.disk c.args.calls c.args.tear beyond)
    (λ t layout w b rise some any at. beyond_follows g.D.Disk.files layout w b rise c.args.disk c.args.calls c.args.tear g.D.Disk.tells g.D.Disk.counts c.args.self.now c.requires.serves at beyond)

pub fuse-requires-clause-there : goal.fuse-requires-clause-there
fuse-requires-clause-there g c = subst (λ v. c.args.disk ≤ v) (sym (was_up c.args.self.now g.D.Disk.tells g.D.Disk.files g.D.Disk.counts c.in-Some.backup (sym c.in-Some.ensures.value) c.requires.serves).sized) c.if-self-disk.false

pub returns-in-Some : goal.returns-in-Some
returns-in-Some g c =
    let there : c.args.disk ≤ c.args.self.now.volumes = omega (arith, c.if-self-disk.false) in
    up_does g.D.Disk.tells g.D.Disk.files g.D.Disk.counts c.args.self.now c.requires.serves c.args.disk c.args.calls c.args.tear there c.in-Some.backup c.fuse.new.self c.in-Some.ensures.value c.fuse.ensures.usable c.fuse.ensures.laid c.fuse.ensures.same c.fuse.ensures.serves c.fuse.ensures.phase c.fuse.ensures.counts

pub returns-in-None : goal.returns-in-None
returns-in-None g c =
    let there : c.args.disk ≤ c.args.self.now.volumes = omega (arith, c.if-self-disk.false) in
    let many = (was_off c.args.self.now g.D.Disk.tells g.D.Disk.files g.D.Disk.counts (sym c.in-None.ensures.value) c.requires.serves).many in
    let within : c.args.disk < length c.args.self.now.disks.items = omega (arith, there, many) in
    off_does g.D.Disk.tells g.D.Disk.files g.D.Disk.counts c.args.self.now c.requires.serves c.args.disk c.args.calls c.args.tear there _ c.in-None.ensures.value c.take.ensures.after refl refl
    (put_fused g.D.Disk.counts c.args.self.now.disks.items c.args.disk c.fuse-in-None.new.self c.index_mut-fused.result.now within c.index_mut-fused.ensures.value c.fuse-in-None.ensures.counts)
    (λ t. put_narrows g.D.Disk.counts c.args.self.now.disks.items c.args.disk c.fuse-in-None.new.self c.index_mut-fused.result.now within c.index_mut-fused.ensures.value g.D.Disk.files (c.fuse-in-None.ensures.files t))
