use Rattle.std.proofs.Common.{◌<◌, length, slice_get, ap, ◌∙◌, subst, sym, arith}
use Rattle.std.proofs.lemmas.List.{with_items_is}
use Rattle.node_disks.specs.Cuts.{IfBoth, IsCut}
use Rattle.node_disks.proofs.CuttingLaws.{step_done, step_left, all_done}
use Rattle.node_disks.proofs.cutting.cut_all.Goals as goal

pub loop-disk-preserved : goal.loop-disk-preserved
loop-disk-preserved g c =
    let R = (λ (x y : g.row.D.Denot). IsCut g.D.Disk.tells g.D.Disk.files g.D.Disk.counts x y) in
    let below : c.loop-disk.disk-index < length c.loop-disk.disk-items = omega (arith, c.loop-disk-test.true, c.loop-disk.auto.disk-items) in
    record {
      done = step_done R c.args.disks.now.items c.loop-disk.disk-items c.loop-disk.disk-index c.loop-disk.invariant.done c.loop-disk.invariant.left c.cut.new.self c.disk-item.result below (record { settles = c.cut.ensures.files; counts_are = c.cut.ensures.counts });
      left = step_left R c.args.disks.now.items c.loop-disk.disk-items c.loop-disk.disk-index c.loop-disk.invariant.done c.loop-disk.invariant.left c.cut.new.self;
    }

pub returns : goal.returns
returns g c =
    let R = (λ (x y : g.row.D.Denot). IsCut g.D.Disk.tells g.D.Disk.files g.D.Disk.counts x y) in
    let same = with_items_is c.args.disks.now c.loop-disk.disk-items (omega (arith, c.loop-disk.auto.disk-items, ap length c.deref_mut-disk-items.ensures.value, c.args.disks.now.ok.0)) in
    λ i. subst (λ l. IfBoth R (slice_get c.args.disks.now.items i) (slice_get l i)) (sym same)
    (all_done R c.args.disks.now.items c.loop-disk.disk-items c.loop-disk.disk-index c.loop-disk.invariant.done c.loop-disk.invariant.left (omega (arith, ap length c.deref_mut-disk-items.ensures.value, c.loop-disk-test.false)) (c.loop-disk.auto.disk-items ∙ ap length c.deref_mut-disk-items.ensures.value) i)
