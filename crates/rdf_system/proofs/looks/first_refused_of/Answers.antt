use Rattle.std.proofs.Common.{◌<◌, ◌≤◌, nat_lt, length, arith}
use Rattle.node_disks.specs.CutLaws.{same_length}
use Rattle.rdf_system.specs.Place.{IfUsed}
use Rattle.rdf_system.specs.Starting.{IsReady, LeftAlone}
use Rattle.rdf_system.proofs.LookLaws.{looked_same, looked_blank, one_more, refused_ends, all_looked}
use Rattle.rdf_system.proofs.looks.first_refused_of.Goals as goal

pub returns-in-Some : goal.returns-in-Some
returns-in-Some g c =
    let n = c.loop-number.number in
    let within : n ≤ c.args.layout.now.volumes = omega (arith, c.loop-number-test.true, c.loop-number.auto.number-end) in
    let many = same_length (λ i x y. IfUsed (nat_lt i n) (LeftAlone g.D.Disk.tells g.D.Disk.files g.D.Disk.counts) x y) c.args.disks.now.items c.loop-number.disks.items c.loop-number.invariant.same in
    let there : n < length c.loop-number.disks.items = omega (arith, within, many, c.requires.there) in
    refused_ends g.D.Disk.tells g.D.Disk.files g.D.Disk.counts c.args.layout.now c.args.node c.requires.placed n within c.args.disks.now.items c.loop-number.disks.items c.loop-number.invariant.same c.loop-number.invariant.blank there
    c.index_mut.result.now c.index_mut.ensures.value c.refused.new.disk c.in-Some.fault c.in-Some.ensures

pub loop-number-preserved : goal.loop-number-preserved
loop-number-preserved g c =
    let n = c.loop-number.number in
    let xs = c.args.disks.now.items in
    let ys = c.loop-number.disks.items in
    let many = same_length (λ i x y. IfUsed (nat_lt i n) (LeftAlone g.D.Disk.tells g.D.Disk.files g.D.Disk.counts) x y) xs ys c.loop-number.invariant.same in
    let there : n < length ys = omega (arith, c.loop-number-test.true, c.loop-number.auto.number-end, many, c.requires.there) in
    record {
      same = looked_same g.D.Disk.tells g.D.Disk.files g.D.Disk.counts xs ys n c.loop-number.invariant.same there c.index_mut.result.now c.index_mut.ensures.value c.refused.new.disk c.in_default.ensures.0;
      blank = λ t. looked_blank g.D.Disk.tells g.D.Disk.files g.D.Disk.counts xs ys n c.loop-number.invariant.same there c.index_mut.result.now c.index_mut.ensures.value c.refused.new.disk t c.in_default.ensures.2 c.loop-number.invariant.blank;
      ready = one_more (λ d. IsReady g.D.Disk.tells g.D.Disk.files g.D.Disk.counts d) ys n c.refused.new.disk there c.in_default.ensures.1 c.loop-number.invariant.ready;
    }

pub returns : goal.returns
returns g c = all_looked g.D.Disk.tells g.D.Disk.files g.D.Disk.counts c.args.layout.now c.args.node c.requires.placed c.loop-number.number c.args.disks.now.items c.loop-number.disks.items (omega (arith, c.loop-number-test.false, c.loop-number.auto.number-end))
    c.loop-number.invariant.same c.loop-number.invariant.blank c.loop-number.invariant.ready
