use Rattle.std.proofs.Common.{◌+◌, ◌≤◌, ◌++◌, length, take, refl, sym, ◌∙◌, arith}
use Rattle.keyed_blocks.specs.Bases.{block_rows}
use Rattle.keyed_blocks.specs.Indexes.{joined}
use Rattle.rdf_volume.proofs.FillingLaws.{all_out}
use Rattle.rdf_volume.proofs.ScanLaws.{at_rest_same, passed_as}
use Rattle.rdf_volume.proofs.scan.all_rows.Goals as goal

pub loop-block-preserved : goal.loop-block-preserved
loop-block-preserved g c = record {
  same = λ tells m. c.in_ok-rows.ensures.files tells m ∙ c.loop-block.invariant.same tells m;
  laid = c.in_ok-rows.ensures.laid ∙ c.loop-block.invariant.laid;
  passed = λ tells base payloads rest i.
      let now = at_rest_same c.args.log.now.file c.args.log.now.end payloads (g.D.Disk.files c.args.disk.now) (g.D.Disk.files c.loop-block.disk) (c.loop-block.invariant.same tells) rest in
      let has = c.loop-block.invariant.passed tells base payloads rest i in
      let came = c.in_ok-rows.ensures.ok tells base c.loop-block.all.items payloads now i
      (passed_as c.args.table.now.overlay c.loop-block.merge.laid (joined (take c.loop-block.block (block_rows i.blocks))) c.loop-block.all.items c.loop-block.all.items c.loop-block.merge.to_come (sym c.loop-block.invariant.laid) refl has) in
      passed_as c.loop-block.merge.laid c.args.table.now.overlay (joined (take (c.loop-block.block + 1) (block_rows i.blocks))) (c.loop-block.all.items ++ c.in_ok-rows.rows.items) c.append.new.self.items
      c.next_rows.new.merge.to_come c.loop-block.invariant.laid c.in_ok-append.ensures.items came;
  counts = c.in_ok-rows.ensures.cause ∙ c.loop-block.invariant.counts;
}

pub returns-clause-ok : goal.returns-clause-ok
returns-clause-ok g c = λ tells.
    let r = c.requires.table tells in
    let many = c.index_covers.ensures.many c.args.table.now.index r.2.base r.0 r.2.indexes in
    let past : length (block_rows r.2.indexes.blocks) ≤ c.loop-block.block = omega (arith, many, c.loop-block-test.false, c.blocks-block-end.ensures) in
    c.in_ok-append-2.ensures.items
    ∙ all_out c.args.table.now r.0 r.2 c.args.table.now.shown.rows refl c.loop-block.block past c.loop-block.all.items c.loop-block.merge.to_come c.rest-rows.result.items c.loop-block.merge.laid c.loop-block.invariant.laid
    (c.loop-block.invariant.passed tells r.2.base r.0 r.1 r.2.indexes)
    (c.index_covers.ensures.all c.args.table.now.index r.2.base r.0 r.2.indexes) (c.index_covers.ensures.rise c.args.table.now.index r.2.base r.0 r.2.indexes) c.rest-rows.ensures.all
