use Rattle.std.proofs.Common.{◌+◌, ◌≤◌, List, ◌++◌, length, take, [], refl, sym, ◌∙◌, ap, subst, arith}
use Rattle.std.proofs.lemmas.Result.{err_from_is_err_and, on_err_weaker, on_ok_weaker}
use Rattle.rdf_disk.specs.AnswerLaws.{on_err, passed_on}
use Rattle.rdf_types.specs.declared.records.Row.{Row}
use Rattle.keyed_blocks.specs.Bases.{block_rows, rises}
use Rattle.keyed_blocks.specs.Indexes.{joined}
use Rattle.keyed_blocks.specs.Writing.{IsWriting}
use Rattle.keyed_blocks.specs.WritingLaws.{writing_same, writing_durably, writing_looked}
use Rattle.rdf_volume.proofs.FillingLaws.{cut_stands, old_indexed, old_at_rest, all_out}
use Rattle.rdf_volume.proofs.ScanLaws.{out_rises, passed_as}
use Rattle.rdf_volume.proofs.next_base.push_table.Goals as goal

pub returns-in_err-merge-clause-err : goal.returns-in_err-merge-clause-err
returns-in_err-merge-clause-err g c = λ tells. on_err c.from_residual.result _ (λ kept f.
    cut_stands f.filling.logs kept f.filling.before (g.D.Disk.files c.args.disk.now) (writing_durably f.filling.logs c.args.writer.now [] (g.D.Disk.files c.args.disk.now) f.filling.writing))

pub next_rows-requires-clause-base : goal.next_rows-requires-clause-base
next_rows-requires-clause-base g c = λ tells.
    let k = c.requires.fills tells in
    let s = c.loop-block.invariant.so_far tells k.0 k.1 in
    old_indexed c.args.log.now c.args.table.now k.0 c.args.writer.now c.loop-block.writer (g.D.Disk.files c.args.disk.now) (g.D.Disk.files c.loop-block.disk) k.1 s.out s.writing c.loop-block.invariant.file

pub returns-in_err-rows-clause-err : goal.returns-in_err-rows-clause-err
returns-in_err-rows-clause-err g c = λ tells. on_err c.from_residual-in_err-rows.result _ (λ kept f.
    let s = c.loop-block.invariant.so_far tells kept f in
    cut_stands f.filling.logs kept f.filling.before (g.D.Disk.files c.next_rows.new.disk)
    (writing_looked c.next_rows.result f.filling.logs c.loop-block.writer s.out (g.D.Disk.files c.loop-block.disk) (g.D.Disk.files c.next_rows.new.disk) (c.next_rows.ensures.files tells) s.writing))

pub push_all-requires : goal.push_all-requires
push_all-requires g c = record {
  writing = λ tells.
      let k = c.requires.fills tells in
      let s = c.loop-block.invariant.so_far tells k.0 k.1 in
      (k.1.filling.logs, s.out, writing_same k.1.filling.logs c.loop-block.writer s.out (g.D.Disk.files c.loop-block.disk) (g.D.Disk.files c.next_rows.new.disk) (c.in_ok-rows.ensures.files tells) s.writing);
}

pub returns-in_err-push_all-clause-err : goal.returns-in_err-push_all-clause-err
returns-in_err-push_all-clause-err g c = λ tells. on_err c.from_residual-in_err-push_all.result _ (λ kept f.
    let s = c.loop-block.invariant.so_far tells kept f in
    cut_stands f.filling.logs kept f.filling.before (g.D.Disk.files c.push_all.new.disk)
    (c.in_err-push_all.ensures.err tells f.filling.logs s.out
    (writing_same f.filling.logs c.loop-block.writer s.out (g.D.Disk.files c.loop-block.disk) (g.D.Disk.files c.next_rows.new.disk) (c.in_ok-rows.ensures.files tells) s.writing)))

pub returns-in_err-push_all-clause-sound : goal.returns-in_err-push_all-clause-sound
returns-in_err-push_all-clause-sound g c = λ tells file at is.
    let k = c.requires.fills tells in
    let f = k.1 in
    let s = c.loop-block.invariant.so_far tells k.0 f in
    let r = err_from_is_err_and c.from_residual-in_err-push_all.result c.from_residual-in_err-push_all.ensures.1 in
    let rest = old_at_rest c.args.log.now c.args.table.now k.0 c.args.writer.now c.loop-block.writer (g.D.Disk.files c.args.disk.now) (g.D.Disk.files c.loop-block.disk) f s.out s.writing c.loop-block.invariant.file in
    let came = c.in_ok-rows.ensures.ok tells f.table_is.base s.out f.open_is.payloads rest f.table_is.indexes
    (passed_as c.args.table.now.overlay c.loop-block.merge.laid (joined (take c.loop-block.block (block_rows f.table_is.indexes.blocks))) s.out s.out c.loop-block.merge.to_come (sym c.loop-block.invariant.laid) refl s.passed) in
    c.in_err-push_all.ensures.sound tells f.filling.logs s.out
    (writing_same f.filling.logs c.loop-block.writer s.out (g.D.Disk.files c.loop-block.disk) (g.D.Disk.files c.next_rows.new.disk) (c.in_ok-rows.ensures.files tells) s.writing)
    (out_rises c.loop-block.merge.laid (block_rows f.table_is.indexes.blocks) (c.loop-block.block + 1) f.table_is.base (s.out ++ c.in_ok-rows.rows.items) c.next_rows.new.merge.to_come
    (c.index_covers.ensures.all c.args.table.now.index f.table_is.base f.open_is.payloads f.table_is.indexes) (c.index_covers.ensures.rise c.args.table.now.index f.table_is.base f.open_is.payloads f.table_is.indexes) c.passed_rises.ensures came)
    file at (passed_on _ _ r.0 _ r.1 r.2 is)

pub loop-block-preserved : goal.loop-block-preserved
loop-block-preserved g c = record {
  so_far = λ tells kept f.
      let s = c.loop-block.invariant.so_far tells kept f in
      let rest = old_at_rest c.args.log.now c.args.table.now kept c.args.writer.now c.loop-block.writer (g.D.Disk.files c.args.disk.now) (g.D.Disk.files c.loop-block.disk) f s.out s.writing c.loop-block.invariant.file in
      let came = c.in_ok-rows.ensures.ok tells f.table_is.base s.out f.open_is.payloads rest f.table_is.indexes
      (passed_as c.args.table.now.overlay c.loop-block.merge.laid (joined (take c.loop-block.block (block_rows f.table_is.indexes.blocks))) s.out s.out c.loop-block.merge.to_come (sym c.loop-block.invariant.laid) refl s.passed) in
      record {
        out = s.out ++ c.in_ok-rows.rows.items;
        writing = c.in_ok-push_all.ensures.ok tells f.filling.logs s.out
            (writing_same f.filling.logs c.loop-block.writer s.out (g.D.Disk.files c.loop-block.disk) (g.D.Disk.files c.next_rows.new.disk) (c.in_ok-rows.ensures.files tells) s.writing);
        passed = passed_as c.loop-block.merge.laid c.args.table.now.overlay (joined (take (c.loop-block.block + 1) (block_rows f.table_is.indexes.blocks))) (s.out ++ c.in_ok-rows.rows.items) (s.out ++ c.in_ok-rows.rows.items)
            c.next_rows.new.merge.to_come c.loop-block.invariant.laid refl came;
      };
  laid = c.in_ok-rows.ensures.laid ∙ c.loop-block.invariant.laid;
  file = c.push_all.ensures.file ∙ c.loop-block.invariant.file;
  counts = c.in_ok-push_all.ensures.cause ∙ c.in_ok-rows.ensures.cause ∙ c.loop-block.invariant.counts;
}

pub push_all-requires-2 : goal.push_all-requires-2
push_all-requires-2 g c = record {
  writing = λ tells.
      let k = c.requires.fills tells in
      let s = c.loop-block.invariant.so_far tells k.0 k.1 in
      (k.1.filling.logs, s.out, s.writing);
}

pub returns-clause-ok : goal.returns-clause-ok
returns-clause-ok g c = λ tells. on_ok_weaker c.push_all-2.result (λ holds kept f.
    let s = c.loop-block.invariant.so_far tells kept f in
    let many = c.index_covers.ensures.many c.args.table.now.index f.table_is.base f.open_is.payloads f.table_is.indexes in
    let past : length (block_rows f.table_is.indexes.blocks) ≤ c.loop-block.block = omega (arith, many, c.loop-block-test.false, c.blocks-block-end.ensures) in
    record {
      logs = f.filling.logs;
      before = f.filling.before;
      writing = subst (λ (l : List Row). IsWriting f.filling.logs c.push_all-2.new.writer l (g.D.Disk.files c.push_all-2.new.disk))
          (all_out c.args.table.now f.open_is.payloads f.table_is kept.rows f.rows_are c.loop-block.block past s.out c.loop-block.merge.to_come c.rest.result.items c.loop-block.merge.laid c.loop-block.invariant.laid s.passed
          (c.index_covers.ensures.all c.args.table.now.index f.table_is.base f.open_is.payloads f.table_is.indexes) (c.index_covers.ensures.rise c.args.table.now.index f.table_is.base f.open_is.payloads f.table_is.indexes) c.rest.ensures.all)
          (holds f.filling.logs s.out s.writing);
      file_is = c.push_all-2.ensures.file ∙ c.loop-block.invariant.file ∙ f.filling.file_is;
    }) (c.push_all-2.ensures.ok tells)

pub returns-clause-err : goal.returns-clause-err
returns-clause-err g c = λ tells. on_err_weaker c.push_all-2.result (λ holds kept f.
    let s = c.loop-block.invariant.so_far tells kept f in
    cut_stands f.filling.logs kept f.filling.before (g.D.Disk.files c.push_all-2.new.disk) (holds f.filling.logs s.out s.writing)) (c.push_all-2.ensures.err tells)

pub returns-clause-sound : goal.returns-clause-sound
returns-clause-sound g c = λ tells.
    let k = c.requires.fills tells in
    let f = k.1 in
    let s = c.loop-block.invariant.so_far tells k.0 f in
    let many = c.index_covers.ensures.many c.args.table.now.index f.table_is.base f.open_is.payloads f.table_is.indexes in
    let past : length (block_rows f.table_is.indexes.blocks) ≤ c.loop-block.block = omega (arith, many, c.loop-block-test.false, c.blocks-block-end.ensures) in
    c.push_all-2.ensures.sound tells f.filling.logs s.out s.writing
    (ap rises (all_out c.args.table.now f.open_is.payloads f.table_is k.0.rows f.rows_are c.loop-block.block past s.out c.loop-block.merge.to_come c.rest.result.items c.loop-block.merge.laid c.loop-block.invariant.laid s.passed
    (c.index_covers.ensures.all c.args.table.now.index f.table_is.base f.open_is.payloads f.table_is.indexes) (c.index_covers.ensures.rise c.args.table.now.index f.table_is.base f.open_is.payloads f.table_is.indexes) c.rest.ensures.all)
    ∙ c.list_rises.ensures k.0.rows)
