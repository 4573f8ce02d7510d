use Rattle.std.proofs.Common.{sym, subst}
use Rattle.rdf_disk.specs.AnswerLaws.{on_err}
use Rattle.keyed_blocks.specs.Buffers.{IsSomeAdding}
use Rattle.keyed_blocks.specs.Writing.{WriterView}
use Rattle.keyed_blocks.proofs.AddedLaws.{no_base, some_adding}
use Rattle.keyed_blocks.proofs.writer.BaseWriter.finish.Goals as goal

pub returns-in_err-flush_rest-clause-err : goal.returns-in_err-flush_rest-clause-err
returns-in_err-flush_rest-clause-err g c = λ tells. on_err c.from_residual.result _ (λ logs rows w.
    no_base logs c.args.self.addition.file rows c.args.restart (g.D.Disk.files c.flush_rest.new.disk) (c.in_err-flush_rest.ensures.err tells logs rows w.are))

pub end_base-requires : goal.end_base-requires
end_base-requires g c = record {
  adding = λ tells.
      let s = c.requires.writing tells in
      let w = c.in_ok-flush_rest.ensures.ok tells s.0 s.1 s.2.are in
      subst (λ (v : WriterView). IsSomeAdding v.addition (g.D.Disk.files c.flush_rest.new.disk)) (sym c.writer.view_is) (some_adding s.0 c.flush_rest.new.self s.1 (g.D.Disk.files c.flush_rest.new.disk) w);
}
