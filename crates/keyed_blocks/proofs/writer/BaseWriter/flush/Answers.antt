use Rattle.std.proofs.Common.{◌<◌, ℕ, length, sym, ◌∙◌, ap, subst, arith}
use Rattle.rdf_disk.specs.AnswerLaws.{on_err}
use Rattle.rdf_codec.specs.VolumeReading.{volume_block_of}
use Rattle.rdf_gatelog.specs.Adding.{AdditionPlace}
use Rattle.keyed_blocks.specs.Bases.{entry_of}
use Rattle.keyed_blocks.specs.Writing.{WriterView, AreWritten}
use Rattle.keyed_blocks.specs.WritingLaws.{are_durably}
use Rattle.keyed_blocks.proofs.AddedLaws.{flushed}
use Rattle.keyed_blocks.proofs.writer.BaseWriter.flush.Goals as goal

pub returns-in_err-payload-clause-err : goal.returns-in_err-payload-clause-err
returns-in_err-payload-clause-err g c = λ tells. on_err c.from_residual.result _ (λ logs rows w. are_durably logs c.args.self.now rows (g.D.Disk.files c.args.disk.now) w)

pub returns-in_err-entry-clause-err : goal.returns-in_err-entry-clause-err
returns-in_err-entry-clause-err g c = λ tells. on_err c.from_residual-in_err-entry.result _ (λ logs rows w. are_durably logs c.args.self.now rows (g.D.Disk.files c.args.disk.now) w)

pub returns-in_err-push-clause-err : goal.returns-in_err-push-clause-err
returns-in_err-push-clause-err g c = λ tells. on_err c.from_residual-in_err-push.result _ (λ logs rows w. are_durably logs c.args.self.now rows (g.D.Disk.files c.args.disk.now) w)

pub returns-in_err-push-2-clause-err : goal.returns-in_err-push-2-clause-err
returns-in_err-push-2-clause-err g c = λ tells. on_err c.from_residual-in_err-push-2.result _ (λ logs rows w.
    let v = subst (λ (v : WriterView). AreWritten logs v rows (g.D.Disk.files c.args.disk.now)) (sym c.self.view_is) w in
    c.in_err-push-2.ensures.err tells logs v.blocks v.adding)

pub returns-clause-ok : goal.returns-clause-ok
returns-clause-ok g c = λ tells logs rows w.
    let v = subst (λ (v : WriterView). AreWritten logs v rows (g.D.Disk.files c.args.disk.now)) (sym c.self.view_is) w in
    let some : 0 < length c.self.inside.pending = omega (arith, c.requires.some, ap (λ (v : WriterView). length v.pending) c.self.view_is) in
    flushed logs rows (g.D.Disk.files c.args.disk.now) (g.D.Disk.files c.push-2.new.disk) c.self.inside.addition c.push-2.new.addition c.self.inside.entries.items c.push.new.self.items c.self.inside.rows
    c.deref.result.now c.in_ok-entry.entry c.clear.new.self c.self.inside.pending some
    (ap volume_block_of c.deref.ensures.value ∙ c.in_ok-payload.ensures.block)
    (λ row rest is. c.in_ok-entry.ensures row rest is ∙ ap (λ (at : ℕ). entry_of at row) c.end.ensures)
    c.in_ok-push.ensures.items c.clear.ensures (ap (λ (p : AdditionPlace). p.file) c.in_ok-push-2.ensures.end) v (c.in_ok-push-2.ensures.ok tells logs v.blocks v.adding)
