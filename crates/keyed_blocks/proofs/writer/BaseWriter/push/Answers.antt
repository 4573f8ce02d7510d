use Rattle.rdf_disk.specs.AnswerLaws.{on_err}
use Rattle.keyed_blocks.specs.WritingLaws.{are_durably, writing_durably}
use Rattle.keyed_blocks.proofs.AddedLaws.{kept_ok, kept_last}
use Rattle.keyed_blocks.proofs.writer.BaseWriter.push.Goals as goal

pub returns-then-has_room-clause-ok : goal.returns-then-has_room-clause-ok
returns-then-has_room-clause-ok g c = λ tells.
    kept_ok c.args.self.now c.args.self.now c.keep.new.self c.args.row (g.D.Disk.files c.args.disk.now) (g.D.Disk.files c.args.disk.now) c.keep.result c.keep.ensures.ok c.requires.above (λ logs rows w. w)

pub returns-then-has_room-clause-err : goal.returns-then-has_room-clause-err
returns-then-has_room-clause-err g c = λ tells. on_err c.keep.result _ (λ logs rows w. writing_durably logs c.args.self.now rows (g.D.Disk.files c.args.disk.now) w)

pub returns-then-has_room-clause-last : goal.returns-then-has_room-clause-last
returns-then-has_room-clause-last g c = kept_last c.args.self.now c.args.self.now c.keep.new.self c.args.row (g.D.Disk.files c.args.disk.now) (g.D.Disk.files c.args.disk.now) c.keep.result c.keep.ensures.ok

pub returns-in_err-flush-clause-err : goal.returns-in_err-flush-clause-err
returns-in_err-flush-clause-err g c = λ tells. on_err c.from_residual.result _ (λ logs rows w. c.in_err-flush.ensures.err tells logs rows w.are)

pub returns-clause-ok : goal.returns-clause-ok
returns-clause-ok g c = λ tells.
    kept_ok c.args.self.now c.flush.new.self c.keep-2.new.self c.args.row (g.D.Disk.files c.args.disk.now) (g.D.Disk.files c.flush.new.disk) c.keep-2.result c.keep-2.ensures.ok c.requires.above
    (c.in_ok-flush.ensures.ok tells)

pub returns-clause-err : goal.returns-clause-err
returns-clause-err g c = λ tells. on_err c.keep-2.result _ (λ logs rows w. are_durably logs c.flush.new.self rows (g.D.Disk.files c.flush.new.disk) (c.in_ok-flush.ensures.ok tells logs rows w.are))
