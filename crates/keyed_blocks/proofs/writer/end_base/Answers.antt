use Rattle.std.proofs.Common.{◌++◌, List, length, ◌∙◌, ap, subst}
use Rattle.rdf_disk.specs.AnswerLaws.{on_err}
use Rattle.rdf_codec.specs.declared.index_entries.IndexEntry.{IndexEntry}
use Rattle.rdf_codec.specs.VolumeReading.{volume_block_of}
use Rattle.rdf_gatelog.specs.AddingLaws.{adding_durably}
use Rattle.rdf_gatelog.specs.LogPlace.{LogPlace}
use Rattle.keyed_blocks.specs.Buffers.{ListsAll}
use Rattle.keyed_blocks.proofs.AddedLaws.{no_base, ended, maybe_ended}
use Rattle.keyed_blocks.proofs.writer.end_base.Goals as goal

pub returns-in_err-index-clause-err : goal.returns-in_err-index-clause-err
returns-in_err-index-clause-err g c = λ tells. on_err c.from_residual.result _ (λ logs all w.
    no_base logs c.args.addition.file all c.args.restart (g.D.Disk.files c.args.disk.now) (adding_durably logs c.args.addition w.blocks (g.D.Disk.files c.args.disk.now) w.adding))

pub returns-in_err-add_index-clause-err : goal.returns-in_err-add_index-clause-err
returns-in_err-add_index-clause-err g c = λ tells. on_err c.from_residual-in_err-add_index.result _ (λ logs all w.
    no_base logs c.args.addition.file all c.args.restart (g.D.Disk.files c.add_index.new.disk) (c.in_err-add_index.ensures.err tells logs w.blocks w.adding))

pub returns-in_err-end-clause-err : goal.returns-in_err-end-clause-err
returns-in_err-end-clause-err g c = λ tells. on_err c.from_residual-in_err-end.result _ (λ logs all w.
    let a = c.in_ok-add_index.ensures.ok tells logs w.blocks w.adding in
    no_base logs c.args.addition.file all c.args.restart (g.D.Disk.files c.add_index.new.disk) (adding_durably logs c.add_index.new.addition (w.blocks ++ a.0) (g.D.Disk.files c.add_index.new.disk) a.2))

pub finish-requires-clause-adding : goal.finish-requires-clause-adding
finish-requires-clause-adding g c = λ tells.
    let s = c.requires.adding tells in
    let a = c.in_ok-add_index.ensures.ok tells s.0 s.1 s.2 in
    (a.2.payloads, s.1 ++ a.0, a.2.adding)

pub returns-in_err-log-clause-err : goal.returns-in_err-log-clause-err
returns-in_err-log-clause-err g c = λ tells. on_err c.from_residual-in_err-log.result _ (λ logs all w.
    let a = c.in_ok-add_index.ensures.ok tells logs w.blocks w.adding in
    let lists : ListsAll c.args.entries.items a.0 = subst (λ (es : List IndexEntry). ListsAll es a.0) (c.entries.ensures ∙ c.in_ok-index.ensures) a.1 in
    maybe_ended logs c.args.addition c.args.entries.items c.args.rows all (g.D.Disk.files c.args.disk.now) w a.0 lists
    c.deref.result.now c.args.restart c.blocks-blocks.result (c.blocks-blocks.ensures ∙ ap (λ (es : List IndexEntry). length es) c.in_ok-index.ensures) (ap volume_block_of c.deref.ensures.value ∙ c.in_ok-end.ensures.block)
    c.add_index.new.addition.file (g.D.Disk.files c.finish.new.disk) c.in_ok-add_index.ensures.file
    (c.in_err-log.ensures.err tells logs (w.blocks ++ a.0) a.2))

pub returns-clause-ok : goal.returns-clause-ok
returns-clause-ok g c = λ tells logs all w.
    let a = c.in_ok-add_index.ensures.ok tells logs w.blocks w.adding in
    let lists : ListsAll c.args.entries.items a.0 = subst (λ (es : List IndexEntry). ListsAll es a.0) (c.entries.ensures ∙ c.in_ok-index.ensures) a.1 in
    ended logs c.args.addition c.args.entries.items c.args.rows all (g.D.Disk.files c.args.disk.now) w a.0 lists
    c.deref.result.now c.args.restart c.blocks-blocks.result (c.blocks-blocks.ensures ∙ ap (λ (es : List IndexEntry). length es) c.in_ok-index.ensures) (ap volume_block_of c.deref.ensures.value ∙ c.in_ok-end.ensures.block)
    c.add_index.new.addition.file c.in_ok-log.log c.in_ok-index.index (g.D.Disk.files c.finish.new.disk) c.in_ok-add_index.ensures.file (ap (λ (l : LogPlace). l.file) c.in_ok-log.ensures.place) c.in_ok-index.ensures
    (c.in_ok-log.ensures.ok tells logs (w.blocks ++ a.0) a.2)
