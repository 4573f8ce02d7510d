use Rattle.std.proofs.Common.{◌≤◌, ◌∙◌, inr, refl, ap, length, arith}
use Rattle.std.proofs.lemmas.List.{take_all}
use Rattle.rdf_disk.specs.AnswerLaws.{on_err}
use Rattle.rdf_volume.specs.Views.{disk_of, restart_of, rows_of}
use Rattle.rdf_volume.specs.Changes.{changed}
use Rattle.takeover_undo.proofs.Batching.{rows_more, either_undone}
use Rattle.takeover_undo.proofs.setting.set_all.Goals as goal

pub returns-in_err-apply-clause-err : goal.returns-in_err-apply-clause-err
returns-in_err-apply-clause-err g c = λ tells.
    let inv = c.loop-done.invariant in
    let v = c.loop-done.volume in
    let first = c.args.volume.now in
    let undo = c.args.undo.now in
    let done = c.loop-done.done in
    let end = c.batch_end-end.result in
    let more = rows_more undo done end (rows_of first) (rows_of v) _ c.batch_end-end.ensures.behind inv.rows refl in
    on_err c.from_residual.result _
    (either_undone undo (rows_of first) (restart_of first) c.args.low done end (restart_of v) (rows_of v) _ (g.D.Disk.files (disk_of c.apply.new.self)) inv.done c.batch_end-end.ensures.within inv.point inv.rows more (c.in_err-apply.ensures.err tells))

pub returns-then-done-undo-clause-rows : goal.returns-then-done-undo-clause-rows
returns-then-done-undo-clause-rows g c =
    let inv = c.loop-done.invariant in
    let v = c.loop-done.volume in
    let first = c.args.volume.now in
    let undo = c.args.undo.now in
    let done = c.loop-done.done in
    let end = c.batch_end-end.result in
    let all : length undo ≤ end = omega (arith, c.if-done-undo.true) in
    c.in_ok-apply.ensures.rows ∙ rows_more undo done end (rows_of first) (rows_of v) _ c.batch_end-end.ensures.behind inv.rows refl ∙ ap (changed (rows_of first)) (take_all end undo all)

pub loop-done-preserved : goal.loop-done-preserved
loop-done-preserved g c =
    let inv = c.loop-done.invariant in
    let v = c.loop-done.volume in
    let first = c.args.volume.now in
    record {
      in_use = λ tells. c.in_ok-apply.ensures.ok tells;
      done = c.batch_end-end.ensures.within;
      point = inr c.in_ok-apply.ensures.restart;
      rows = c.in_ok-apply.ensures.rows ∙ rows_more c.args.undo.now c.loop-done.done c.batch_end-end.result (rows_of first) (rows_of v) _ c.batch_end-end.ensures.behind inv.rows refl;
      file = c.in_ok-apply.ensures.file ∙ inv.file;
      counts = c.in_ok-apply.ensures.cause ∙ inv.counts;
    }
