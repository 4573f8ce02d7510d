use Rattle.std.proofs.Common.{rules, arith, true, false, ◌∙◌, take, ◌<◌, ◌≤◌, ◌+◌, length, drop}
use Rattle.std.proofs.Common.{◌-◌, length-drop}
use Rattle.std.proofs.lemmas.List.{length-take}
use Rattle.folder_disk.specs.Tracked.{IsHalfFilled, files_of}
use Rattle.folder_disk.proofs.Filling.{filling_fails, filling_stops, filling_more, filled_rest, half_rest}
use Rattle.rdf_disk.specs.AnswerLaws.{on_err}
use Rattle.folder_disk.proofs.Causing.{any_failure, cause_behind, no_failure, short_refused}
use Rattle.folder_disk.proofs.tracked.Tracked.fill.Goals as goal

pub returns-in_err-more-clause-cause : goal.returns-in_err-more-clause-cause
returns-in_err-more-clause-cause g c tells good = any_failure _ _ _ (cause_behind true _ _ _ (c.loop-done.invariant.4 tells good) (c.in_err-more.ensures.cause tells (c.loop-done.invariant.2 ∙ good)))

pub returns-then-more-eq0-clause-cause : goal.returns-then-more-eq0-clause-cause
returns-then-more-eq0-clause-cause g c tells good =
    let some : 0 < length (take (length c.args.bytes.now - c.loop-done.done) (drop c.loop-done.done c.args.bytes.now)) = omega (arith, c.loop-done-test.true, length-take (length c.args.bytes.now - c.loop-done.done) (drop c.loop-done.done c.args.bytes.now), length-drop c.loop-done.done c.args.bytes.now) in
    cause_behind true _ _ _ (c.loop-done.invariant.4 tells good) (short_refused c.in_ok-more.more _ true _ _ (omega (arith, c.if-more-eq0.true)) some (c.in_ok-more.ensures.cause tells (c.loop-done.invariant.2 ∙ good)))

pub returns-in_err-more-clause-err : goal.returns-in_err-more-clause-err
returns-in_err-more-clause-err g c tells =
    let h : IsHalfFilled c.args.file c.args.at (length c.args.bytes.now) (files_of (g.F.Folder.names c.args.self.now.folder)) (files_of (g.F.Folder.names c.fill_some-in-loop-done.new.self.folder)) =
    filling_fails c.args.file c.args.at c.args.bytes.now c.loop-done.done _ (files_of (g.F.Folder.names c.loop-done.self.folder)) _ c.loop-done.invariant.0 (c.requires.due tells).no_gap (c.loop-done.invariant.3 tells) (half_rest c.args.file (c.args.at + c.loop-done.done) c.args.bytes.now c.loop-done.done _ _ (c.in_err-more.ensures.err tells)) in
    on_err c.from_residual-in_err-more.result _ h

pub returns-then-more-eq0-clause-err : goal.returns-then-more-eq0-clause-err
returns-then-more-eq0-clause-err g c tells =
    let within : c.loop-done.done + c.in_ok-more.more ≤ length c.args.bytes.now = omega (arith, c.in_ok-more.ensures.within, c.loop-done.invariant.0, length-take (length c.args.bytes.now - c.loop-done.done) (drop c.loop-done.done c.args.bytes.now), length-drop c.loop-done.done c.args.bytes.now) in
    filling_stops c.args.file c.args.at c.args.bytes.now c.loop-done.done c.in_ok-more.more _ (files_of (g.F.Folder.names c.loop-done.self.folder)) _ within (c.requires.due tells).no_gap (c.loop-done.invariant.3 tells) (filled_rest c.args.file (c.args.at + c.loop-done.done) c.in_ok-more.more c.args.bytes.now c.loop-done.done _ _ (c.in_ok-more.ensures.ok tells))

pub loop-done-preserved : goal.loop-done-preserved
loop-done-preserved g c =
    let within : c.loop-done.done + c.in_ok-more.more ≤ length c.args.bytes.now = omega (arith, c.in_ok-more.ensures.within, c.loop-done.invariant.0, length-take (length c.args.bytes.now - c.loop-done.done) (drop c.loop-done.done c.args.bytes.now), length-drop c.loop-done.done c.args.bytes.now) in (
      within,
      search rules,
      search rules,
      λ tells. filling_more c.args.file c.args.at c.args.bytes.now c.loop-done.done c.in_ok-more.more _ (files_of (g.F.Folder.names c.loop-done.self.folder)) _ (omega (arith, c.if-more-eq0.false)) within (c.requires.due tells).no_gap (c.loop-done.invariant.3 tells) (filled_rest c.args.file (c.args.at + c.loop-done.done) c.in_ok-more.more c.args.bytes.now c.loop-done.done _ _ (c.in_ok-more.ensures.ok tells)),
      λ tells good. cause_behind false _ _ _ (c.loop-done.invariant.4 tells good) (no_failure _ _ _ (c.in_ok-more.ensures.cause tells (c.loop-done.invariant.2 ∙ good))),
      search rules,
    )
