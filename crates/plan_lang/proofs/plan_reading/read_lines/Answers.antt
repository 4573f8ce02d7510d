use Rattle.std.proofs.Common.{◌∙◌, sym, ap, None}
use Rattle.std.specs.Result.{is_ok}
use Rattle.std.proofs.lemmas.Result.{err_from_is_err_and}
use Rattle.plan_lang.specs.LineShown.{line_of}
use Rattle.plan_lang.specs.TextShown.{next_of}
use Rattle.plan_lang.specs.Words.{lines_in}
use Rattle.plan_lang.specs.Grammar.{lines_from}
use Rattle.plan_lang.proofs.LineLoop.{bad_next, bad_line, goes_on, at_end, not_ended, all_read, finished}
use Rattle.plan_lang.proofs.plan_reading.read_lines.Goals as goal

pub returns-in_err-number : goal.returns-in_err-number
returns-in_err-number c =
    let total = lines_from c.args.fuses c.args.backups None 0 c.args.text.number (lines_in c.args.text.rest.now) in
    let p = err_from_is_err_and c.from_residual.result c.from_residual.ensures.1 in
    rw (p.1, p.2) (bad_next c.args.fuses c.args.backups c.loop-lines.session c.loop-lines.since c.loop-lines.text.number (lines_in c.loop-lines.text.rest.now) total c.loop-lines.lines _ c.in_err-number.ensures.value c.loop-lines.invariant)

pub returns-in_err-check_ended : goal.returns-in_err-check_ended
returns-in_err-check_ended c =
    let total = lines_from c.args.fuses c.args.backups None 0 c.args.text.number (lines_in c.args.text.rest.now) in
    let p = err_from_is_err_and c.from_residual-in_err-check_ended.result c.from_residual-in_err-check_ended.ensures.1 in
    let e = at_end c.args.fuses c.args.backups c.loop-lines.session c.loop-lines.since c.loop-lines.text.number (lines_in c.loop-lines.text.rest.now) total c.loop-lines.lines (next_of c.in_ok-number.field-0) c.in_ok-number.ensures.value (sym c.has_count.ensures ∙ c.if-has_count.true) c.loop-lines.invariant in
    rw (p.1, p.2) (not_ended c.loop-lines.session c.loop-lines.since _ total c.loop-lines.lines c.in_err-check_ended.ensures e)

pub returns-in_err-lines : goal.returns-in_err-lines
returns-in_err-lines c =
    let total = lines_from c.args.fuses c.args.backups None 0 c.args.text.number (lines_in c.args.text.rest.now) in
    let p = err_from_is_err_and c.from_residual-in_err-lines.result c.from_residual-in_err-lines.ensures.1 in
    let e = at_end c.args.fuses c.args.backups c.loop-lines.session c.loop-lines.since c.loop-lines.text.number (lines_in c.loop-lines.text.rest.now) total c.loop-lines.lines (next_of c.in_ok-number.field-0) c.in_ok-number.ensures.value (sym c.has_count.ensures ∙ c.if-has_count.true) c.loop-lines.invariant in
    rw (p.1, p.2) (ap is_ok (all_read c.loop-lines.session c.loop-lines.since total c.loop-lines.lines c.in_ok-check_ended.ensures e))

pub returns-then-has_count : goal.returns-then-has_count
returns-then-has_count c =
    let total = lines_from c.args.fuses c.args.backups None 0 c.args.text.number (lines_in c.args.text.rest.now) in
    let e = at_end c.args.fuses c.args.backups c.loop-lines.session c.loop-lines.since c.loop-lines.text.number (lines_in c.loop-lines.text.rest.now) total c.loop-lines.lines (next_of c.in_ok-number.field-0) c.in_ok-number.ensures.value (sym c.has_count.ensures ∙ c.if-has_count.true) c.loop-lines.invariant in
    finished c.loop-lines.session c.loop-lines.since total c.loop-lines.lines c.in_ok-lines.field-0 c.in_ok-check_ended.ensures c.in_ok-lines.was e

pub returns-in_err-line : goal.returns-in_err-line
returns-in_err-line c =
    let total = lines_from c.args.fuses c.args.backups None 0 c.args.text.number (lines_in c.args.text.rest.now) in
    let p = err_from_is_err_and c.from_residual-in_err-line.result c.from_residual-in_err-line.ensures.1 in
    rw (p.1, p.2) (bad_line c.args.fuses c.args.backups c.loop-lines.session c.loop-lines.since c.loop-lines.text.number (lines_in c.loop-lines.text.rest.now) total c.loop-lines.lines (next_of c.in_ok-number.field-0) _ c.in_ok-number.ensures.value (sym c.has_count.ensures ∙ c.if-has_count.false) c.in_err-line.ensures c.loop-lines.invariant)

pub loop-lines-preserved : goal.loop-lines-preserved
loop-lines-preserved c =
    let total = lines_from c.args.fuses c.args.backups None 0 c.args.text.number (lines_in c.args.text.rest.now) in
    rw (c.session_after-session.ensures, c.since_after-since.ensures) (goes_on c.args.fuses c.args.backups c.loop-lines.session c.loop-lines.since c.loop-lines.text.number (lines_in c.loop-lines.text.rest.now) total c.loop-lines.lines (next_of c.in_ok-number.field-0) (line_of c.in_ok-line.line) c.with_line-lines.result
    c.in_ok-number.ensures.value (sym c.has_count.ensures ∙ c.if-has_count.false) c.in_ok-line.ensures c.with_line-lines.ensures c.loop-lines.invariant)
