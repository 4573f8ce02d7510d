use Rattle.std.proofs.Common.{◌+◌, ◌∙◌, ap, refl, take, Ok, arith}
use Rattle.std.proofs.lemmas.Grind.{take-set_at, common_steps}
use Rattle.std.proofs.lemmas.Result.{err_from_is_err_and}
use Rattle.plan_lang.specs.LineReading.{words_left}
use Rattle.plan_lang.specs.Grammar.{numbers_at}
use Rattle.plan_lang.proofs.DigitLoop.{goes_on, ends, is_done}
use Rattle.plan_lang.proofs.header_reading.digits_at.Goals as goal

pub returns-in_err-digit : goal.returns-in_err-digit
returns-in_err-digit c =
    let p = err_from_is_err_and c.from_residual.result c.from_residual.ensures.1 in
    rw (p.1, p.2) (ends c.args.top c.args.count c.loop-i.i (take c.loop-i.i c.loop-i.digits) (words_left c.loop-i.words) _ (numbers_at 0 c.args.top c.args.count (words_left c.args.words)) c.loop-i-test.true c.in_err-digit.ensures.value c.loop-i.invariant.so_far)

pub loop-i-preserved : goal.loop-i-preserved
loop-i-preserved c = record {
  size = grind (arith, common_steps);
  so_far = goes_on c.args.top c.args.count c.loop-i.i c.in_ok-digit.digit (take c.loop-i.i c.loop-i.digits) _ (words_left c.loop-i.words) (words_left c.in_ok-digit.behind) (numbers_at 0 c.args.top c.args.count (words_left c.args.words)) c.loop-i-test.true
      (take-set_at c.loop-i.digits c.loop-i.i (c.loop-i.i + 1) c.in_ok-digit.digit refl (omega arith)) c.in_ok-digit.ensures.value c.loop-i.invariant.so_far;
}

pub returns : goal.returns
returns c =
    is_done c.args.top c.args.count c.loop-i.i (take c.loop-i.i c.loop-i.digits) (words_left c.loop-i.words) (numbers_at 0 c.args.top c.args.count (words_left c.args.words)) (omega arith) c.loop-i.invariant.so_far
    ∙ ap (λ n. Ok (take n c.loop-i.digits)) (omega arith)
