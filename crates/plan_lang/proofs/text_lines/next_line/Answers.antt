use Rattle.std.proofs.Common.{Ok, ◌∙◌, sym, ap, arith}
use Rattle.std.proofs.lemmas.Result.{err_from_is_err_and}
use Rattle.plan_lang.specs.LineReading.{words_left}
use Rattle.plan_lang.specs.Words.{lines_in}
use Rattle.plan_lang.specs.Grammar.{Next}
use Rattle.plan_lang.proofs.NextLaws.{next_bad, next_comment, next_words, at_end}
use Rattle.plan_lang.proofs.text_lines.next_line.Goals as goal

pub returns-in_err-words-clause-value : goal.returns-in_err-words-clause-value
returns-in_err-words-clause-value c =
    let p = err_from_is_err_and c.from_residual.result c.from_residual.ensures.1 in
    rw (p.1, p.2) (sym c.loop-rest.invariant.same ∙ next_bad c.loop-rest.number c.first_line.result.0.now (lines_in c.first_line.result.1.now) (lines_in c.loop-rest.rest.now) _ c.first_line.ensures.value c.in_err-words.ensures.value)

pub returns-then-not-has_count-clause-value : goal.returns-then-not-has_count-clause-value
returns-then-not-has_count-clause-value c =
    sym c.loop-rest.invariant.same
    ∙ next_words c.loop-rest.number c.first_line.result.0.now (lines_in c.first_line.result.1.now) (lines_in c.loop-rest.rest.now) (words_left c.in_ok-words.words) c.first_line.ensures.value c.in_ok-words.ensures.value (sym c.has_count.ensures ∙ c.if-not-has_count.true)
    ∙ ap (λ (x : Next). Ok x) (sym c.found.ensures)

pub loop-rest-preserved : goal.loop-rest-preserved
loop-rest-preserved c = record {
  same =
      sym (next_comment c.loop-rest.number c.first_line.result.0.now (lines_in c.first_line.result.1.now) (lines_in c.loop-rest.rest.now) (words_left c.in_ok-words.words) c.first_line.ensures.value c.in_ok-words.ensures.value (sym c.has_count.ensures ∙ c.if-not-has_count.false))
      ∙ c.loop-rest.invariant.same;
  further = omega arith;
  few = omega (arith, c.in_ok-words.ensures.few);
}

pub returns-clause-value : goal.returns-clause-value
returns-clause-value c = sym c.loop-rest.invariant.same ∙ at_end c.loop-rest.number c.loop-rest.rest.now (sym c.is_empty.ensures ∙ c.loop-rest-test.false)
