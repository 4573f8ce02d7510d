use Rattle.std.proofs.Common.{◌∙◌, sym, ap}
use Rattle.plan_lang.specs.LineReading.{next}
use Rattle.plan_lang.proofs.PieceLaws.{words_found, words_last, some_from}
use Rattle.plan_lang.proofs.line_words.Words.next.Goals as goal

pub returns-then-not-is_empty : goal.returns-then-not-is_empty
returns-then-not-is_empty c =
    ap next (sym c.loop-word.invariant ∙ words_found c.loop-word.rest.now c.in-Some.word.now c.in-Some.behind.now c.in-Some.ensures.value (some_from c.in-Some.word.now (sym c.is_empty.ensures ∙ c.if-not-is_empty.true)))

pub returns : goal.returns
returns c = ap next (sym c.loop-word.invariant ∙ words_last c.loop-word.rest.now c.in_default.ensures.value (some_from c.loop-word.rest.now (sym c.is_empty-2.ensures ∙ c.if-is_empty.false)))
