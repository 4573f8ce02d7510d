use Rattle.std.proofs.Common.{None, ◌∙◌, sym}
use Rattle.plan_lang.proofs.NumberLaws.{number_found, number_none, number_not}
use Rattle.plan_lang.proofs.numbers.number_of.Goals as goal

pub returns-then-not-looks_like_number-clause-none : goal.returns-then-not-looks_like_number-clause-none
returns-then-not-looks_like_number-clause-none c = number_none c.args.word.now None (number_not c.args.word.now (sym c.looks_like_number.ensures ∙ c.if-not-looks_like_number.true))

pub returns-clause-found : goal.returns-clause-found
returns-clause-found c = number_found c.args.word.now c.digits_value.result c.digits_value.ensures.value

pub returns-clause-none : goal.returns-clause-none
returns-clause-none c = number_none c.args.word.now c.digits_value.result c.digits_value.ensures.value
