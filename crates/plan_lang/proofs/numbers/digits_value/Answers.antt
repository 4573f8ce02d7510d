use Rattle.std.proofs.Common.{◌∙◌, sym, ap}
use Rattle.std.specs.Result.{result_ok}
use Rattle.plan_lang.specs.Numbers.{is_numeral, number_in}
use Rattle.plan_lang.proofs.NumberLaws.{digits-utf8, parsed}
use Rattle.plan_lang.proofs.numbers.digits_value.Goals as goal

pub unreachable-requires : goal.unreachable-requires
unreachable-requires c = c.in-Err.ensures.cases.0 (digits-utf8 c.args.digits.now c.requires)

pub returns-in-Ok-parse : goal.returns-in-Ok-parse
returns-in-Ok-parse c = record {
  value =
      let e = c.in-Ok.ensures.cases.0 in
      ap result_ok (sym c.in-Ok-parse.is) ∙ parsed c.in-Ok.text.now c.parse.result (ap is_numeral e ∙ c.requires) c.parse.ensures.value.0 ∙ ap number_in e;
}

pub returns-in-Err-parse : goal.returns-in-Err-parse
returns-in-Err-parse c = record {
  value =
      let e = c.in-Ok.ensures.cases.0 in
      ap result_ok (sym c.in-Err-parse.is) ∙ parsed c.in-Ok.text.now c.parse.result (ap is_numeral e ∙ c.requires) c.parse.ensures.value.0 ∙ ap number_in e;
}
