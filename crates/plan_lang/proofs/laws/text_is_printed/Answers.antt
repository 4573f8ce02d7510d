use Rattle.plan_lang.proofs.TextLaws.{is_printed_line}
use Rattle.plan_lang.proofs.laws.text_is_printed.Goals as goal

pub returns : goal.returns
returns c = is_printed_line
