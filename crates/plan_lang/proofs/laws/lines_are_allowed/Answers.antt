use Rattle.plan_lang.proofs.TextLaws.{are_allowed}
use Rattle.plan_lang.proofs.laws.lines_are_allowed.Goals as goal

pub returns : goal.returns
returns c = are_allowed
