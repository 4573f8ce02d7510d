use Rattle.plan_lang.proofs.PlanLaws.{text_tells}
use Rattle.plan_lang.proofs.laws.text_tells_plan.Goals as goal

pub returns : goal.returns
returns c = text_tells
