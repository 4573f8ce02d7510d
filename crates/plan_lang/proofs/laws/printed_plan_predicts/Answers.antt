use Rattle.plan_lang.proofs.PlanLaws.{reads_for_predict}
use Rattle.plan_lang.proofs.laws.printed_plan_predicts.Goals as goal

pub returns : goal.returns
returns c = reads_for_predict
