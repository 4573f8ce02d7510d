use Rattle.plan_lang.proofs.PlanLaws.{one_plan, either, not_both}
use Rattle.plan_lang.proofs.laws.written_or_bad.Goals as goal

pub returns-clause-one : goal.returns-clause-one
returns-clause-one c = one_plan

pub returns-clause-either : goal.returns-clause-either
returns-clause-either c = either

pub returns-clause-not_both : goal.returns-clause-not_both
returns-clause-not_both c = not_both
