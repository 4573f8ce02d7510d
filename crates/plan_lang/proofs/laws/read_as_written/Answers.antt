use Rattle.plan_lang.proofs.PlanLaws.{both_ways}
use Rattle.plan_lang.proofs.laws.read_as_written.Goals as goal

pub returns : goal.returns
returns c = both_ways
