use Rattle.std.proofs.Common.{true}
use Rattle.plan_lang.proofs.PlanLaws.{found, is_bad, no_memory}
use Rattle.plan_lang.proofs.plan_reading.read_plan.Goals as goal

pub returns-clause-found : goal.returns-clause-found
returns-clause-found c = found true c.args.bytes.now c.plan_of.result c.plan_of.ensures

pub returns-clause-bad : goal.returns-clause-bad
returns-clause-bad c = is_bad true c.args.bytes.now c.plan_of.result c.plan_of.ensures

pub returns-clause-no_memory : goal.returns-clause-no_memory
returns-clause-no_memory c = no_memory true c.args.bytes.now c.plan_of.result c.plan_of.ensures
