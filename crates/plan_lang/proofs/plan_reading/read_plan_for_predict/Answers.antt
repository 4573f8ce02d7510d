use Rattle.std.proofs.Common.{false}
use Rattle.plan_lang.proofs.PlanLaws.{found, without_fuses, is_bad, no_memory}
use Rattle.plan_lang.proofs.plan_reading.read_plan_for_predict.Goals as goal

pub returns-clause-found : goal.returns-clause-found
returns-clause-found c = found false c.args.bytes.now c.plan_of.result c.plan_of.ensures

pub returns-clause-bad : goal.returns-clause-bad
returns-clause-bad c = is_bad false c.args.bytes.now c.plan_of.result c.plan_of.ensures

pub returns-clause-no_memory : goal.returns-clause-no_memory
returns-clause-no_memory c = no_memory false c.args.bytes.now c.plan_of.result c.plan_of.ensures

pub returns-clause-no_fuse : goal.returns-clause-no_fuse
returns-clause-no_fuse c = without_fuses c.args.bytes.now c.plan_of.result c.plan_of.ensures
