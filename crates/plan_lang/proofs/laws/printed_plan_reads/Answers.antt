use Rattle.plan_lang.proofs.PlanLaws.{reads}
use Rattle.plan_lang.proofs.laws.printed_plan_reads.Goals as goal

pub returns : goal.returns
returns c = reads
