use Rattle.std.proofs.Common.{codes, arith}
use Rattle.plan_lang.specs.PlanText.{flag_text}
use Rattle.plan_lang.proofs.Spacing.{line-done}
use Rattle.plan_lang.proofs.printing.put_flags.Goals as goal

pub returns : goal.returns
returns c = line-done flag_text (codes "protect") c.args.flags.now c.loop-flag.flag-index c.args.out.now.items c.loop-flag.out.items _ c.put_end.result (omega arith) c.loop-flag.invariant c.put_end.ensures
