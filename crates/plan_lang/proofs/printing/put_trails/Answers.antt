use Rattle.std.proofs.Common.{decimal, codes, arith}
use Rattle.plan_lang.proofs.Spacing.{line-done}
use Rattle.plan_lang.proofs.printing.put_trails.Goals as goal

pub returns : goal.returns
returns c = line-done decimal (codes "trail") c.args.trails.now c.loop-trail.trail-index c.args.out.now.items c.loop-trail.out.items _ c.put_end.result (omega arith) c.loop-trail.invariant c.put_end.ensures
