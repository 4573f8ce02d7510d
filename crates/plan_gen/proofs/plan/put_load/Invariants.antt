use Rattle.std.proofs.Common.{◌≡◌, ◌++◌, ◌-◌, ◌+◌}
use Rattle.plan_gen.specs.Generated.{load}
use Rattle.plan_gen.proofs.plan.put_load.Given as goal

abbrev pub invariant-loop-done : goal.invariant-loop-done
invariant-loop-done l = l.lines ++ load (l.txns - l.done) (l.done + 1) l.draws ≡ l.fn.lines ++ load l.txns 1 l.seed
