use Rattle.std.proofs.Common.{◌≡◌, ◌++◌, ◌-◌}
use Rattle.plan_gen.specs.Generated.{changes, changed}
use Rattle.plan_gen.proofs.transactions.put_changes.Given as goal

abbrev pub invariant-loop : goal.invariant-loop
invariant-loop l = record {
  lines : l.lines ++ changes (l.count - l.counter) l.txn l.draws ≡ l.fn.lines ++ changes l.count l.txn l.fn.draws;
  draws : changed (l.count - l.counter) l.draws ≡ changed l.count l.fn.draws;
}
