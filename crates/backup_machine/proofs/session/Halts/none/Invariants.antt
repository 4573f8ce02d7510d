use Rattle.std.proofs.Common.{◌≡◌, ◌++◌, drop, false, map}
use Rattle.backup_machine.proofs.session.Halts.none.Given as goal

abbrev pub invariant-loop-point : goal.invariant-loop-point
invariant-loop-point l = map (λ _. false) l.all ≡ l.flags.items ++ map (λ _. false) (drop l._point-index l.all)
