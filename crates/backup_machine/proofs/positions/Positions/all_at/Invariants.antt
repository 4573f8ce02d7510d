use Rattle.std.proofs.Common.{◌≡◌, ◌++◌, drop, map, if◌then◌else◌}
use Rattle.backup_machine.proofs.positions.Positions.all_at.Given as goal

abbrev pub invariant-loop-flag : goal.invariant-loop-flag
invariant-loop-flag l = map (λ protect. if protect then l.pos else 0) l.flags ≡ l.at.items ++ map (λ protect. if protect then l.pos else 0) (drop l.flag-index l.flags)
