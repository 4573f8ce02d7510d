use Rattle.std.proofs.Common.{◌≡◌, ◌++◌, drop, map}
use Rattle.image_trails.proofs.lending.copies_of.Given as goal

abbrev pub invariant-loop-entry : goal.invariant-loop-entry
invariant-loop-entry l = map (λ s. s.now) l.lent ≡ l.entries.items ++ map (λ s. s.now) (drop l.entry-index l.lent)
