use Rattle.std.proofs.Common.{arith}
use Rattle.std.proofs.lemmas.Bool.Decides.{nat_tests}
use Rattle.memory_folder.proofs.Leaving.{none_reaches}
use Rattle.memory_folder.proofs.losses.reaches.Goals as goal

-- src/losses.rt:98:1
pub returns-clause-only : goal.returns-clause-only
returns-clause-only c = λ refused. none_reaches c.args.writes.now c.args.len c.loop-k.k c.requires (grind (arith, nat_tests, c.loop-k-test.false, c.loop-k.auto.k-end)) c.loop-k.invariant
