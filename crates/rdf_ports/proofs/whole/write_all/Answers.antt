use Rattle.std.proofs.Common.{arith}
use Rattle.std.proofs.Math.Seq.{take-add}
use Rattle.std.proofs.lemmas.Grind.{common_steps}
use Rattle.rdf_ports.proofs.whole.write_all.Goals as goal

-- the bytes written so far and the ones written now are the first bytes
pub loop-done-preserved : goal.loop-done-preserved
loop-done-preserved g c = grind (arith, common_steps, take-add c.loop-done.done c.in_ok-done.field-0 c.args.bytes.now)
