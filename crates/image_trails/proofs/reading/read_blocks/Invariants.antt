use Rattle.image_trails.specs.Memory.{plan_of}
use Rattle.image_trails.proofs.BlockReads.{IsReadSoFar}
use Rattle.image_trails.proofs.reading.read_blocks.Given as goal

abbrev pub invariant-loop-payload : goal.invariant-loop-payload
invariant-loop-payload l = IsReadSoFar (plan_of l.layout) l.trail l.fn.said.end l.fn.said.phase l.place l.payloads l.payload-index l.at l.so_far
