use Rattle.std.proofs.Common.{◌≡◌, ◌++◌, ◌≤◌, length}
use Rattle.std.specs.List.{AllByRecursion}
use Rattle.rdf_gatelog.specs.Log.{IsPayload, open_blocks, payloads_of}
use Rattle.rdf_gatelog.proofs.blocks.parse.Given as goal

abbrev pub invariant-loop-rest : goal.invariant-loop-rest
invariant-loop-rest l = record {
  split : l.bytes ≡ open_blocks (payloads_of l.payloads) ++ l.rest;
  place : l.at ≡ length (open_blocks (payloads_of l.payloads));
  fit : AllByRecursion IsPayload (payloads_of l.payloads);
  more : 1 ≤ length l.rest;
}

abbrev pub decreases-loop-rest : goal.decreases-loop-rest
decreases-loop-rest l = length l.rest
