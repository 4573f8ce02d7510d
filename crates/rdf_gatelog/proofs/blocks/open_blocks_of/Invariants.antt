use Rattle.std.proofs.Common.{◌≡◌, ◌++◌, drop}
use Rattle.rdf_gatelog.specs.Log.{open_blocks}
use Rattle.rdf_gatelog.specs.Parsed.{lists_of}
use Rattle.rdf_gatelog.proofs.blocks.open_blocks_of.Given as goal

abbrev pub invariant-loop-payload : goal.invariant-loop-payload
invariant-loop-payload l = open_blocks (lists_of l.payloads) ≡ l.bytes.items ++ open_blocks (lists_of (drop l.payload-index l.payloads))
