use Rattle.std.proofs.Common.{◌≡◌, ◌++◌, drop, length}
use Rattle.std.specs.List.{AllByRecursion}
use Rattle.rdf_codec.specs.Spelling.{IsRecord}
use Rattle.rdf_gatelog.specs.Log.{open_blocks}
use Rattle.rdf_gatelog.specs.Parsed.{lists_of}
use Rattle.audit_trail.specs.Spelled.{spellings}
use Rattle.audit_trail.proofs.opening.records_of.Given as goal

abbrev pub invariant-loop-payload : goal.invariant-loop-payload
invariant-loop-payload l = record {
  split : lists_of l.payloads ≡ spellings l.records.items ++ lists_of (drop l.payload-index l.payloads);
  place : l.at ≡ length (open_blocks (spellings l.records.items));
  fit : AllByRecursion IsRecord l.records.items;
}
