-- What a source and a sink in memory are.
use Rattle.std.specs.Prelude.{ℕ, ◌+◌, min, List}
use Rattle.rdf_types.specs.Counts.{most}
use Rattle.rdf_ports.specs.Calls.{Calls}

-- the bytes left, and the calls
pub record SourceState : Type 0 where
  pub left : List ℕ
  pub calls : Calls

-- the bytes written, the calls, and how many of them found no memory
pub record SinkState : Type 0 where
  pub written : List ℕ
  pub calls : Calls
  pub refused : ℕ

-- the calls that failed, and those that found no memory
abbrev pub faults_of : SinkState → ℕ
faults_of s = min (s.calls.failed + s.refused) most
