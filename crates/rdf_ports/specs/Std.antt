-- What a clause reads of a source over std's reader, and of a sink over std's writer.
use Rattle.std.specs.Prelude.{ℕ}
use Rattle.rdf_ports.specs.declared.std_ports.StdSource.{StdSource}
use Rattle.rdf_ports.specs.declared.std_ports.StdSink.{StdSink}

-- the reader
abbrev pub source_reader : {R : Type 0} → StdSource R → R
source_reader s = s.reader

-- its faults
abbrev pub source_faults : {R : Type 0} → StdSource R → ℕ
source_faults s = s.faults

-- the writer
abbrev pub sink_writer : {W : Type 0} → StdSink W → W
sink_writer s = s.writer

-- its faults
abbrev pub sink_faults : {W : Type 0} → StdSink W → ℕ
sink_faults s = s.faults
