-- Laws of rows that are being written.
use Rattle.std.specs.Prelude.{ℕ, List, Result, Ok, Err}
use Rattle.rdf_disk.specs.Files.{Disk}
use Rattle.rdf_disk.specs.Outcomes.{Durably, Narrows}
use Rattle.rdf_disk.specs.Calls.{Same, AllSettle}
use Rattle.rdf_disk.specs.OutcomeLaws.{narrows_same, narrows_settles}
use Rattle.rdf_types.specs.declared.records.Row.{Row}
use Rattle.rdf_codec.specs.declared.index_entries.IndexEntry.{IndexEntry}
use Rattle.rdf_gatelog.specs.declared.fault.LogFault.{LogFault}
use Rattle.rdf_gatelog.specs.declared.fault.LogFault.TheVariants.{Stopped, Failed, NoMemory, Damaged}
use Rattle.rdf_gatelog.specs.Adding.{AdditionPlace, RestsAdding}
use Rattle.rdf_gatelog.specs.AddingLaws.{adding_same, adding_durably}
use Rattle.rdf_gatelog.specs.LogCalls.{OnlyLooks}
use Rattle.rdf_gatelog.specs.LogPlace.{LogPlace}
use Rattle.rdf_gatelog.specs.Logs.{Logs, Reads}
use Rattle.rdf_gatelog.specs.RestLaws.{rests_at_same}
use Rattle.keyed_blocks.specs.Indexes.{IsIndexed}
use Rattle.keyed_blocks.specs.Writing.{WriterView, AreWritten, IsWriting, IsWritten}

-- an addition goes on while all files stay as they are
adds_on : (logs : Logs) (place : AdditionPlace) (more : List (List ℕ)) (old new : Disk) → Same old new → RestsAdding logs place more old → RestsAdding logs place more new
adds_on logs place more old new same r = record {
  payloads = r.payloads;
  there = r.there;
  adding = adding_same place r.payloads more old new (same place.file) r.adding;
  beside = λ m other. rests_at_same m (logs m) old new (same m) (r.beside m other);
}

-- so does a writing
pub writing_same : (logs : Logs) (writer : WriterView) (rows : List Row) (old new : Disk) → Same old new → IsWriting logs writer rows old → IsWriting logs writer rows new
writing_same logs writer rows old new same w = record {
  are = record {
    written = w.are.written;
    blocks = w.are.blocks;
    adding = adds_on logs writer.addition w.are.blocks old new same w.are.adding;
    none = w.are.none;
    base = w.are.base;
    rows_are = w.are.rows_are;
    count = w.are.count;
    risen = w.are.risen;
  };
  begun = w.begun;
}

-- rows that are being written count for nothing: the disk durably reads as the logs without them
pub are_durably : (logs : Logs) (writer : WriterView) (rows : List Row) (disk : Disk) → AreWritten logs writer rows disk → Durably disk (Reads logs)
are_durably logs writer rows disk w = adding_durably logs writer.addition w.blocks disk w.adding

pub writing_durably : (logs : Logs) (writer : WriterView) (rows : List Row) (disk : Disk) → IsWriting logs writer rows disk → Durably disk (Reads logs)
writing_durably logs writer rows disk w = are_durably logs writer rows disk w.are

-- and so does one of which there may be nothing else
pub writing_narrow : (logs : Logs) (writer : WriterView) (rows : List Row) (old new : Disk) → ((m : ℕ) → Narrows (old m) (new m)) → IsWriting logs writer rows old → Durably new (Reads logs)
writing_narrow logs writer rows old new narrow w c may = writing_durably logs writer rows old w c (λ m. narrow m (c m) (may m))

-- as one that stopped
pub writing_settled : (logs : Logs) (writer : WriterView) (rows : List Row) (old new : Disk) → AllSettle old new → IsWriting logs writer rows old → Durably new (Reads logs)
writing_settled logs writer rows old new settle = writing_narrow logs writer rows old new (λ m. narrows_settles (old m) (new m) (settle m))

same_durably : (logs : Logs) (writer : WriterView) (rows : List Row) (old new : Disk) → Same old new → IsWriting logs writer rows old → Durably new (Reads logs)
same_durably logs writer rows old new same = writing_narrow logs writer rows old new (λ m. narrows_same (old m) (new m) (same m))

-- or one of which another log was read, whatever that answered
pub writing_looked : {T : Type 0} (r : Result T LogFault) (logs : Logs) (writer : WriterView) (rows : List Row) (old new : Disk) → OnlyLooks r old new → IsWriting logs writer rows old → Durably new (Reads logs)
writing_looked (Ok x) logs writer rows old new looks = same_durably logs writer rows old new looks
writing_looked (Err Stopped) logs writer rows old new looks = writing_settled logs writer rows old new looks
writing_looked (Err Failed) logs writer rows old new looks = same_durably logs writer rows old new looks
writing_looked (Err NoMemory) logs writer rows old new looks = same_durably logs writer rows old new looks
writing_looked (Err (Damaged file at)) logs writer rows old new looks = same_durably logs writer rows old new looks

-- what was written is indexed
pub written_indexed : (logs : Logs) (log : LogPlace) (index : List IndexEntry) (rows : List Row) (restart : ℕ) (disk : Disk) → IsWritten logs log index rows restart disk → IsIndexed index log disk
written_indexed logs log index rows restart disk w = record { rows = rows; payloads = w.payloads; at_rest = w.at_rest; indexes = w.indexes }
