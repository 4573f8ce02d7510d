-- Laws of disks that spell a trail.
use Rattle.std.proofs.Common.{◌≡◌, ℕ, List, Option, None, subst}
use Rattle.std.specs.List.{AllByRecursion}
use Rattle.rdf_types.specs.declared.records.Record.{Record}
use Rattle.rdf_disk.specs.Files.{FileState, Disk, settled}
use Rattle.rdf_disk.specs.Outcomes.{May, Durably}
use Rattle.rdf_disk.specs.OutcomeLaws.{may-settled}
use Rattle.rdf_codec.specs.Spelling.{IsRecord}
use Rattle.rdf_gatelog.specs.Log.{IsAtRest}
use Rattle.rdf_gatelog.specs.LogLaws.{at_rest_surely}
use Rattle.audit_trail.specs.Spelled.{spellings, Spells, IsAlone}

-- of a file that isn't there there may be nothing
pub none_may : (disk : Disk) (m : ℕ) (x : Option (List ℕ)) → disk m ≡ settled None → May (disk m) x → x ≡ None
none_may disk m x none may = may-settled None x (subst (λ (f : FileState). May f x) none may)

-- a trail at rest, alone on its disk, is durable
pub trail_durable : (end : ℕ) (trail : List Record) (disk : Disk) → IsAtRest 0 end (spellings trail) disk → AllByRecursion IsRecord trail → IsAlone disk → Durably disk (Spells trail)
trail_durable end trail disk rest records alone c may = record {
  log = at_rest_surely 0 end (spellings trail) disk rest (c 0) (may 0);
  records = records;
  alone = λ m other. none_may disk m (c m) (alone m other) (may m);
}
