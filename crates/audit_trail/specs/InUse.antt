-- How an audit trail in use stands on its disk.
use Rattle.std.specs.Prelude.{◌≡◌, List}
use Rattle.std.specs.List.{AllByRecursion}
use Rattle.rdf_types.specs.declared.records.Record.{Record}
use Rattle.rdf_codec.specs.Spelling.{IsRecord}
use Rattle.rdf_disk.specs.Files.{Disk}
use Rattle.rdf_gatelog.specs.Log.{IsAtRest}
use Rattle.audit_trail.specs.declared.trail.AuditTrail.{AuditTrail}
use Rattle.audit_trail.specs.Spelled.{spellings}

-- the records, in the order of their positions
abbrev pub trail_of : {D : Type 0} → AuditTrail D → List Record
trail_of a = a.records.items

-- the disk
abbrev pub disk_of : {D : Type 0} → AuditTrail D → D
disk_of a = a.disk

-- file 0 of the disk is a log of the trail's records as the last call left it, and nothing of it is pending
pub record IsInUse {D : Type 0} (a : AuditTrail D) (disk : Disk) : Type 0 where
  pub file_is : a.log.file ≡ 0
  pub log : IsAtRest 0 a.log.end (spellings (trail_of a)) disk
  pub records : AllByRecursion IsRecord (trail_of a)
