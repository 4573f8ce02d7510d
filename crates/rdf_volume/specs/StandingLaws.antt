-- Laws of what a volume's disk stands for.
use Rattle.std.proofs.Common.{◌≡◌, ◌≢◌, inl, ℕ, ◌+◌, List, Option, None, refl, ap, subst, arith}
use Rattle.rdf_disk.specs.Files.{Disk, Contents}
use Rattle.rdf_disk.specs.Outcomes.{Durably}
use Rattle.rdf_model.specs.Volumes.{Rows}
use Rattle.rdf_gatelog.specs.Logs.{Logs}
use Rattle.rdf_gatelog.specs.RestLaws.{rests_durably}
use Rattle.rdf_volume.specs.Stages.{Complete, stage_at, is_building}
use Rattle.rdf_volume.specs.InUse.{IsInUse}
use Rattle.rdf_volume.specs.Standing.{IsStanding, StandsFor}
use Rattle.rdf_volume.specs.Views.{rows_of, restart_of, disk_of, InUse}
use Rattle.rdf_volume.specs.declared.volume.Volume.{Volume}

-- a complete file that is the only one is what the disk stands for
pub stands_alone : (logs : Logs) (file : ℕ) (rows : Rows) (restart batches : ℕ) → stage_at (logs file) ≡ Complete rows restart batches
    → ((m : ℕ) → m ≢ file → logs m ≡ None) → IsStanding logs file rows restart batches
stands_alone logs file rows restart batches this alone = record {
  other = file + 1;
  this = this;
  beside = inl (refl, ap (λ (x : Option (List (List ℕ))). is_building (stage_at x)) (alone (file + 1) (omega arith)));
  alone = λ m apart other. alone m apart;
}

-- the same rows and the same restart point
pub stands_same : (rows same : Rows) (at it : ℕ) (c : Contents) → rows ≡ same → at ≡ it → StandsFor rows at c → StandsFor same it c
stands_same rows same at it c e f h = subst (λ (r : Rows). StandsFor r it c) e (subst (λ (p : ℕ). StandsFor rows p c) f h)

-- a disk in use by a file durably stands for what the file says
pub file_durably : (disk : Disk) (file end : ℕ) (rows : Rows) (restart batches : ℕ) → IsInUse disk file end rows restart batches → Durably disk (StandsFor rows restart)
file_durably disk file end rows restart batches u c may =
    (file, (u.number, (u.logs, rests_durably u.logs disk u.rests c may, stands_alone u.logs file rows restart u.number u.this u.alone)))

-- the disk of a volume in use durably stands for what the volume shows
pub in_use_durably : {D : Type 0} (files : D → Disk) (v : Volume D) → InUse files v → Durably (files (disk_of v)) (StandsFor (rows_of v) (restart_of v))
in_use_durably files v u = file_durably (files v.disk) v.log.file v.log.end (rows_of v) v.restart v.batches u.in_use
