-- What contracts see of a volume.
use Rattle.std.specs.Prelude.{◌≡◌, ℕ, Result, Ok, Err}
use Rattle.rdf_disk.specs.Files.{Disk}
use Rattle.rdf_model.specs.Volumes.{Rows}
use Rattle.rdf_volume.specs.declared.volume.Volume.{Volume}
use Rattle.rdf_volume.specs.declared.volume.VolShut.{VolShut}
use Rattle.rdf_volume.specs.InUse.{IsTabled}

-- the value at each file and key
abbrev pub rows_of : {D : Type 0} → Volume D → Rows
rows_of v = v.table.shown.rows

abbrev pub restart_of : {D : Type 0} → Volume D → ℕ
restart_of v = v.restart

-- the number of batches since the base was written, as it is counted
abbrev pub batches_of : {D : Type 0} → Volume D → ℕ
batches_of v = v.batches

-- the number of its file
abbrev pub file_of : {D : Type 0} → Volume D → ℕ
file_of v = v.log.file

abbrev pub disk_of : {D : Type 0} → Volume D → D
disk_of v = v.disk

-- the volume may be used: its disk, which tells its files, is as the volume has it, with its table of rows
abbrev pub InUse : {D : Type 0} → (D → Disk) → Volume D → Type 0
InUse files v = IsTabled (files v.disk) v.log.file v.log.end v.table v.restart v.batches

-- the volume shows the same as before
pub record Unchanged {D : Type 0} (old new : Volume D) : Type 0 where
  pub rows : rows_of new ≡ rows_of old
  pub restart : restart_of new ≡ restart_of old
  pub batches : batches_of new ≡ batches_of old
  pub file : file_of new ≡ file_of old

-- the disk that an opening hands back
abbrev pub disk_in : {D : Type 0} → Result (Volume D) (VolShut D) → D
disk_in (Ok v) = disk_of v
disk_in (Err s) = s.disk
