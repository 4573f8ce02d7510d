-- What the trail and the volumes of a node stand for.
use Rattle.std.specs.Prelude.{◌≡◌, ℕ, zero, suc, ◌≤◌, ◌<◌, List, ◌++◌, length, map, take, slice_get, Option, Some, None, IfSome, Result}
use Rattle.std.specs.List.{AllByRecursion, slice_set}
use Rattle.std.specs.Option.{option_map}
use Rattle.rdf_types.specs.declared.records.Change.{Change}
use Rattle.rdf_types.specs.declared.records.Record.{Record}
use Rattle.rdf_types.specs.declared.records.Record.TheVariants.{Image, Commit, Abort}
use Rattle.rdf_disk.specs.Files.{Disk, Contents}
use Rattle.rdf_disk.specs.Counts.{Counts, Ending, Causes}
use Rattle.rdf_disk.specs.Outcomes.{Durably}
use Rattle.rdf_model.specs.Contents.{nothing}
use Rattle.rdf_model.specs.Trail.{raw}
use Rattle.rdf_model.specs.Volumes.{Rows, AreOn}
use Rattle.audit_trail.specs.InUse.{trail_of, disk_of as trail_disk, IsInUse}
use Rattle.audit_trail.specs.Spelled.{Spells, IsAlone}
use Rattle.rdf_volume.specs.declared.volume.Volume.{Volume}
use Rattle.rdf_volume.specs.Views.{rows_of, restart_of, batches_of, file_of, disk_of, InUse}
use Rattle.rdf_volume.specs.Changes.{with_change}
use Rattle.rdf_volume.specs.Standing.{StandsFor, StandsForEither}
use Rattle.node_faults.specs.declared.NodeFault.{NodeFault}
use Rattle.node_faults.specs.Faults.{ending_for, NamesOwn}
use Rattle.tmf_core.specs.declared.store.Store.{Store}

-- the records of the trail
abbrev pub trail_in : {D : Type 0} → Store D → List Record
trail_in s = trail_of s.trail

-- what a volume shows: its rows, its restart point, the batches that it counts, and the number of its file
pub record Shown : Type 0 where
  pub rows : Rows
  pub restart : ℕ
  pub batches : ℕ
  pub file : ℕ

abbrev pub shown_by : {D : Type 0} → Volume D → Shown
shown_by v = record { rows = rows_of v; restart = restart_of v; batches = batches_of v; file = file_of v }

-- what each volume shows, in their order
abbrev pub shown_in : {D : Type 0} → Store D → List Shown
shown_in s = map (λ v. shown_by v) s.volumes.items

-- an image is of one of so many volumes
abbrev pub IsPlaced : ℕ → Record → Type 0
IsPlaced volumes (Image txn vol file key before after) = vol < volumes
IsPlaced volumes (Commit txn) = Unit {0}
IsPlaced volumes (Abort txn) = Unit {0}

-- Volume v may be used and shows what stands after the trail. So did it stand after the records below its restart point.
pub record Shows {D : Type 0} (files : D → Disk) (trail : List Record) (v : ℕ) (volume : Volume D) : Type 0 where
  pub in_use : InUse files volume
  pub shows : AreOn v (raw nothing trail) (rows_of volume)
  pub behind : restart_of volume ≤ length trail
  pub stood : AreOn v (raw nothing (take (restart_of volume) trail)) (rows_of volume)

-- the trail and the volumes may be used, and each volume shows what stands after the trail
pub record Stored {D : Type 0} (files : D → Disk) (s : Store D) : Type 0 where
  pub in_use : IsInUse s.trail (files (trail_disk s.trail))
  pub alone : IsAlone (files (trail_disk s.trail))
  pub volume : (v : ℕ) → IfSome (slice_get s.volumes.items v) (λ volume. Shows files (trail_in s) v volume)
  pub placed : AllByRecursion (λ r. IsPlaced (length s.volumes.items) r) (trail_in s)

-- the volumes with another one in this place
abbrev pub with_volume : {D : Type 0} → Store D → ℕ → Volume D → List (Volume D)
with_volume s v volume = slice_set s.volumes.items v volume

-- one volume made the change and has the trail's length as its restart point; the others are as before
pub record Applied {D : Type 0} (files : D → Disk) (v : ℕ) (change : Change) (old new : Store D) : Type 0 where
  pub was : Volume D
  pub is : Volume D
  pub was_there : slice_get old.volumes.items v ≡ Some was
  pub volumes : new.volumes.items ≡ with_volume old v is
  pub in_use : InUse files is
  pub rows : rows_of is ≡ with_change (rows_of was) change
  pub restart : restart_of is ≡ length (trail_in old)

-- one volume's disk stands for what it stood for, or for the change and that restart point; the others are as before
pub record NotApplied {D : Type 0} (files : D → Disk) (v : ℕ) (change : Change) (old new : Store D) : Type 0 where
  pub was : Volume D
  pub is : Volume D
  pub was_there : slice_get old.volumes.items v ≡ Some was
  pub volumes : new.volumes.items ≡ with_volume old v is
  pub stands : Durably (files (disk_of is)) (StandsForEither (rows_of was) (restart_of was) (with_change (rows_of was) change) (length (trail_in old)))

-- the contents spell the trail with some first ones of these records, at least with so many
abbrev pub SpellsSome : List Record → List Record → ℕ → Contents → Type 0
SpellsSome trail more least c = (k : ℕ) × ((least ≤ k) × (k ≤ length more) × Spells (trail ++ take k more) c)

-- the contents stand for what stood on the volume after some prefix of the trail, with that as the restart point
abbrev pub StandsWithin : ℕ → List Record → Contents → Type 0
StandsWithin v trail c = (p : ℕ) × ((rows : Rows) × ((p ≤ length trail) × AreOn v (raw nothing (take p trail)) rows × StandsFor rows p c))

-- What a call that adds these records leaves when it ends by a fault: the trail's disk durably spells the trail with some first ones of them.
-- So many it surely has, and each volume's disk durably stands for what stood after some prefix of the trail with those.
pub record Left {D : Type 0} (files : D → Disk) (trail more : List Record) (s : Store D) : Type 0 where
  pub kept : ℕ
  pub few : kept ≤ length more
  pub spells : Durably (files (trail_disk s.trail)) (SpellsSome trail more kept)
  pub volume : (v : ℕ) → IfSome (slice_get s.volumes.items v) (λ volume. Durably (files (disk_of volume)) (StandsWithin v (trail ++ take kept more)))

-- the same of a call that makes this whole of the trail
abbrev pub LeftOf : {D : Type 0} → (D → Disk) → (trail whole : List Record) → Store D → Type 0
LeftOf files trail whole s = (more : List Record) → whole ≡ trail ++ more → Left files trail more s

-- the same of a call that adds nothing, whatever part of the trail is seen as added before
abbrev pub LeftStill : {D : Type 0} → (D → Disk) → List Record → Store D → Type 0
LeftStill files whole s = (trail more : List Record) → whole ≡ trail ++ more → Left files trail more s

-- a volume was looked at: the trail is the same, and there are as many volumes, each of which shows the same
pub record Looked {D : Type 0} (old new : Store D) : Type 0 where
  pub trail : new.trail ≡ old.trail
  pub many : length new.volumes.items ≡ length old.volumes.items
  pub shown : shown_in new ≡ shown_in old

-- the counts of disk 0, which is the trail's, and of disk 1 + v, which is volume v's
abbrev pub counts_at : {D : Type 0} → (D → Counts) → Store D → ℕ → Option Counts
counts_at counts s zero = Some (counts (trail_disk s.trail))
counts_at counts s (suc v) = option_map (λ volume. counts (disk_of volume)) (slice_get s.volumes.items v)

-- the cause of an ending, where there is such a disk
abbrev pub CausesIf : Ending → Option Counts → Option Counts → Type 0
CausesIf ending None new = new ≡ None
CausesIf ending (Some old) None = ⊥
CausesIf ending (Some old) (Some new) = Causes ending old new

-- a fault of a disk is of one of the store's and has its cause in the counts of that disk, and the counts of each other disk stay
abbrev pub CausedBy : {D T : Type 0} → (D → Counts) → Result T NodeFault → Store D → Store D → Type 0
CausedBy counts result old new = NamesOwn (length old.volumes.items) result × ((disk : ℕ) → CausesIf (ending_for disk result) (counts_at counts old disk) (counts_at counts new disk))
