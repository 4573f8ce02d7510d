-- What the disks of a primary stand for. Disk 0 has the audit trail, and disk 1 + v the volume v.
use Rattle.std.specs.Prelude.{◌≡◌, ℕ, zero, suc, ◌≤◌, List, length, take, slice_get, IfSome}
use Rattle.std.specs.List.{AllByRecursion}
use Rattle.rdf_types.specs.declared.layout.Layout.{Layout}
use Rattle.rdf_types.specs.declared.records.Record.{Record}
use Rattle.rdf_disk.specs.Files.{Disk, Contents}
use Rattle.rdf_disk.specs.Outcomes.{Durably, MayAll}
use Rattle.rdf_model.specs.Contents.{nothing}
use Rattle.rdf_model.specs.Trail.{raw}
use Rattle.rdf_model.specs.Legal.{Legal}
use Rattle.rdf_model.specs.Volumes.{Rows, AreOn}
use Rattle.audit_trail.specs.Spelled.{Spells}
use Rattle.rdf_volume.specs.Standing.{StandsFor}
use Rattle.tmf_core.specs.Stores.{IsPlaced, StandsWithin}
use Rattle.rdf_core.specs.declared.events.Standing.{Standing}
use Rattle.rdf_core.specs.declared.events.Standing.TheVariants.{Up, Down, Lost}
use Rattle.rdf_core.specs.Primary.{Primary}

-- the contents stand for what stands on the volume after the whole trail, and stood there after some prefix, with that as the restart point
abbrev pub StandsNow : ℕ → List Record → Contents → Type 0
StandsNow v trail c = (p : ℕ) × ((rows : Rows) × ((p ≤ length trail) × AreOn v (raw nothing (take p trail)) rows × AreOn v (raw nothing trail) rows × StandsFor rows p c))

-- while the primary is up a volume shows what stands after the trail, and else after some prefix of it
abbrev pub VolumeStandsFor : Standing → ℕ → List Record → Contents → Type 0
VolumeStandsFor Up v trail c = StandsNow v trail c
VolumeStandsFor Down v trail c = StandsWithin v trail c
VolumeStandsFor Lost v trail c = StandsWithin v trail c

-- the contents of the disk of that number stand for the primary: disk 0 spells its trail
abbrev pub DiskStandsFor : Primary → ℕ → Contents → Type 0
DiskStandsFor a zero c = Spells a.trail c
DiskStandsFor a (suc v) c = VolumeStandsFor a.standing v a.trail c

-- the trail is legal, and each image in it is of a volume of the layout
pub record IsTrailOf (layout : Layout) (trail : List Record) : Type 0 where
  pub legal : Legal nothing trail
  pub placed : AllByRecursion (λ r. IsPlaced layout.volumes r) trail

-- the disks durably stand for the primary, each for itself
pub record PrimaryStandsFor {D : Type 0} (files : D → Disk) (layout : Layout) (a : Primary) (disks : List D) : Type 0 where
  pub trail : IsTrailOf layout a.trail
  pub count : length disks ≡ suc layout.volumes
  pub disk : (i : ℕ) → IfSome (slice_get disks i) (λ d. Durably (files d) (DiskStandsFor a i))

-- these may be the contents of the disks, by their numbers, or what stops leave of them
abbrev pub MayBe : {D : Type 0} → (D → Disk) → List D → (ℕ → Contents) → Type 0
MayBe files disks held = (i : ℕ) → IfSome (slice_get disks i) (λ d. MayAll (files d) (held i))

-- these contents of disks stand for the primary
pub record ContentsStandFor (layout : Layout) (a : Primary) (held : ℕ → Contents) : Type 0 where
  pub trail : IsTrailOf layout a.trail
  pub disk : (i : ℕ) → i ≤ layout.volumes → DiskStandsFor a i (held i)

-- whatever stops leave of the disks stands for one of these primaries, the first of them or one of so many behind it
pub record SomeStandsFor {D : Type 0} (files : D → Disk) (layout : Layout) (most : ℕ) (states : ℕ → Primary) (disks : List D) : Type 0 where
  pub count : length disks ≡ suc layout.volumes
  pub some : (held : ℕ → Contents) → MayBe files disks held → (n : ℕ) × ((n ≤ most) × ContentsStandFor layout (states n) held)
