-- How the disks of a primary are opened: blank ones, and those of a primary that was down.
use Rattle.std.specs.Prelude.{◌≡◌, ℕ, zero, suc, ◌≤◌, false, List, [], length, take, slice_get, IfSome, None}
use Rattle.std.specs.List.{AllByRecursion}
use Rattle.rdf_types.specs.declared.records.Record.{Record}
use Rattle.rdf_disk.specs.Counts.{Counts, turned_on}
use Rattle.tmf_core.specs.Stores.{Shows}
use Rattle.rdf_disk.specs.declared.disk.Disk.{Ghosts}
use Rattle.rdf_disk.specs.Files.{Disk, Contents}
use Rattle.rdf_disk.specs.Outcomes.{Durably}
use Rattle.rdf_gatelog.specs.declared.fault.LogFault.{LogFault}
use Rattle.rdf_gatelog.specs.LogCauses.{ending_of_fault}
use Rattle.rdf_model.specs.Contents.{nothing}
use Rattle.rdf_model.specs.Legal.{Legal}
use Rattle.rdf_model.specs.Trail.{raw, open_in}
use Rattle.rdf_model.specs.Volumes.{AreOn}
use Rattle.audit_trail.specs.declared.trail.AuditTrail.{AuditTrail}
use Rattle.audit_trail.specs.Flaws.{NotDamage}
use Rattle.audit_trail.specs.InUse.{trail_of, disk_of as trail_disk, IsInUse}
use Rattle.audit_trail.specs.Spelled.{Spells, IsAlone}
use Rattle.rdf_volume.specs.declared.volume.Volume.{Volume}
use Rattle.rdf_volume.specs.Views.{rows_of, restart_of, disk_of, InUse}
use Rattle.node_faults.specs.Openings.{Rises}
use Rattle.node_disks.specs.declared.opening.Opening.{Opening}
use Rattle.tmf_core.specs.Stores.{Shows, IsPlaced, StandsWithin}
use Rattle.tmf_core.specs.Stores.{Stored}
use Rattle.tmf_core.specs.declared.tmf.Tmf.{Tmf}
use Rattle.tmf_core.specs.States.{is_down, RunsWith}

-- the disk is an empty trail, which is on and counts as before
pub record IsNewTrail {D : Type 0} (tells : Type 0) (files : D → Disk) (counts : D → Counts) (x : D) (a : AuditTrail D) : Type 0 where
  pub empty : trail_of a ≡ []
  pub in_use : tells → IsInUse a (files (trail_disk a))
  pub alone : tells → IsAlone (files (trail_disk a))
  pub on : (counts (trail_disk a)).off ≡ false
  pub counts_are : counts (trail_disk a) ≡ counts x

-- the trail may be used, and is this one
pub record IsOpened {D : Type 0} (files : D → Disk) (trail : List Record) (a : AuditTrail D) : Type 0 where
  pub trail_is : trail_of a ≡ trail
  pub in_use : IsInUse a (files (trail_disk a))
  pub alone : IsAlone (files (trail_disk a))

-- the disk was turned on, and is the trail that it stood for
pub record IsOldTrail {D : Type 0} (tells : Type 0) (files : D → Disk) (counts : D → Counts) (x : D) (a : AuditTrail D) : Type 0 where
  pub found : tells → (trail : List Record) → Durably (files x) (Spells trail) → IsOpened files trail a
  pub turned : counts (trail_disk a) ≡ turned_on (counts x)

-- The trail could not be opened. The disk stands for what it stood for, and where it stood for a trail no damage is told.
pub record IsShutTrail {D : Type 0} (tells : Type 0) (files : D → Disk) (counts : D → Counts) (x y : D) (fault : LogFault) : Type 0 where
  pub keeps : tells → (trail : List Record) → Durably (files x) (Spells trail) → Durably (files y) (Spells trail)
  pub cause : Rises (ending_of_fault fault) (counts x) (counts y)
  pub sound : tells → (trail : List Record) → Durably (files x) (Spells trail) → NotDamage fault

-- volume v may be used, and shows what stood after the records below its restart point
pub record IsBehind {D : Type 0} (files : D → Disk) (trail : List Record) (v : ℕ) (volume : Volume D) : Type 0 where
  pub in_use : InUse files volume
  pub behind : restart_of volume ≤ length trail
  pub stood : AreOn v (raw nothing (take (restart_of volume) trail)) (rows_of volume)

-- the disk was turned on, and is volume v at the trail's end
pub record IsOldVolume {D : Type 0} (tells : Type 0) (files : D → Disk) (counts : D → Counts) (trail : List Record) (v : ℕ) (x : D) (volume : Volume D) : Type 0 where
  pub shows : tells → Shows files trail v volume
  pub turned : counts (disk_of volume) ≡ turned_on (counts x)

-- volume v could not be opened and brought to the trail's end: the disk stands for what stood after some prefix of it, and no damage is told
pub record IsShutVolume {D : Type 0} (tells : Type 0) (files : D → Disk) (counts : D → Counts) (trail : List Record) (v : ℕ) (x y : D) (fault : LogFault) : Type 0 where
  pub keeps : tells → Durably (files y) (StandsWithin v trail)
  pub cause : Rises (ending_of_fault fault) (counts x) (counts y)
  pub sound : tells → NotDamage fault

-- the contents of the disk of that number stand for a primary that is down, with this trail
abbrev pub StandsDown : List Record → ℕ → Contents → Type 0
StandsDown trail zero c = Spells trail c
StandsDown trail (suc v) c = StandsWithin v trail c

-- The trail may be used and is legal, and each image is on the volume of one of these disks, each of which stands for its volume.
pub record MayReopen {D : Type 0} (files : D → Disk) (a : AuditTrail D) (disks : List D) : Type 0 where
  pub in_use : IsInUse a (files (trail_disk a))
  pub alone : IsAlone (files (trail_disk a))
  pub legal : Legal nothing (trail_of a)
  pub placed : AllByRecursion (λ r. IsPlaced (length disks) r) (trail_of a)
  pub stood : (v : ℕ) → IfSome (slice_get disks v) (λ d. Durably (files d) (StandsWithin v (trail_of a)))

-- the transactions over the trail and the volumes that are open: where each volume shows what stands after the trail, which is legal, they run, with the open transactions active
pub record IsJoined {D : Type 0} {d : Ghosts D} (tells : Type 0) (files : D → Disk) (trail : AuditTrail D) (o : Opening D (Volume D)) (s : Tmf D d) : Type 0 where
  pub no_fault : o.fault ≡ None
  pub up : is_down s ≡ false
  pub store : s.store ≡ record { trail = trail; volumes = o.opened }
  pub runs : tells → Legal nothing (trail_of trail) → Stored files s.store → RunsWith files (trail_of trail) (open_in (trail_of trail)) s
