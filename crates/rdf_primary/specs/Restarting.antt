-- What a format or a restart of the primary finds, does and leaves.
use Rattle.std.specs.Prelude.{◌≡◌, ℕ, suc, false, List, length, map, drop, ◌++◌, Option, Some, None}
use Rattle.std.specs.FinSet as set
use Rattle.std.specs.Prelude.{[]}
use Rattle.rdf_types.specs.declared.layout.Layout.{Layout}
use Rattle.rdf_types.specs.declared.records.Node.TheVariants.{A}
use Rattle.rdf_disk.specs.Files.{Disk}
use Rattle.rdf_disk.specs.Counts.{Counts}
use Rattle.rdf_disk.specs.declared.disk.Disk.{Ghosts}
use Rattle.rdf_model.specs.Trail.{open_in}
use Rattle.plan_lang.specs.declared.lines.Line.TheVariants as line
use Rattle.rdf_volume.specs.declared.volume.Volume.{Volume}
use Rattle.rdf_volume.specs.Views.{disk_of}
use Rattle.rdf_core.specs.declared.events.Standing.TheVariants.{Down}
use Rattle.rdf_core.specs.Effects.{after_parts}
use Rattle.rdf_core.specs.Primary.{Primary as State, primary_after, primary_fallen}
use Rattle.rdf_primary.specs.declared.primary.Primary.{Primary}
use Rattle.rdf_model.specs.Lines.{after_restart}
use Rattle.audit_trail.specs.declared.trail.AuditTrail.{AuditTrail}
use Rattle.audit_trail.specs.InUse.{trail_of, disk_of as trail_disk}
use Rattle.node_faults.specs.declared.NodeFault.{NodeFault}
use Rattle.node_faults.specs.declared.Shut.{Shut}
use Rattle.node_faults.specs.Faults.{IsNamed}
use Rattle.node_faults.specs.Openings.{IsNoDamage, AreCaused, AreRaised, AreOn}
use Rattle.node_disks.specs.Opening.{AreOpened, IsNotWhole}
use Rattle.tmf_core.specs.declared.tmf.Tmf.{Tmf}
use Rattle.tmf_core.specs.declared.store.Store.{Store}
use Rattle.tmf_core.specs.Disks.{disks_of}
use Rattle.tmf_core.specs.Stores.{Left}
use Rattle.rdf_types.specs.declared.records.Record.{Record}
use Rattle.tmf_core.specs.States.{tmf_trail, tmf_volumes, is_down, RunsWith}
use Rattle.rdf_core.specs.State.{blank_primary}
use Rattle.rdf_primary.specs.Opening.{IsOldVolume, IsShutVolume}
use Rattle.rdf_primary.specs.Replies.{Stands, primary_parts_of}
use Rattle.rdf_primary.specs.Standing.{PrimaryStandsFor, SomeStandsFor}
use Rattle.rdf_primary.specs.States.{state_of, disks_in, IsLaidOut, IsUp, IsRunning}

-- the disks durably stand for the primary, which is down
pub record StoodFor {D : Type 0} (files : D → Disk) (layout : Layout) (a : State) (disks : List D) : Type 0 where
  pub down : a.standing ≡ Down
  pub stands : PrimaryStandsFor files layout a disks

-- they stand for some primary that is down
abbrev pub StoodForSome : {D : Type 0} → (D → Disk) → List D → Type 0
StoodForSome files disks = (layout : Layout) × ((a : State) × StoodFor files layout a disks)

-- the primary is what the restart makes of the one that was down, its disks stand for it, and so many transactions were open
pub record IsRestarted {D : Type 0} {d : Ghosts D} (files : D → Disk) (layout : Layout) (a : State) (backed_out : ℕ) (p : Primary D d) : Type 0 where
  pub laid : IsLaidOut layout p
  pub state : state_of a.stops p ≡ primary_after a (line.Restart A)
  pub stands : PrimaryStandsFor files layout (primary_after a (line.Restart A)) (disks_in p)
  pub says : backed_out ≡ set.len (open_in a.trail)

-- whatever stops leave of the disks stands for what some first ones of the restart's durable parts leave, and the primary is down
abbrev pub BreaksUp : {D : Type 0} → (D → Disk) → Layout → State → List D → Type 0
BreaksUp files layout a disks = (rise : ℕ) → SomeStandsFor files layout (length (primary_parts_of layout a (line.Restart A))) (λ n. primary_fallen rise (after_parts a (primary_parts_of layout a (line.Restart A)) n)) disks

-- a primary over disks without files has an empty trail and volumes without rows; it runs, its disks stand for it and are on, and none of their counts rose
pub record IsFormatted {D : Type 0} {d : Ghosts D} (tells : Type 0) (files : D → Disk) (counts : D → Counts) (layout : Layout) (disks : List D) (p : Primary D d) : Type 0 where
  pub state : tells → state_of 0 p ≡ blank_primary
  pub runs : tells → IsRunning files p
  pub up : IsUp p
  pub laid : IsLaidOut layout p
  pub on : AreOn counts (disks_in p)
  pub stands : tells → Stands files p
  pub cause : AreCaused counts None disks (disks_in p)

-- the transactions run over this trail and the volumes of these disks, with those without outcome active
pub record AreUp {D : Type 0} {d : Ghosts D} (tells : Type 0) (files : D → Disk) (counts : D → Counts) (a : AuditTrail D) (disks : List D) (s : Tmf D d) : Type 0 where
  pub up : is_down s ≡ false
  pub trail : s.store.trail ≡ a
  pub opened : AreOpened (IsOldVolume tells files counts (trail_of a)) (IsShutVolume tells files counts (trail_of a)) 0 disks s.store.volumes.items [] None
  pub runs : tells → RunsWith files (trail_of a) (open_in (trail_of a)) s

-- some of these disks were opened, and then one was not, or there was no memory; the trail's disk and these come back
pub record AreDown {D : Type 0} (tells : Type 0) (files : D → Disk) (counts : D → Counts) (a : AuditTrail D) (disks : List D) (shut : Shut D) : Type 0 where
  pub volumes : List (Volume D)
  pub left : List D
  pub why : Option NodeFault
  pub opened : AreOpened (IsOldVolume tells files counts (trail_of a)) (IsShutVolume tells files counts (trail_of a)) 0 disks volumes left why
  pub not : IsNotWhole (trail_disk a) (map (λ volume. disk_of volume) volumes ++ left) why shut

-- a primary that was down is up: what the restart makes of it, with so many transactions backed out; its disks are on, and of their counts no fault, stop or fuse rose
pub record IsUpAgain {D : Type 0} {d : Ghosts D} (tells : Type 0) (files : D → Disk) (counts : D → Counts) (layout : Layout) (disks : List D) (backed_out : ℕ) (p : Primary D d) : Type 0 where
  pub ok : tells → (l : Layout) (a : State) → StoodFor files l a disks → IsRestarted files l a backed_out p
  pub up : IsUp p
  pub laid : IsLaidOut layout p
  pub runs : tells → IsRunning files p
  pub on : AreOn counts (disks_in p)
  pub cause : AreRaised counts None disks (disks_in p)

-- It is down still, and its disks come back in their order: what stops leave of them is what a restart that was cut off leaves.
-- The fault tells no damage, has its cause in the counts of its disk, and names no disk that the primary lacks.
pub record IsStillDown {D : Type 0} (tells : Type 0) (files : D → Disk) (counts : D → Counts) (layout : Layout) (disks : List D) (shut : Shut D) : Type 0 where
  pub err : tells → (l : Layout) (a : State) → StoodFor files l a disks → BreaksUp files l a shut.disks.items
  pub cause : AreRaised counts (Some shut.fault) disks shut.disks.items
  pub named : IsNamed (suc layout.volumes) shut.fault
  pub sound : tells → IsNoDamage (Some shut.fault)

-- The transactions without outcome are backed out: the primary runs with none active, over the trail as a restart leaves it, and so many there were.
pub record IsBackedOut {D : Type 0} {d : Ghosts D} (tells : Type 0) (files : D → Disk) (counts : D → Counts) (s : Tmf D d) (backed_out : ℕ) (p : Primary D d) : Type 0 where
  pub ok : tells → RunsWith files (after_restart (tmf_trail s)) set.empty p.tmf
  pub says : backed_out ≡ set.len (open_in (tmf_trail s))
  pub up : IsUp p
  pub sized : tmf_volumes p.tmf ≡ tmf_volumes s
  pub cause : AreCaused counts None (disks_of s.store.trail s.store.volumes.items) (disks_in p)

-- The backout was cut off: what stops leave of the disks is what a restart that was cut off leaves, by a fault of one of the disks, with its cause there, or for want of memory.
pub record IsCutOff {D : Type 0} {d : Ghosts D} (tells : Type 0) (files : D → Disk) (counts : D → Counts) (s : Tmf D d) (shut : Shut D) : Type 0 where
  pub err : tells → (l : Layout) (a : State) → l.volumes ≡ tmf_volumes s → a.standing ≡ Down → a.trail ≡ tmf_trail s → BreaksUp files l a shut.disks.items
  pub cause : AreCaused counts (Some shut.fault) (disks_of s.store.trail s.store.volumes.items) shut.disks.items
  pub named : IsNamed (suc (tmf_volumes s)) shut.fault
  pub sound : tells → IsNoDamage (Some shut.fault)

-- what a call left that was to make the trail this longer one: some first ones of the records that were to come
abbrev pub LeftTowards : {D : Type 0} → (D → Disk) → List Record → List Record → Store D → Type 0
LeftTowards files trail longer store = Left files trail (drop (length trail) longer) store
