-- Image trails as a caller sees them, and what their calls leave.
use Rattle.std.specs.Prelude.{◌≡◌, ◌≢◌, ℕ, ◌<◌, ◌≤◌, true, false, List, Result, OnOk}
use Rattle.rdf_types.specs.declared.layout.Layout.{Layout}
use Rattle.rdf_types.specs.declared.records.Record.{Record}
use Rattle.rdf_disk.specs.Files.{Disk}
use Rattle.rdf_disk.specs.Counts.{Counts, Causes}
use Rattle.rdf_disk.specs.Outcomes.{Durably}
use Rattle.rdf_gatelog.specs.declared.fault.LogFault.{LogFault}
use Rattle.rdf_gatelog.specs.LogCauses.{ending, NotDamaged}
use Rattle.image_disks.specs.Blocks.{Plan}
use Rattle.image_disks.specs.Held.{Holds, IsPartOf}
use Rattle.image_disks.specs.Spelled.{block_of}
use Rattle.image_disks.specs.Standing.{StandsEither, StandsForOne}
use Rattle.image_disks.specs.Values.{Value, Alike, Shipment}
use Rattle.image_trails.specs.declared.trails.ImageTrails.{ImageTrails}
use Rattle.image_trails.specs.Keeps.{StandsHolding}
use Rattle.image_trails.specs.Memory.{IsInUse, plan_of, value_in}

-- the layout that they were made by
abbrev pub trails_layout : {D : Type 0} → ImageTrails D → Layout
trails_layout trails = trails.memory.layout

-- their disk
abbrev pub trails_disk : {D : Type 0} → ImageTrails D → D
trails_disk trails = trails.disk

-- how it keeps a backup's audit
abbrev pub trails_plan : {D : Type 0} → ImageTrails D → Plan
trails_plan trails = plan_of (trails_layout trails)

-- what they stand for
abbrev pub trails_value : {D : Type 0} → ImageTrails D → Value
trails_value trails = value_in trails.memory

-- they are in use on their disk, which is as the memory says
abbrev pub AreInUse : {D : Type 0} → (D → Disk) → ImageTrails D → Type 0
AreInUse files trails = IsInUse block_of trails.memory (files (trails_disk trails))

-- of this trail they hold what they stand for
abbrev pub AreHeld : {D : Type 0} → ImageTrails D → List Record → Type 0
AreHeld trails trail = Holds (trails_plan trails) trail (trails_value trails)

-- and the shipment is a part of it
abbrev pub AreHeldWith : {D : Type 0} → Shipment → ImageTrails D → List Record → Type 0
AreHeldWith ship trails trail = IsPartOf (trails_plan trails) trail ship × AreHeld trails trail

-- each secondary that has files has what is below that position
abbrev pub AreUpTo : {D : Type 0} → ℕ → ImageTrails D → Type 0
AreUpTo to trails = (u : ℕ) → u < 4 → (trails_plan trails).used u ≡ true → u ≢ 0 → to ≤ (trails_value trails).top u

-- the disk durably stands for what the trails before stood for, or for this value
abbrev pub LeavesEither : {D : Type 0} → (D → Disk) → Value → ImageTrails D → ImageTrails D → Type 0
LeavesEither files next old new = Durably (files (trails_disk new)) (StandsEither block_of (trails_plan old) (trails_value old) next)

-- the disk durably stands for one of these values
abbrev pub LeavesOne : {D : Type 0} → (D → Disk) → List Value → ImageTrails D → ImageTrails D → Type 0
LeavesOne files values old new = Durably (files (trails_disk new)) (StandsForOne block_of (trails_plan old) values)

-- the disk durably stands for a value that holds each of these trails
abbrev pub LeavesHeld : {D : Type 0} → (D → Disk) → (List Record → Type 0) → ImageTrails D → ImageTrails D → Type 0
LeavesHeld files H old new = Durably (files (trails_disk new)) (StandsHolding block_of (trails_plan old) H)

-- each of these trails is held by what the trails then stand for
abbrev pub KeepsHeld : {D : Type 0} → (List Record → Type 0) → ImageTrails D → ImageTrails D → Type 0
KeepsHeld H old new = (trail : List Record) → H trail → Holds (trails_plan old) trail (trails_value new)

-- they are in use, and stand for this
pub record StandAt {D : Type 0} (files : D → Disk) (next : Value) (new : ImageTrails D) : Type 0 where
  pub in_use : AreInUse files new
  pub value : Alike (trails_value new) next

-- they are on the disk that was, which is on, and have this layout
pub record AreOpened {D : Type 0} (counts : D → Counts) (layout : Layout) (disk : D) (trails : ImageTrails D) : Type 0 where
  pub laid : trails_layout trails ≡ layout
  pub on : (counts (trails_disk trails)).off ≡ false
  pub uncounted : counts (trails_disk trails) ≡ counts disk

-- done, they are in the phase that they were in
abbrev pub KeepsPhase : {D T F : Type 0} → Result T F → ImageTrails D → ImageTrails D → Type 0
KeepsPhase result old new = OnOk result ((trails_value new).phase ≡ (trails_value old).phase)

-- the layout stays, a fault has its cause in the counts of the disk, and no damage is told
pub record Stays {D : Type 0} {T : Type 0} (counts : D → Counts) (result : Result T LogFault) (old new : ImageTrails D) : Type 0 where
  pub layout : trails_layout new ≡ trails_layout old
  pub cause : Causes (ending result) (counts (trails_disk old)) (counts (trails_disk new))
  pub sound : NotDamaged result
