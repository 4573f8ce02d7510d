-- What a shipment makes of a backup's image trails, and what the call that stores it does.
use Rattle.std.specs.Prelude.{◌≡◌, ℕ, ◌<◌, ◌≤◌, max, Result, Ok, Err, OnOk, OnErr, IfOk}
use Rattle.rdf_disk.specs.Files.{Disk}
use Rattle.rdf_disk.specs.Counts.{Counts, Causes, Ending}
use Rattle.rdf_disk.specs.Counts.Ending.{Fine}
use Rattle.rdf_gatelog.specs.LogCauses.{ending_of_fault}
use Rattle.rdf_gatelog.specs.declared.fault.LogFault.TheVariants.{Damaged}
use Rattle.image_disks.specs.Values.{Alike, Shipment, received, stages, took}
use Rattle.image_trails.specs.declared.trails.ImageTrails.{ImageTrails}
use Rattle.image_trails.specs.Trails.{trails_disk, trails_layout, trails_plan, trails_value, AreInUse, AreHeldWith, LeavesOne, LeavesHeld, KeepsHeld, KeepsPhase}
use Rattle.receiver.specs.declared.ReceiveFault.{ReceiveFault}
use Rattle.receiver.specs.declared.ReceiveFault.TheVariants.{Gap, Log}

-- a gap is refused exactly where the shipment begins behind what is received
abbrev pub IsRefusal : ℕ → ℕ → Result ℕ ReceiveFault → Type 0
IsRefusal at from (Ok pos) = from ≤ at
IsRefusal at from (Err (Gap received)) = (at < from) × (received ≡ at)
IsRefusal at from (Err (Log fault)) = from ≤ at

-- the shipment was refused as a gap
abbrev pub IsGap : Result ℕ ReceiveFault → Type 0
IsGap (Ok pos) = ⊥
IsGap (Err (Gap received)) = Unit {0}
IsGap (Err (Log fault)) = ⊥

-- how a call ended, as far as the counts of its disk go
abbrev pub ending : Result ℕ ReceiveFault → Ending
ending (Ok pos) = Fine
ending (Err (Gap received)) = Fine
ending (Err (Log fault)) = ending_of_fault fault

-- the answer isn't that a file is damaged
abbrev pub NotDamaged : Result ℕ ReceiveFault → Type 0
NotDamaged r = (file at : ℕ) → r ≡ Err (Log (Damaged file at)) → ⊥

-- What the call does with a shipment, whatever it answers.
pub record Takes {D : Type 0} (tells : Type 0) (files : D → Disk) (counts : D → Counts) (ship : Shipment) (old : ImageTrails D) (result : Result ℕ ReceiveFault) (new : ImageTrails D) : Type 0 where
  -- done, the trails are in use
  pub ok : tells → OnOk result (AreInUse files new)
  -- and stand for what was, with what is new in the shipment
  pub value : tells → OnOk result (Alike (trails_value new) (took (trails_plan old) ship (trails_value old)))
  -- in the phase that they were in
  pub phase : KeepsPhase result old new
  -- the answer is the received position
  pub answer : IfOk result (λ at. at ≡ max (received (trails_value old)) ship.to)
  -- a gap is refused, and nothing else is
  pub refusal : IsRefusal (received (trails_value old)) ship.from result
  -- a refusal leaves what was
  pub gap : IsGap result → new ≡ old
  -- ended by a fault, the disk durably stands for one of what the store passes through
  pub err : tells → OnErr result (LeavesOne files (stages (trails_plan old) ship (trails_value old)) old new)
  -- a trail that was held, and that the shipment is a part of, is held on
  pub held : tells → OnOk result (KeepsHeld (AreHeldWith ship old) old new)
  -- also by what is left after a fault
  pub left : tells → OnErr result (LeavesHeld files (AreHeldWith ship old) old new)
  -- the layout stays
  pub layout : trails_layout new ≡ trails_layout old
  -- a fault has its cause in the counts of the disk
  pub cause : Causes (ending result) (counts (trails_disk old)) (counts (trails_disk new))
  -- no damage is told
  pub sound : NotDamaged result
