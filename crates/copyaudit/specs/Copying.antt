-- What a copy of audit from one backup's image trails makes of another's.
use Rattle.std.specs.Prelude.{◌≡◌, ℕ, ◌+◌, ◌-◌, ◌<◌, ◌≤◌, ◌&&◌, max, nat_lt, nat_le, if◌then◌else◌, List, [], ◌∷◌, ◌++◌, Result, Ok, Err, OnOk, OnErr, IfOk}
use Rattle.rdf_types.specs.declared.records.Record.{Record}
use Rattle.rdf_types.specs.declared.records.Stamped.{Stamped}
use Rattle.rdf_disk.specs.Files.{Disk}
use Rattle.rdf_disk.specs.Counts.{Counts, Causes, Ending}
use Rattle.rdf_disk.specs.Counts.Ending.{Fine}
use Rattle.rdf_gatelog.specs.LogCauses.{ending_of_fault}
use Rattle.rdf_gatelog.specs.declared.fault.LogFault.{LogFault}
use Rattle.rdf_gatelog.specs.declared.fault.LogFault.TheVariants.{Damaged}
use Rattle.image_disks.specs.Blocks.{Plan}
use Rattle.image_disks.specs.Values.{Value, Alike, Shipment, received, kept, merged, listed, stages, took}
use Rattle.image_disks.specs.Held.{Holds}
use Rattle.image_trails.specs.declared.trails.ImageTrails.{ImageTrails}
use Rattle.image_trails.specs.Trails.{trails_disk, trails_layout, trails_plan, trails_value, AreInUse, LeavesOne, LeavesHeld, KeepsHeld, KeepsPhase, Stays}
use Rattle.rdf_core.specs.Backup.{ends}
use Rattle.copyaudit.specs.declared.CopyFault.{CopyFault}
use Rattle.copyaudit.specs.declared.CopyFault.TheVariants.{Purged, Log}

-- what the leading trails have on the positions from one to below another, as a message
abbrev pub part_of : Value → ℕ → ℕ → Shipment
part_of lead from to = record { from = from; to = to; part = listed (merged lead) from (to - from) }

-- after messages up to these positions, one after another, each as the receiver takes it
unfoldable pub copied : Plan → Value → List ℕ → Value → Value
copied plan lead [] lag = lag
copied plan lead (to ∷ more) lag = copied plan lead more (took plan (part_of lead (received lag) to) lag)

-- what these pass through
unfoldable pub copy_stages : Plan → Value → List ℕ → Value → List Value
copy_stages plan lead [] lag = lag ∷ []
copy_stages plan lead (to ∷ more) lag = stages plan (part_of lead (received lag) to) lag ++ copy_stages plan lead more (took plan (part_of lead (received lag) to) lag)

-- the ends of the messages: of 64 positions each, the last one of what is left
abbrev pub message_ends : Value → Value → List ℕ
message_ends lead lag = ends (received lead - received lag) (received lag) (received lead)

-- the received position is between that of the one and the greater one of both
abbrev pub IsBetween : Value → Value → Value → Type 0
IsBetween lead lag v = (received lag ≤ received v) × (received v ≤ max (received lag) (received lead))

-- both have these records, as far as they received them
abbrev pub BothHold : Plan → Value → Value → List Record → Type 0
BothHold plan lead lag trail = Holds plan trail lead × Holds plan trail lag

-- purged exactly where the received position is below the kept one, which it names
abbrev pub IsPurgedRightly : ℕ → ℕ → Result ℕ CopyFault → Type 0
IsPurgedRightly at kept (Ok n) = kept ≤ at
IsPurgedRightly at kept (Err (Purged first)) = (at < kept) × (first ≡ at)
IsPurgedRightly at kept (Err (Log fault)) = kept ≤ at

-- the copy was refused
abbrev pub IsPurged : Result ℕ CopyFault → Type 0
IsPurged (Ok n) = ⊥
IsPurged (Err (Purged first)) = Unit {0}
IsPurged (Err (Log fault)) = ⊥

-- it ended by a fault of the disk
abbrev pub IsBroken : Result ℕ CopyFault → Type 0
IsBroken (Ok n) = ⊥
IsBroken (Err (Purged first)) = ⊥
IsBroken (Err (Log fault)) = Unit {0}

-- how a call ended, as far as the counts of its disk go
abbrev pub ending : Result ℕ CopyFault → Ending
ending (Ok n) = Fine
ending (Err (Purged first)) = Fine
ending (Err (Log fault)) = ending_of_fault fault

-- the answer isn't that a file is damaged
abbrev pub NotDamaged : Result ℕ CopyFault → Type 0
NotDamaged r = (file at : ℕ) → r ≡ Err (Log (Damaged file at)) → ⊥

-- the first entries whose positions rise from one on and stay below another
abbrev pub first_rising : ℕ → ℕ → List Stamped → List Stamped
first_rising from to [] = []
first_rising from to (s ∷ rest) = if nat_le from s.pos && nat_lt s.pos to then s ∷ first_rising (s.pos + 1) to rest else []

-- both trails hold these records, as far as they received them
abbrev pub AreBothHeld : {D : Type 0} → ImageTrails D → ImageTrails D → List Record → Type 0
AreBothHeld lead lag trail = BothHold (trails_plan lag) (trails_value lead) (trails_value lag) trail

-- What a part of a copy does that leads to this value and passes through those, whatever it answers.
pub record Copies {D T : Type 0} (tells : Type 0) (files : D → Disk) (counts : D → Counts) (next : Value) (passed : List Value) (lead old : ImageTrails D) (result : Result T LogFault) (new : ImageTrails D) : Type 0 where
  -- done, the trails are in use
  pub ok : tells → OnOk result (AreInUse files new)
  -- and stand for this
  pub value : tells → OnOk result (Alike (trails_value new) next)
  -- in the phase that they were in
  pub phase : KeepsPhase result old new
  -- ended by a fault, the disk durably stands for one of what it passes through
  pub err : tells → OnErr result (LeavesOne files passed old new)
  -- a trail that both held is held on
  pub held : tells → OnOk result (KeepsHeld (AreBothHeld lead old) old new)
  -- also by what is left after a fault
  pub left : tells → OnErr result (LeavesHeld files (AreBothHeld lead old) old new)
  -- the layout stays, a fault has its cause, and no damage is told
  pub stays : Stays counts result old new

-- the next message of a copy
abbrev pub CopiesNext : {D T : Type 0} → Type 0 → (D → Disk) → (D → Counts) → Shipment → ImageTrails D → ImageTrails D → Result T LogFault → ImageTrails D → Type 0
CopiesNext tells files counts ship lead old result new = Copies tells files counts (took (trails_plan old) ship (trails_value old)) (stages (trails_plan old) ship (trails_value old)) lead old result new

-- all that is left to copy
abbrev pub CopiesRest : {D T : Type 0} → Type 0 → (D → Disk) → (D → Counts) → ImageTrails D → ImageTrails D → Result T LogFault → ImageTrails D → Type 0
CopiesRest tells files counts lead old result new =
    let ends = message_ends (trails_value lead) (trails_value old) in
    Copies tells files counts (copied (trails_plan old) (trails_value lead) ends (trails_value old)) (copy_stages (trails_plan old) (trails_value lead) ends (trails_value old)) lead old result new

-- What a copy does, whatever it answers.
pub record Fetches {D : Type 0} (tells : Type 0) (files : D → Disk) (counts : D → Counts) (lead old : ImageTrails D) (result : Result ℕ CopyFault) (new : ImageTrails D) : Type 0 where
  -- done, the trails are in use
  pub ok : tells → OnOk result (AreInUse files new)
  -- and stand for what was, with each message taken
  pub value : tells → OnOk result (Alike (trails_value new) (copied (trails_plan old) (trails_value lead) (message_ends (trails_value lead) (trails_value old)) (trails_value old)))
  -- in the phase that they were in
  pub phase : KeepsPhase result old new
  -- they have received what either had
  pub upto : tells → OnOk result (received (trails_value new) ≡ max (received (trails_value old)) (received (trails_value lead)))
  -- the answer is how many positions were copied
  pub count : IfOk result (λ n. n ≡ received (trails_value lead) - received (trails_value old))
  -- it is refused as purged exactly where the leading trails keep what comes next no longer
  pub refusal : IsPurgedRightly (received (trails_value old)) (kept (trails_value lead)) result
  -- a refusal leaves what was
  pub purged : IsPurged result → new ≡ old
  -- ended by a fault, the disk durably stands for one of what the copy passes through
  pub err : tells → IsBroken result → LeavesOne files (copy_stages (trails_plan old) (trails_value lead) (message_ends (trails_value lead) (trails_value old)) (trails_value old)) old new
  -- a trail that both held is held on
  pub held : tells → OnOk result (KeepsHeld (AreBothHeld lead old) old new)
  -- also by what is left after a fault
  pub left : tells → IsBroken result → LeavesHeld files (AreBothHeld lead old) old new
  -- the layout stays
  pub layout : trails_layout new ≡ trails_layout old
  -- a fault has its cause in the counts of the disk
  pub cause : Causes (ending result) (counts (trails_disk old)) (counts (trails_disk new))
  -- no damage is told
  pub sound : NotDamaged result
