-- Which counted call of a disk in a folder stops, and how calls are counted.
use Rattle.std.specs.Prelude.{◌≡◌, ◌≢◌, ℕ, ◌+◌, ◌-◌, ◌==◌, min, Bool, true, false, Option, Some, None, Result, Ok, Err, if◌then◌else◌}
use Rattle.rdf_types.specs.Counts.{most}
use Rattle.rdf_disk.specs.Counts.{Counts}
use Rattle.rdf_disk.specs.declared.fault.DiskFault.{DiskFault}
use Rattle.rdf_disk.specs.declared.fault.DiskFault.TheVariants.{Stopped as DiskStopped, Failed as DiskFailed, NoMemory as DiskNoMemory}
use Rattle.folder_disk.specs.declared.call_fault.CallFault.{CallFault}
use Rattle.folder_disk.specs.declared.call_fault.CallFault.TheVariants.{Failed, NoMemory}
use Rattle.folder_disk.specs.declared.meter.Meter.{Meter}

-- what a meter tells of its disk
abbrev pub meter_counts : Meter → Counts
meter_counts m = record { faults = m.faults; stops = m.stops; fuses = m.fuses; off = m.off }

abbrev pub no_counts : Meter
no_counts = record { faults = 0; stops = 0; fuses = 0; off = false; fuse = None }

-- with no call left before it, a fuse stops the next call
abbrev pub is_due : Option ℕ → Bool
is_due None = false
is_due (Some left) = left == 0

-- whether the next counted call stops
abbrev pub stops_next : Meter → Bool
stops_next m = if m.off then true else is_due m.fuse

-- a counted call uses up one of those before the fuse
abbrev pub less_one : Option ℕ → Option ℕ
less_one None = None
less_one (Some left) = Some (left - 1)

abbrev pub burnt : Meter → Meter
burnt m = record m { fuse = less_one m.fuse }

abbrev pub with_fault : Meter → Meter
with_fault m = record m { faults = min (m.faults + 1) most }

-- a disk that is off counts no further stop
abbrev pub stopped : Meter → Meter
stopped m = if m.off then m else record m { stops = min (m.stops + 1) most; off = true; fuse = None }

abbrev pub with_fuse : ℕ → Meter → Meter
with_fuse calls m = record m { fuses = min (m.fuses + 1) most; fuse = Some calls }

-- a restart that was not done counts as a fault, and leaves the disk off
abbrev pub restarted : {T : Type 0} → Result T DiskFault → Meter → Meter
restarted (Ok x) m = record m { off = false }
restarted (Err e) m = with_fault m

-- a call that may go on has changed no count
abbrev pub Begins : {T : Type 0} → Result T DiskFault → Meter → Meter → Type 0
Begins (Ok x) old new = (stops_next old ≡ false) × (new ≡ old)
Begins (Err e) old new = (e ≡ DiskStopped) × (stops_next old ≡ true) × (new ≡ stopped old)

-- what the folder answers is the answer of the disk
abbrev pub fault_of : CallFault → DiskFault
fault_of Failed = DiskFailed
fault_of NoMemory = DiskNoMemory

abbrev pub answer_of : {T : Type 0} → Result T CallFault → Result T DiskFault
answer_of (Ok x) = Ok x
answer_of (Err e) = Err (fault_of e)

-- how an answer is counted where the call went on to the folder
abbrev pub ended_by : DiskFault → Meter → Meter
ended_by DiskStopped m = stopped m
ended_by DiskFailed m = with_fault (burnt m)
ended_by DiskNoMemory m = m

abbrev pub Ends : {T : Type 0} → Result T DiskFault → Meter → Meter → Type 0
Ends (Ok x) old new = new ≡ burnt old
Ends (Err e) old new = (e ≢ DiskStopped) × (new ≡ ended_by e old)

-- a counted call stops exactly where the disk is off or its fuse is due, and each answer is counted
abbrev pub is_stop : {T : Type 0} → Result T DiskFault → Bool
is_stop (Ok x) = false
is_stop (Err DiskStopped) = true
is_stop (Err DiskFailed) = false
is_stop (Err DiskNoMemory) = false

abbrev pub meter_after : {T : Type 0} → Result T DiskFault → Meter → Meter
meter_after (Ok x) m = burnt m
meter_after (Err e) m = ended_by e m

pub record IsCounted {T : Type 0} (answer : Result T DiskFault) (old new : Meter) : Type 0 where
  pub stop : is_stop answer ≡ stops_next old
  pub meter : new ≡ meter_after answer old
