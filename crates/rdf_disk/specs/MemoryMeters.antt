-- Which counted call of a disk in memory stops, which fails, and how they are counted.
use Rattle.std.specs.Prelude.{◌≡◌, ℕ, zero, suc, ◌<◌, ◌+◌, ◌-◌, ◌==◌, min, true, false, nat_eq, nat_lt, Vec, Option, Some, None, Result, Ok, Err, ⊤, if◌then◌else◌}
use Rattle.std.specs.List.{list_any}
use Rattle.std.specs.declared.alloc.Global.{Global}
use Rattle.rdf_types.specs.Counts.{most}
use Rattle.rdf_disk.specs.Counts.{Counts}
use Rattle.rdf_disk.specs.declared.fault.DiskFault.{DiskFault}
use Rattle.rdf_disk.specs.declared.fault.DiskFault.TheVariants.{Stopped, Failed}
use Rattle.rdf_disk.specs.declared.fault.Tear.{Tear}
use Rattle.rdf_disk.specs.declared.memory_meter.Fuse.{Fuse}
use Rattle.rdf_disk.specs.declared.memory_meter.Meter.{Meter}
use Rattle.rdf_disk.specs.declared.memory_meter.Turn.{Turn}
use Rattle.rdf_disk.specs.declared.memory_meter.Turn.TheVariants.{Go, Fail, Stop, Off}

abbrev pub counts_of : Meter → Counts
counts_of m = record { faults = m.faults; stops = m.stops; fuses = m.fuses; off = m.off }

-- one more, up to where a count stays
abbrev pub one_more : ℕ → ℕ
one_more n = if nat_lt n most then n + 1 else n

-- a call fails if its number is listed
abbrev pub listed : Meter → Turn
listed m = if list_any (nat_eq m.calls) m.fails.items then Fail else Go

-- with no call left before it, a fuse stops the next call
abbrev pub fused_turn : Option Fuse → Turn → Turn
fused_turn None turn = turn
fused_turn (Some f) turn = if f.left == 0 then Stop f.tear else turn

-- what becomes of the next counted call
abbrev pub turn_of : Meter → Turn
turn_of m = if m.off then Off else fused_turn m.fuse (listed m)

-- a counted call uses up one of those before the fuse
abbrev pub burnt : Option Fuse → Option Fuse
burnt None = None
burnt (Some f) = Some (record { left = f.left - 1; tear = f.tear })

-- the counts after a call; a call on a disk that is off isn't counted
abbrev pub counted : Turn → Meter → Meter
counted Go m = record m { calls = one_more m.calls; fuse = burnt m.fuse }
counted Fail m = record m { faults = one_more m.faults; calls = one_more m.calls; fuse = burnt m.fuse }
counted (Stop tear) m = record m { stops = one_more m.stops; off = true; calls = one_more m.calls; fuse = None }
counted Off m = m

abbrev pub with_fuse : ℕ → Tear → Meter → Meter
with_fuse calls tear m = record m { fuses = min (m.fuses + 1) most; fuse = Some (record { left = calls; tear = tear }) }

abbrev pub blank_meter : Vec ℕ Global → Meter
blank_meter fails = record { faults = 0; stops = 0; fuses = 0; off = false; calls = 0; fuse = None; fails = fails }

-- the answer of a call that takes no memory is the one of its turn
abbrev pub IsAnswer : {T : Type 0} → Turn → Result T DiskFault → Type 0
IsAnswer Go (Ok x) = ⊤
IsAnswer Go (Err e) = ⊥
IsAnswer Fail (Ok x) = ⊥
IsAnswer Fail (Err e) = e ≡ Failed
IsAnswer (Stop tear) (Ok x) = ⊥
IsAnswer (Stop tear) (Err e) = e ≡ Stopped
IsAnswer Off (Ok x) = ⊥
IsAnswer Off (Err e) = e ≡ Stopped

-- after so many more counted calls
unfoldable pub after_calls : ℕ → Meter → Meter
after_calls zero m = m
after_calls (suc k) m = after_calls k (counted (turn_of m) m)

-- of the calls to come the one after so many stops, and each before it goes on, or fails if its number is listed
pub record StopsAfter (calls : ℕ) (tear : Tear) (m : Meter) : Type 0 where
  pub before : (k : ℕ) → k < calls → turn_of (after_calls k m) ≡ listed (after_calls k m)
  pub last : turn_of (after_calls calls m) ≡ Stop tear
