-- What a disk over a folder in memory tells where its power may go.
use Rattle.std.specs.Prelude.{◌≡◌, ◌⊎◌, Result, Ok, Err}
use Rattle.rdf_disk.specs.declared.fault.DiskFault.{DiskFault}
use Rattle.rdf_disk.specs.declared.fault.DiskFault.TheVariants.{Stopped, Failed, NoMemory}
use Rattle.rdf_disk.specs.Files.{Disk}
use Rattle.rdf_disk.specs.Counts.{Counts}
use Rattle.rdf_disk.specs.Calls.{AllSettle}
use Rattle.powered_disk.specs.declared.powered.PoweredDisk.{PoweredDisk}

abbrev pub counts_told : PoweredDisk → Counts
counts_told d = record { faults = d.faults; stops = d.stops; fuses = d.fuses; off = d.disk.meter.off }

-- an answer of the disk below is passed on, but that a failure may be a loss of power, which is a stop
abbrev pub Turned : {T : Type 0} → Result T DiskFault → Result T DiskFault → Disk → Disk → Type 0
Turned (Ok x) told old new = (told ≡ Ok x) × (new ≡ old)
Turned (Err Stopped) told old new = (told ≡ Err Stopped) × (new ≡ old)
Turned (Err Failed) told old new = ((told ≡ Err Failed) × (new ≡ old)) ⊎ ((told ≡ Err Stopped) × AllSettle old new)
Turned (Err NoMemory) told old new = (told ≡ Err NoMemory) × (new ≡ old)
