-- What the statuses of the program say.
use Rattle.std.specs.Prelude.{◌≡◌, ℕ, ◌&&◌, ◌==◌, true, if◌then◌else◌}
use Rattle.rdf_types.specs.declared.layout.Layout.{Layout}
use Rattle.rdf_types.specs.declared.records.Node.{Node}
use Rattle.rdf_disk.specs.Counts.{Ending, Fine, Stop, Fault}
use Rattle.rdf_ports.specs.Counts.{Faulted}
use Rattle.rdf_ports.specs.declared.whole.ReadAllFault.{ReadAllFault}
use Rattle.rdf_ports.specs.declared.whole.ReadAllFault.TheVariants as read
use Rattle.plan_lang.specs.LineText.{same_node}
use Rattle.rdf_system.specs.Place.{is_used}
use Rattle.rdf_run.specs.declared.status.Status.{Status}
use Rattle.rdf_run.specs.declared.status.Status.TheVariants.{Done, BadWords, ReadFault, WriteFault, DeviceFault, NoMemory, Damaged, NotBlank, TooLong, StoppedEarly, BadPlan}

-- the exit status of the program
abbrev pub status_number : Status → ℕ
status_number Done = 0
status_number BadWords = 2
status_number ReadFault = 4
status_number WriteFault = 5
status_number (DeviceFault node disk) = 6
status_number NoMemory = 7
status_number (Damaged node disk file at) = 8
status_number (NotBlank node disk) = 9
status_number TooLong = 10
status_number (StoppedEarly node disk) = 11
status_number (BadPlan line why) = 3

-- how the run ended for the disk at a place: it failed, or stopped, only where the status names it
abbrev pub ending_at : Status → Node → ℕ → Ending
ending_at (DeviceFault named disk) node i = if same_node named node && disk == i then Fault else Fine
ending_at (StoppedEarly named disk) node i = if same_node named node && disk == i then Stop else Fine
ending_at Done node i = Fine
ending_at BadWords node i = Fine
ending_at ReadFault node i = Fine
ending_at WriteFault node i = Fine
ending_at NoMemory node i = Fine
ending_at (Damaged named disk file at) node i = Fine
ending_at (NotBlank named disk) node i = Fine
ending_at TooLong node i = Fine
ending_at (BadPlan line why) node i = Fine

-- the source's count of faults rose exactly where the status says that it failed
abbrev pub SourceAfter : Status → ℕ → ℕ → Type 0
SourceAfter ReadFault old new = Faulted old new
SourceAfter Done old new = new ≡ old
SourceAfter BadWords old new = new ≡ old
SourceAfter WriteFault old new = new ≡ old
SourceAfter (DeviceFault node disk) old new = new ≡ old
SourceAfter NoMemory old new = new ≡ old
SourceAfter (Damaged node disk file at) old new = new ≡ old
SourceAfter (NotBlank node disk) old new = new ≡ old
SourceAfter TooLong old new = new ≡ old
SourceAfter (StoppedEarly node disk) old new = new ≡ old
SourceAfter (BadPlan line why) old new = new ≡ old

-- the sink's count of faults rose exactly where the status says that it failed
abbrev pub SinkAfter : Status → ℕ → ℕ → Type 0
SinkAfter WriteFault old new = Faulted old new
SinkAfter Done old new = new ≡ old
SinkAfter BadWords old new = new ≡ old
SinkAfter ReadFault old new = new ≡ old
SinkAfter (DeviceFault node disk) old new = new ≡ old
SinkAfter NoMemory old new = new ≡ old
SinkAfter (Damaged node disk file at) old new = new ≡ old
SinkAfter (NotBlank node disk) old new = new ≡ old
SinkAfter TooLong old new = new ≡ old
SinkAfter (StoppedEarly node disk) old new = new ≡ old
SinkAfter (BadPlan line why) old new = new ≡ old

-- the run ended before its disks were looked at
abbrev pub IsUnbegun : Status → Type 0
IsUnbegun BadWords = Unit {0}
IsUnbegun ReadFault = Unit {0}
IsUnbegun TooLong = Unit {0}
IsUnbegun (BadPlan line why) = Unit {0}
IsUnbegun Done = ⊥
IsUnbegun WriteFault = ⊥
IsUnbegun (DeviceFault node disk) = ⊥
IsUnbegun NoMemory = ⊥
IsUnbegun (Damaged node disk file at) = ⊥
IsUnbegun (NotBlank node disk) = ⊥
IsUnbegun (StoppedEarly node disk) = ⊥

-- the bytes were no plan
abbrev pub IsBadPlan : Status → Type 0
IsBadPlan (BadPlan line why) = Unit {0}
IsBadPlan Done = ⊥
IsBadPlan BadWords = ⊥
IsBadPlan ReadFault = ⊥
IsBadPlan WriteFault = ⊥
IsBadPlan (DeviceFault node disk) = ⊥
IsBadPlan NoMemory = ⊥
IsBadPlan (Damaged node disk file at) = ⊥
IsBadPlan (NotBlank node disk) = ⊥
IsBadPlan TooLong = ⊥
IsBadPlan (StoppedEarly node disk) = ⊥

-- the status tells of no disk
abbrev pub UsesNoDisk : Status → Type 0
UsesNoDisk Done = Unit {0}
UsesNoDisk BadWords = Unit {0}
UsesNoDisk (BadPlan line why) = Unit {0}
UsesNoDisk ReadFault = Unit {0}
UsesNoDisk WriteFault = Unit {0}
UsesNoDisk NoMemory = Unit {0}
UsesNoDisk TooLong = Unit {0}
UsesNoDisk (DeviceFault node disk) = ⊥
UsesNoDisk (Damaged node disk file at) = ⊥
UsesNoDisk (NotBlank node disk) = ⊥
UsesNoDisk (StoppedEarly node disk) = ⊥

-- the disk that the status names is one that is used
abbrev pub NamesUsedDisk : Layout → Status → Type 0
NamesUsedDisk layout (DeviceFault node disk) = is_used layout node disk ≡ true
NamesUsedDisk layout (NotBlank node disk) = is_used layout node disk ≡ true
NamesUsedDisk layout (StoppedEarly node disk) = is_used layout node disk ≡ true
NamesUsedDisk layout Done = Unit {0}
NamesUsedDisk layout BadWords = Unit {0}
NamesUsedDisk layout (BadPlan line why) = Unit {0}
NamesUsedDisk layout ReadFault = Unit {0}
NamesUsedDisk layout WriteFault = Unit {0}
NamesUsedDisk layout NoMemory = Unit {0}
NamesUsedDisk layout (Damaged node disk file at) = is_used layout node disk ≡ true
NamesUsedDisk layout TooLong = Unit {0}

-- the run ended while a plan was performed or its disks were looked at, or after that, or for want of memory
abbrev pub IsBegun : Status → Type 0
IsBegun Done = Unit {0}
IsBegun WriteFault = Unit {0}
IsBegun (DeviceFault node disk) = Unit {0}
IsBegun NoMemory = Unit {0}
IsBegun (Damaged node disk file at) = Unit {0}
IsBegun (NotBlank node disk) = Unit {0}
IsBegun (StoppedEarly node disk) = Unit {0}
IsBegun BadWords = ⊥
IsBegun ReadFault = ⊥
IsBegun TooLong = ⊥
IsBegun (BadPlan line why) = ⊥

-- nothing is damaged
abbrev pub IsSound : Status → Type 0
IsSound (Damaged node disk file at) = ⊥
IsSound Done = Unit {0}
IsSound BadWords = Unit {0}
IsSound ReadFault = Unit {0}
IsSound WriteFault = Unit {0}
IsSound (DeviceFault node disk) = Unit {0}
IsSound NoMemory = Unit {0}
IsSound (NotBlank node disk) = Unit {0}
IsSound TooLong = Unit {0}
IsSound (StoppedEarly node disk) = Unit {0}
IsSound (BadPlan line why) = Unit {0}

-- the fault of the source
abbrev pub status_of_source : ReadAllFault → Status
status_of_source read.Failed = ReadFault
status_of_source read.TooLong = TooLong
status_of_source read.NoMemory = NoMemory
