-- What a takeover makes of volumes.
use Rattle.std.specs.Prelude.{◌≡◌, ℕ, ◌≤◌, Bool, false, IsTrue, length, List, take, get_or, slice_get, IfSome, Result, Ok, Err, IfErr, OnOk, OnErr}
use Rattle.rdf_types.specs.declared.layout.Layout.{Layout}
use Rattle.rdf_types.specs.declared.records.Record.{Record}
use Rattle.rdf_types.specs.declared.records.Stamped.{Stamped}
use Rattle.rdf_disk.specs.Files.{Disk}
use Rattle.rdf_disk.specs.Counts.{Counts, Causes}
use Rattle.rdf_disk.specs.Outcomes.{Durably}
use Rattle.rdf_gatelog.specs.declared.fault.LogFault.TheVariants as log
use Rattle.rdf_gatelog.specs.LogCauses.{ending, NotDamaged}
use Rattle.rdf_types.specs.Entries.{RiseFrom}
use Rattle.rdf_model.specs.Contents.{nothing}
use Rattle.rdf_model.specs.Legal.{Legal}
use Rattle.rdf_model.specs.Window.{low, part}
use Rattle.rdf_volume.specs.declared.volume.Volume.{Volume}
use Rattle.rdf_volume.specs.Views.{rows_of, restart_of, disk_of, InUse}
use Rattle.takeover_undo.specs.Undo.{Ended, lent}
use Rattle.node_faults.specs.declared.NodeFault.{NodeFault}
use Rattle.rdf_core.specs.Layouts.{protects}
use Rattle.rdf_core.specs.Backup.{Backup as State, Taking, Taken, with_volumes, kept_of}
use Rattle.rdf_backup.specs.declared.audit.KeptAudit.{KeptAudit}
use Rattle.rdf_backup.specs.Damage.{IsTooFar}
use Rattle.rdf_backup.specs.FirstFaults.{Answer, first_fault}
use Rattle.rdf_backup.specs.Parting.{IfCome}
use Rattle.rdf_backup.specs.Standing.{IsShown, VolumeStandsFor}

-- the entries that are kept
abbrev pub entries_of : KeptAudit → List Stamped
entries_of audit = lent audit.part.items

-- what is kept of the trail that the backup has received: its part from the first kept position on, the transactions with an outcome there, its end, and the low position
pub record IsKeptBy (layout : Layout) (trail : List Record) (b : State) (audit : KeptAudit) : Type 0 where
  pub legal : Legal nothing (take b.received trail)
  pub within : b.received ≤ length trail
  pub early : kept_of b ≤ low (protects layout) (take b.received trail)
  pub part : entries_of audit ≡ part (protects layout) (kept_of b) (take b.received trail)
  pub ended : Ended audit.ended (entries_of audit)
  pub upto : audit.upto ≡ b.received
  pub low : audit.low ≡ low (protects layout) (take b.received trail)

-- the backup where a takeover is under way
abbrev pub taking : State → State
taking b = with_volumes b Taking

-- and where it has ended, up to all that was received
abbrev pub taken : State → State
taken b = with_volumes b (Taken b.received)

-- each volume shows what it has to in that state
abbrev pub AreShown : {D : Type 0} → Layout → List Record → State → List (Volume D) → Type 0
AreShown layout trail b volumes = (i : ℕ) → IfSome (slice_get volumes i) (λ volume. IsShown layout trail b i (rows_of volume) (restart_of volume))

-- each volume's disk durably stands for a takeover that is under way
abbrev pub AreLeft : {D : Type 0} → (D → Disk) → Layout → List Record → State → List (Volume D) → Type 0
AreLeft files layout trail b volumes = (i : ℕ) → IfSome (slice_get volumes i) (λ volume. Durably (files (disk_of volume)) (VolumeStandsFor layout trail (taking b) i))

-- the volumes may be used
abbrev pub AreInUse : {D : Type 0} → (D → Disk) → List (Volume D) → Type 0
AreInUse files volumes = (i : ℕ) → IfSome (slice_get volumes i) (λ volume. InUse files volume)

-- this holds of one protected volume over what is kept, where a takeover of it may be under way
abbrev pub WhereKept : {D : Type 0} → KeptAudit → ℕ → Volume D → (Layout → List Record → State → Type 0) → Type 0
WhereKept audit v volume Holds = (layout : Layout) (trail : List Record) (b : State) → IsKeptBy layout trail b audit → IsTrue (protects layout v) → IsShown layout trail (taking b) v (rows_of volume) (restart_of volume) → Holds layout trail b

-- it is taken over then
abbrev pub TakesOver : {D : Type 0} → KeptAudit → ℕ → Volume D → Volume D → Type 0
TakesOver audit v old new = WhereKept audit v old (λ layout trail b. IsShown layout trail (taken b) v (rows_of new) (restart_of new))

-- or its disk durably stands for a takeover that is under way
abbrev pub StaysTaking : {D : Type 0} → (D → Disk) → KeptAudit → ℕ → Volume D → Volume D → Type 0
StaysTaking files audit v old new = WhereKept audit v old (λ layout trail b. Durably (files (disk_of new)) (VolumeStandsFor layout trail (taking b) v))

-- a protected volume may be taken over, and is not yet
pub record MayTake {D : Type 0} (tells : Type 0) (files : D → Disk) (audit : KeptAudit) (answer : Answer) (volume : Volume D) : Type 0 where
  pub rising : RiseFrom 0 (entries_of audit)
  pub in_use : tells → InUse files volume
  pub unrun : answer ≡ Err log.NoMemory

-- what the takeover of a protected volume makes of it
pub record HasTaken {D : Type 0} (tells : Type 0) (files : D → Disk) (counts : D → Counts) (audit : KeptAudit) (v : ℕ) (answer : Answer) (old new : Volume D) : Type 0 where
  pub ok : tells → OnOk answer (InUse files new)
  pub taken : OnOk answer (TakesOver audit v old new)
  pub err : tells → OnErr answer (StaysTaking files audit v old new)
  pub cause : Causes (ending answer) (counts (disk_of old)) (counts (disk_of new))
  pub sound : tells → WhereKept audit v old (λ layout trail b. NotDamaged answer)
  pub damaged : IfErr answer (IsTooFar tells audit.upto old)

-- the volumes that are flagged are taken over, each with its answer, and the first fault is answered
pub record HaveTaken {D : Type 0} (tells : Type 0) (files : D → Disk) (counts : D → Counts) (audit : KeptAudit) (flags : List Bool) (result : Result (Unit {0}) NodeFault) (old new : List (Volume D)) : Type 0 where
  pub answers : List Answer
  pub first : result ≡ first_fault 1 (Ok tt) answers
  pub each : (i : ℕ) → IfCome (λ v answer was is. HasTaken tells files counts audit v answer was is) i (get_or flags i false) (get_or answers i (Ok tt)) (slice_get old i) (slice_get new i)

-- this holds over what is kept in a layout, where a takeover of the volumes may be under way
abbrev pub WhereTaking : {D : Type 0} → KeptAudit → Layout → List (Volume D) → (List Record → State → Type 0) → Type 0
WhereTaking audit layout volumes Holds = (trail : List Record) (b : State) → IsKeptBy layout trail b audit → AreShown layout trail (taking b) volumes → Holds trail b
