-- What a run does with a plan.
use Rattle.std.specs.Prelude.{◌≡◌, ◌⊎◌, ℕ, ◌≤◌, Bool, true, List, [], length, Option, IfSome}
use Rattle.rdf_types.specs.declared.layout.Layout.{Layout}
use Rattle.rdf_types.specs.declared.records.Node.{Node}
use Rattle.rdf_disk.specs.Files.{Disk}
use Rattle.rdf_disk.specs.Counts.{Counts}
use Rattle.plan_lang.specs.declared.lines.Plan.{Plan}
use Rattle.plan_lang.specs.PlanText.{IsPlan}
use Rattle.plan_lang.specs.declared.why.PlanWhy.{PlanWhy}
use Rattle.plan_lang.specs.Grammar.{Reads, IsBad}
use Rattle.rdf_system.specs.declared.racks.Racks.{Racks}
use Rattle.rdf_system.specs.declared.fault.StartFault.{StartFault}
use Rattle.rdf_system.specs.declared.fault.StartFault.TheVariants as start
use Rattle.rdf_system.specs.Place.{AtEach, is_used, disk_at}
use Rattle.rdf_system.specs.Starting.{AreBlank, Came, FilesStay, IsJudged, NamesUsed, ending_of}
use Rattle.rdf_run.specs.declared.status.Status.{Status}
use Rattle.rdf_run.specs.declared.status.Status.TheVariants.{NotBlank, StoppedEarly, DeviceFault, NoMemory}
use Rattle.rdf_monitor.specs.Output.{Output}
use Rattle.rdf_run.specs.Statuses.{NamesUsedDisk}
use Rattle.rdf_run.specs.Returned.{NoneFailed}
use Rattle.rdf_run.specs.Going.{ByStatus}
use Rattle.rdf_run.specs.Agreeing.{PlanEnds, AgreesAfter}
use Rattle.rdf_run.specs.Quietly.{NoneStops, QuietAfter}

-- the source had just the text of this plan, of no more bytes than one may have, and nothing is left of it
pub record TookPlan (source_tells : Type 0) (fuses : Bool) (plan : Plan) (left now_left : List ℕ) : Type 0 where
  pub is : IsPlan plan
  pub few : source_tells → length left ≤ 1048576
  pub reads : source_tells → Reads fuses left plan
  pub all : source_tells → now_left ≡ []

-- why the disks were not made ready, as a status
abbrev pub status_of_start : StartFault → Status
status_of_start (start.NotBlank node disk) = NotBlank node disk
status_of_start (start.Stopped node disk) = StoppedEarly node disk
status_of_start (start.Failed node disk) = DeviceFault node disk
status_of_start start.NoMemory = NoMemory

-- The disks were looked at and not made ready, for that reason, which names a disk that is used; nothing is written.
-- Where a disk has a file, the files of each disk are as they were: all used ones are looked at before the first is made ready.
pub record IsRefused {D : Type 0} (out : Output) (tells : Type 0) (files : D → Disk) (counts : D → Counts) (layout : Layout) (status : Status) (racks now_racks : Racks D) : Type 0 where
  pub why : StartFault
  pub is : status ≡ status_of_start why
  pub named : NamesUsed layout why
  pub unwritten : out.none
  pub disks : AtEach (Came counts layout (ending_of why)) (disk_at racks) (disk_at now_racks)
  pub judged : tells → IsJudged files layout (disk_at racks) why
  pub still : tells → FilesStay files why (disk_at racks) (disk_at now_racks)

-- each used disk is off
abbrev pub AreOff : {D : Type 0} → (D → Counts) → Layout → Racks D → Type 0
AreOff counts layout racks = (node : Node) (i : ℕ) → is_used layout node i ≡ true → IfSome (disk_at racks node i) (λ d. (counts d).off ≡ true)

-- the used disks are off, or no disk failed
abbrev pub AreOffOrSpared : {D : Type 0} → (D → Counts) → Layout → (Node → ℕ → Option D) → Racks D → Type 0
AreOffOrSpared counts layout old racks = AreOff counts layout racks ⊎ NoneFailed counts old (disk_at racks)

-- The disks, which were blank, were made ready, and the lines performed; where one was broken off, the used disks are off, and so are they where the sink failed in a session that had met something. A disk that failed is one that is used.
-- Both backups agree, where the replies say that they were both taken over, and the one that was behind was repaired from the other. Where no disk stopped, the replies are those of a run without stops.
pub record IsPerformed {D : Type 0} (out : Output) (tells : Type 0) (files : D → Disk) (counts : D → Counts) (plan : Plan) (status : Status) (racks now_racks : Racks D) : Type 0 where
  pub blank : tells → AreBlank files plan.layout (disk_at racks)
  pub named : NamesUsedDisk plan.layout status
  pub off : ByStatus status (Unit {0}) (AreOffOrSpared counts plan.layout (disk_at racks) now_racks) (AreOff counts plan.layout now_racks)
  pub ends : PlanEnds out tells files counts plan status racks now_racks
  pub agree : tells → AgreesAfter out tells files counts plan status racks now_racks ends
  pub quiet : tells → NoneStops counts plan.layout racks now_racks → QuietAfter out tells files counts plan status racks now_racks ends

-- the plan was taken from the source, and it was refused or performed
pub record RunsPlan {D : Type 0} (out : Output) (source_tells tells : Type 0) (files : D → Disk) (counts : D → Counts) (plan : Plan) (status : Status) (left now_left : List ℕ) (racks now_racks : Racks D) : Type 0 where
  pub took : TookPlan source_tells true plan left now_left
  pub ends : IsRefused out tells files counts plan.layout status racks now_racks ⊎ IsPerformed out tells files counts plan status racks now_racks

-- the bytes are read as a plan, and it was refused or performed
pub record RunsBytes {D : Type 0} (out : Output) (tells : Type 0) (files : D → Disk) (counts : D → Counts) (status : Status) (bytes : List ℕ) (racks now_racks : Racks D) : Type 0 where
  pub plan : Plan
  pub is : IsPlan plan
  pub reads : Reads true bytes plan
  pub ends : IsRefused out tells files counts plan.layout status racks now_racks ⊎ IsPerformed out tells files counts plan status racks now_racks

-- the source had no more bytes than a plan may have, that line of them is the first bad one, and nothing is left of them
pub record HadBadPlan (fuses : Bool) (line : ℕ) (why : PlanWhy) (left now_left : List ℕ) : Type 0 where
  pub few : length left ≤ 1048576
  pub bad : IsBad fuses left line why
  pub all : now_left ≡ []
