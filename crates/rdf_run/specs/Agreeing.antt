-- All backups agree: what the racks stand for where the replies say that those behind were repaired.
use Rattle.std.specs.Prelude.{◌≡◌, ℕ, suc, ◌≤◌, List, [], ◌∷◌, ◌++◌, length, take, Option, IsTrue}
use Rattle.std.specs.Option.{IsSomeAnd}
use Rattle.rdf_types.specs.declared.layout.Layout.{Layout}
use Rattle.rdf_types.specs.declared.records.Node.{Node}
use Rattle.rdf_types.specs.declared.records.Node.TheVariants.{A}
use Rattle.rdf_types.specs.declared.records.Phase.TheVariants.{Taken}
use Rattle.rdf_types.specs.declared.records.Record.{Record}
use Rattle.rdf_disk.specs.Files.{Disk, Contents}
use Rattle.rdf_disk.specs.Counts.{Counts}
use Rattle.rdf_disk.specs.Outcomes.{Durably}
use Rattle.rdf_model.specs.Contents.{nothing}
use Rattle.rdf_model.specs.Trail.{committed}
use Rattle.rdf_model.specs.Volumes.{Rows, AreOn}
use Rattle.audit_trail.specs.Spelled.{Spells}
use Rattle.rdf_volume.specs.Standing.{StandsFor}
use Rattle.image_disks.specs.Spelled.{block_of}
use Rattle.image_disks.specs.Values.{Value, received}
use Rattle.image_disks.specs.Standing.{StandsFor as StandsForValue}
use Rattle.image_trails.specs.Memory.{plan_of}
use Rattle.plan_lang.specs.declared.lines.Line.{Line}
use Rattle.plan_lang.specs.declared.lines.Plan.{Plan}
use Rattle.rdf_core.specs.declared.replies.Reply.{Reply}
use Rattle.rdf_core.specs.Agreement.{AreRepaired, HadReceived}
use Rattle.rdf_core.specs.Allowed.{is_backup}
use Rattle.rdf_core.specs.Run.{Run}
use Rattle.rdf_core.specs.State.{State, blank}
use Rattle.rdf_core.specs.Layouts.{protects}
use Rattle.rdf_system.specs.declared.racks.Racks.{Racks}
use Rattle.rdf_system.specs.Place.{disk_at}
use Rattle.rdf_system.specs.States.{RacksStandFor}
use Rattle.rdf_run.specs.declared.status.Status.{Status}
use Rattle.rdf_run.specs.declared.status.Status.TheVariants.{Done, BadWords, ReadFault, WriteFault, DeviceFault, NoMemory, Damaged, NotBlank, TooLong, StoppedEarly, BadPlan}
use Rattle.rdf_monitor.specs.Output.{Output}
use Rattle.rdf_run.specs.Going.{RunEnds}
use Rattle.rdf_run.specs.Judging.{Anyhow}

-- there is such a disk, and whatever may be of its files stands so
abbrev pub StandsAt : {D : Type 0} → (D → Disk) → (Contents → Type 0) → Option D → Type 0
StandsAt files P place = IsSomeAnd place (λ d. Durably (files d) P)

-- the contents of an image disk stand for image trails that have received so much, all of which was taken over
abbrev pub HasReceived : Layout → ℕ → Contents → Type 0
HasReceived layout m c = (value : Value) × ((received value ≡ m) × (value.phase ≡ Taken m) × StandsForValue block_of (plan_of layout) value c)

-- the contents of a volume's disk stand for rows that are what the trail's first records committed on the volume
abbrev pub HasCommitted : List Record → ℕ → ℕ → Contents → Type 0
HasCommitted trail m v c = (rows : Rows) × ((restart : ℕ) × (AreOn v (committed nothing (take m trail)) rows × StandsFor rows restart c))

-- the disks of a backup hold on the protected volumes what is committed in so much of the trail
pub record HoldsCommitted {D : Type 0} (files : D → Disk) (layout : Layout) (trail : List Record) (m : ℕ) (disk : ℕ → Option D) : Type 0 where
  pub image : StandsAt files (HasReceived layout m) (disk 0)
  pub volumes : (v : ℕ) → IsTrue (protects layout v) → StandsAt files (HasCommitted trail m v) (disk (suc v))

-- the primary's trail disk spells the trail, and each backup of the layout holds exactly what is committed in so much of it
pub record AreAgreed {D : Type 0} (files : D → Disk) (layout : Layout) (trail : List Record) (m : ℕ) (racks : Racks D) : Type 0 where
  pub spelled : StandsAt files (Spells trail) (disk_at racks A 0)
  pub within : m ≤ length trail
  pub backups : (node : Node) → IsTrue (is_backup layout node) → HoldsCommitted files layout trail m (disk_at racks node)

-- each backup had received so much as its first takeover began that was answered with ok, in every run of these lines with these replies
abbrev pub AllHadReceived : (layout : Layout) (lead : Node) (m : ℕ) (lines : List Line) (replies : List Reply) → AreRepaired layout lead m lines replies → Type 0
AllHadReceived layout lead m lines replies done = (node : Node) (known : IsTrue (is_backup layout node)) (last : State) (run : Run layout lines replies last) →
    HadReceived node (done.first node known).0 layout (blank layout) lines replies last run

-- Where each backup answered a takeover with ok, and then one that answered with the greatest of the first numbers led a copy to each other one, which took over again, each with ok, all agree at that number.
-- It counts that the lead answered its takeover with that number before the copy. The numbers are what the backups had received as their takeovers began, so that the greatest is the longest received prefix.
abbrev pub AgreeIf : {D : Type 0} → (D → Disk) → Layout → List Line → List Reply → Racks D → Type 0
AgreeIf files layout lines replies racks = (lead : Node) (m : ℕ) (done : AreRepaired layout lead m lines replies) →
    AllHadReceived layout lead m lines replies done × ((trail : List Record) × AreAgreed files layout trail m racks)

-- how the lines of a plan ended over the racks
abbrev pub PlanEnds : {D : Type 0} → Output → Type 0 → (D → Disk) → (D → Counts) → Plan → Status → Racks D → Racks D → Type 0
PlanEnds out tells files counts plan status racks now_racks = RunEnds status out tells counts plan.layout plan.lines (disk_at racks) (disk_at now_racks)
    (λ s. RacksStandFor files plan.layout s now_racks) (λ s. RacksStandFor files plan.layout s now_racks) Anyhow

-- all backups agree by the very replies of the run: those to all lines, up to the one that was not written whole, or before the line that was broken off
abbrev pub AgreesAfter : {D : Type 0} → (out : Output) (tells : Type 0) (files : D → Disk) (counts : D → Counts) (plan : Plan) (status : Status) (racks now_racks : Racks D) →
    PlanEnds out tells files counts plan status racks now_racks → Type 0
AgreesAfter out tells files counts plan Done racks now_racks ends = AgreeIf files plan.layout plan.lines ends.replies now_racks
AgreesAfter out tells files counts plan WriteFault racks now_racks ends = AgreeIf files plan.layout (ends.before ++ ends.line ∷ []) (ends.replies ++ ends.reply ∷ []) now_racks
AgreesAfter out tells files counts plan (DeviceFault node disk) racks now_racks ends = AgreeIf files plan.layout ends.before ends.replies now_racks
AgreesAfter out tells files counts plan NoMemory racks now_racks ends = AgreeIf files plan.layout ends.before ends.replies now_racks
AgreesAfter out tells files counts plan (Damaged node disk file at) racks now_racks ends = AgreeIf files plan.layout ends.before ends.replies now_racks
AgreesAfter out tells files counts plan BadWords racks now_racks ends = Unit {0}
AgreesAfter out tells files counts plan ReadFault racks now_racks ends = Unit {0}
AgreesAfter out tells files counts plan (NotBlank node disk) racks now_racks ends = Unit {0}
AgreesAfter out tells files counts plan TooLong racks now_racks ends = Unit {0}
AgreesAfter out tells files counts plan (StoppedEarly node disk) racks now_racks ends = Unit {0}
AgreesAfter out tells files counts plan (BadPlan line why) racks now_racks ends = Unit {0}
