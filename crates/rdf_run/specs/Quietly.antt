-- What the replies are of a run over disks that did not stop.
use Rattle.std.specs.Prelude.{◌≡◌, ℕ, ◌<◌, true, List, [], ◌∷◌, ◌++◌}
use Rattle.rdf_types.specs.Counts.{most}
use Rattle.rdf_types.specs.declared.layout.Layout.{Layout}
use Rattle.rdf_types.specs.declared.records.Node.{Node}
use Rattle.rdf_disk.specs.Files.{Disk}
use Rattle.rdf_disk.specs.Counts.{Counts}
use Rattle.node_disks.specs.Cuts.{IfBoth}
use Rattle.plan_lang.specs.declared.lines.Line.{Line}
use Rattle.plan_lang.specs.declared.lines.Plan.{Plan}
use Rattle.rdf_core.specs.declared.replies.Reply.{Reply}
use Rattle.rdf_core.specs.State.{State}
use Rattle.quiet_runs.specs.Quiet.{QuietRun}
use Rattle.quiet_runs.specs.Told.{TakeoversAreOk, CopiesAreOk, NoneNamesStop}
use Rattle.rdf_monitor.specs.Output.{Output}
use Rattle.rdf_system.specs.declared.racks.Racks.{Racks}
use Rattle.rdf_system.specs.Place.{is_used, disk_at}
use Rattle.rdf_run.specs.declared.status.Status.{Status}
use Rattle.rdf_run.specs.declared.status.Status.TheVariants.{Done, BadWords, BadPlan, ReadFault, WriteFault, DeviceFault, NoMemory, Damaged, NotBlank, TooLong, StoppedEarly}
use Rattle.rdf_run.specs.Agreeing.{PlanEnds}

-- a count that did not rise, and could have
abbrev pub IsStill : ℕ → ℕ → Type 0
IsStill old new = (new ≡ old) × (old < most)

-- no disk that is used stopped
abbrev pub NoneStops : {D : Type 0} → (D → Counts) → Layout → Racks D → Racks D → Type 0
NoneStops counts layout racks now_racks = (node : Node) (i : ℕ) → is_used layout node i ≡ true → IfBoth (λ a b. IsStill (counts a).stops (counts b).stops) (disk_at racks node i) (disk_at now_racks node i)

-- The lines may have these replies in a run in which no line is cut off and no volume's disk stops.
-- So no reply names a stop; each takeover of a backup that is up is answered ok once the primary was lost, and each copy between two that are up and taken over, unless what it would copy is purged.
pub record RanQuietly (layout : Layout) (lines : List Line) (replies : List Reply) : Type 0 where
  pub state : State
  pub run : QuietRun layout lines replies state
  pub no_stop : NoneNamesStop replies
  pub takeovers : TakeoversAreOk lines replies
  pub copies : CopiesAreOk lines replies

-- so are all lines of the plan, or those up to the one whose reply was not written whole
abbrev pub QuietAfter : {D : Type 0} → (out : Output) (tells : Type 0) (files : D → Disk) (counts : D → Counts) (plan : Plan) (status : Status) (racks now_racks : Racks D) → PlanEnds out tells files counts plan status racks now_racks → Type 0
QuietAfter out tells files counts plan Done racks now_racks ends = RanQuietly plan.layout plan.lines ends.replies
QuietAfter out tells files counts plan WriteFault racks now_racks ends = RanQuietly plan.layout (ends.before ++ ends.line ∷ []) (ends.replies ++ ends.reply ∷ [])
QuietAfter out tells files counts plan (DeviceFault node disk) racks now_racks ends = Unit {0}
QuietAfter out tells files counts plan NoMemory racks now_racks ends = Unit {0}
QuietAfter out tells files counts plan (Damaged node disk file at) racks now_racks ends = Unit {0}
QuietAfter out tells files counts plan BadWords racks now_racks ends = Unit {0}
QuietAfter out tells files counts plan (BadPlan line why) racks now_racks ends = Unit {0}
QuietAfter out tells files counts plan ReadFault racks now_racks ends = Unit {0}
QuietAfter out tells files counts plan (NotBlank node disk) racks now_racks ends = Unit {0}
QuietAfter out tells files counts plan TooLong racks now_racks ends = Unit {0}
QuietAfter out tells files counts plan (StoppedEarly node disk) racks now_racks ends = Unit {0}
