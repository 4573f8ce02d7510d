-- What the commands do.
use Rattle.std.specs.Prelude.{ℕ, Bool, true, false, List, Option, Some, None}
use Rattle.rdf_types.specs.declared.layout.Layout.{Layout}
use Rattle.plan_lang.specs.declared.lines.Line.{Line}
use Rattle.plan_lang.specs.declared.lines.Plan.{Plan}
use Rattle.command_words.specs.Forms.{Form, Run, RunDir, Predict, Make}
use Rattle.rdf_run.specs.Writing.{WroteAll, WrotePartly, WroteSome}
use Rattle.rdf_run.specs.declared.status.Status.{Status}
use Rattle.rdf_run.specs.declared.status.Status.TheVariants.{Done, BadWords, BadPlan, ReadFault, WriteFault, DeviceFault, NoMemory, Damaged, NotBlank, TooLong, StoppedEarly}
use Rattle.plan_lang.specs.PlanText.{IsPlan}
use Rattle.plan_lang.specs.Grammar.{Reads}
use Rattle.rdf_run.specs.Plans.{TookPlan}

-- the words ask that a plan is performed, over whichever disks
abbrev pub AsksRun : Option Form → Type 0
AsksRun (Some Run) = Unit {0}
AsksRun (Some (RunDir dir)) = Unit {0}
AsksRun (Some Predict) = ⊥
AsksRun (Some (Make seed txns)) = ⊥
AsksRun None = ⊥

-- whether lines of the plan may give a disk a fuse
abbrev pub knows_fuses : Option Form → Bool
knows_fuses (Some Predict) = false
knows_fuses (Some Run) = true
knows_fuses (Some (RunDir dir)) = true
knows_fuses (Some (Make seed txns)) = true
knows_fuses None = true

-- how much of what is predicted was written, by the status
abbrev pub PredictEnds : Status → Layout → List Line → List ℕ → List ℕ → Type 0
PredictEnds Done layout lines written now_written = WroteAll layout lines written now_written
PredictEnds WriteFault layout lines written now_written = WrotePartly layout lines written now_written
PredictEnds NoMemory layout lines written now_written = WroteSome layout lines written now_written
PredictEnds BadWords layout lines written now_written = ⊥
PredictEnds (BadPlan line why) layout lines written now_written = ⊥
PredictEnds ReadFault layout lines written now_written = ⊥
PredictEnds (DeviceFault node disk) layout lines written now_written = ⊥
PredictEnds (Damaged node disk file at) layout lines written now_written = ⊥
PredictEnds (NotBlank node disk) layout lines written now_written = ⊥
PredictEnds TooLong layout lines written now_written = ⊥
PredictEnds (StoppedEarly node disk) layout lines written now_written = ⊥

-- the plan was taken from the source, and predicted
pub record PredictsPlan (source_tells sink_tells : Type 0) (plan : Plan) (status : Status) (left now_left written now_written : List ℕ) : Type 0 where
  pub took : TookPlan source_tells false plan left now_left
  pub ends : sink_tells → PredictEnds status plan.layout plan.lines written now_written

-- the bytes are read as a plan, and it was predicted
pub record PredictsBytes (sink_tells : Type 0) (status : Status) (bytes written now_written : List ℕ) : Type 0 where
  pub plan : Plan
  pub is : IsPlan plan
  pub reads : Reads false bytes plan
  pub ends : sink_tells → PredictEnds status plan.layout plan.lines written now_written
