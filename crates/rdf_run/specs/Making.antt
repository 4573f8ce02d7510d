-- What is done with a generated plan, and its summary.
use Rattle.std.specs.Prelude.{◌≡◌, ◌⊎◌, ℕ, ◌<◌, List, ◌++◌, length, take}
use Rattle.rdf_disk.specs.Files.{Disk}
use Rattle.rdf_disk.specs.Counts.{Counts}
use Rattle.plan_lang.specs.declared.lines.Line.{Line}
use Rattle.plan_lang.specs.declared.lines.Plan.{Plan}
use Rattle.rdf_core.specs.declared.replies.Reply.{Reply}
use Rattle.rdf_monitor.specs.Output.{Output}
use Rattle.load_summary.specs.declared.tally.Tally.{Tally}
use Rattle.load_summary.specs.Summary.{summary, summary_text}
use Rattle.load_summary.specs.Tallies.{Tallies}
use Rattle.rdf_system.specs.declared.racks.Racks.{Racks}
use Rattle.rdf_system.specs.Place.{disk_at}
use Rattle.rdf_system.specs.Starting.{AreBlank}
use Rattle.rdf_system.specs.States.{RacksStandFor}
use Rattle.rdf_run.specs.declared.status.Status.{Status}
use Rattle.rdf_run.specs.declared.status.Status.TheVariants.{Done, BadWords, BadPlan, ReadFault, WriteFault, DeviceFault, NoMemory, Damaged, NotBlank, TooLong, StoppedEarly}
use Rattle.rdf_run.specs.Statuses.{NamesUsedDisk}
use Rattle.rdf_run.specs.Going.{Completes, BreaksOff}
use Rattle.rdf_run.specs.Judging.{Anyhow}
use Rattle.rdf_run.specs.Agreeing.{AgreeIf}
use Rattle.rdf_run.specs.Plans.{IsRefused, AreOff}
use Rattle.rdf_run.specs.Quietly.{NoneStops, RanQuietly}

-- the replies to these lines were noted in between; a reply is noted whole
abbrev pub noted : Tally → Tally → Output
noted before after = record {
  none = after ≡ before;
  whole = λ lines replies. (first : List Line) (answers : List Reply) → Tallies first answers before → Tallies (first ++ lines) (answers ++ replies) after;
  part = λ lines replies l reply. ⊥;
}

-- the text of the summary of lines that were answered so
abbrev pub text_of : List Line → List Reply → List ℕ
text_of lines replies = summary_text (summary lines replies)

-- it was written behind what stood there
abbrev pub summed : Type 0 → List ℕ → List ℕ → Output
summed sink_tells written now_written = record {
  none = now_written ≡ written;
  whole = λ lines replies. sink_tells → now_written ≡ written ++ text_of lines replies;
  part = λ lines replies l reply. ⊥;
}

-- a first part of it that is not all
pub record SummedPart (lines : List Line) (replies : List Reply) (written now_written : List ℕ) : Type 0 where
  pub most : ℕ
  pub short : most < length (text_of lines replies)
  pub wrote : now_written ≡ written ++ take most (text_of lines replies)

abbrev pub half_summed : Type 0 → List ℕ → List ℕ → Output
half_summed sink_tells written now_written = record {
  none = now_written ≡ written;
  whole = λ lines replies. sink_tells → SummedPart lines replies written now_written;
  part = λ lines replies l reply. ⊥;
}

-- nothing was written
abbrev pub silent : List ℕ → List ℕ → Output
silent written now_written = record {
  none = now_written ≡ written;
  whole = λ lines replies. now_written ≡ written;
  part = λ lines replies l reply. ⊥;
}

-- how the summary was written, by the status
abbrev pub SummaryEnds : Status → Type 0 → List Line → List Reply → List ℕ → List ℕ → Type 0
SummaryEnds Done sink_tells lines replies written now_written = sink_tells → now_written ≡ written ++ text_of lines replies
SummaryEnds WriteFault sink_tells lines replies written now_written = sink_tells → SummedPart lines replies written now_written
SummaryEnds NoMemory sink_tells lines replies written now_written = now_written ≡ written
SummaryEnds BadWords sink_tells lines replies written now_written = ⊥
SummaryEnds (BadPlan line why) sink_tells lines replies written now_written = ⊥
SummaryEnds ReadFault sink_tells lines replies written now_written = ⊥
SummaryEnds (DeviceFault node disk) sink_tells lines replies written now_written = ⊥
SummaryEnds (Damaged node disk file at) sink_tells lines replies written now_written = ⊥
SummaryEnds (NotBlank node disk) sink_tells lines replies written now_written = ⊥
SummaryEnds TooLong sink_tells lines replies written now_written = ⊥
SummaryEnds (StoppedEarly node disk) sink_tells lines replies written now_written = ⊥

-- all lines were answered; both backups agree by their replies, which are those of a run without stops where no disk stopped
pub record MadeAll {D : Type 0} (out : Output) (tells : Type 0) (files : D → Disk) (counts : D → Counts) (plan : Plan) (racks now_racks : Racks D) : Type 0 where
  pub ends : Completes out tells counts plan.layout plan.lines (disk_at racks) (disk_at now_racks) (λ s. RacksStandFor files plan.layout s now_racks) Anyhow
  pub agree : tells → AgreeIf files plan.layout plan.lines ends.replies now_racks
  pub quiet : tells → NoneStops counts plan.layout racks now_racks → RanQuietly plan.layout plan.lines ends.replies

-- a line was broken off, and the used disks are off
pub record MadePart {D : Type 0} (status : Status) (out : Output) (tells : Type 0) (files : D → Disk) (counts : D → Counts) (plan : Plan) (racks now_racks : Racks D) : Type 0 where
  pub ends : BreaksOff status out tells counts plan.layout plan.lines (disk_at racks) (disk_at now_racks) (λ s. RacksStandFor files plan.layout s now_racks)
  pub agree : tells → AgreeIf files plan.layout ends.before ends.replies now_racks
  pub off : AreOff counts plan.layout now_racks

-- How the lines of the plan ended, by the status. Memory may also be wanting for the summary, once all lines were answered.
abbrev pub MakeEnds : {D : Type 0} → Status → Type 0 → Type 0 → (D → Disk) → (D → Counts) → Plan → List ℕ → List ℕ → Racks D → Racks D → Type 0
MakeEnds Done sink_tells tells files counts plan written now_written racks now_racks = MadeAll (summed sink_tells written now_written) tells files counts plan racks now_racks
MakeEnds WriteFault sink_tells tells files counts plan written now_written racks now_racks = MadeAll (half_summed sink_tells written now_written) tells files counts plan racks now_racks
MakeEnds NoMemory sink_tells tells files counts plan written now_written racks now_racks =
    MadePart NoMemory (silent written now_written) tells files counts plan racks now_racks ⊎ MadeAll (silent written now_written) tells files counts plan racks now_racks
MakeEnds (DeviceFault node disk) sink_tells tells files counts plan written now_written racks now_racks = MadePart (DeviceFault node disk) (silent written now_written) tells files counts plan racks now_racks
MakeEnds (Damaged node disk file at) sink_tells tells files counts plan written now_written racks now_racks = MadePart (Damaged node disk file at) (silent written now_written) tells files counts plan racks now_racks
MakeEnds BadWords sink_tells tells files counts plan written now_written racks now_racks = ⊥
MakeEnds (BadPlan line why) sink_tells tells files counts plan written now_written racks now_racks = ⊥
MakeEnds ReadFault sink_tells tells files counts plan written now_written racks now_racks = ⊥
MakeEnds (NotBlank node disk) sink_tells tells files counts plan written now_written racks now_racks = ⊥
MakeEnds TooLong sink_tells tells files counts plan written now_written racks now_racks = ⊥
MakeEnds (StoppedEarly node disk) sink_tells tells files counts plan written now_written racks now_racks = ⊥

-- the plan was performed over disks that were blank; a disk that failed is one that is used
pub record IsMade {D : Type 0} (sink_tells tells : Type 0) (files : D → Disk) (counts : D → Counts) (plan : Plan) (status : Status) (written now_written : List ℕ) (racks now_racks : Racks D) : Type 0 where
  pub blank : tells → AreBlank files plan.layout (disk_at racks)
  pub named : NamesUsedDisk plan.layout status
  pub ends : MakeEnds status sink_tells tells files counts plan written now_written racks now_racks

-- the plan was refused or performed, or there was no memory for it
abbrev pub MakesPlan : {D : Type 0} → Type 0 → Type 0 → (D → Disk) → (D → Counts) → Plan → Status → List ℕ → List ℕ → Racks D → Racks D → Type 0
MakesPlan sink_tells tells files counts plan status written now_written racks now_racks =
    (IsRefused (silent written now_written) tells files counts plan.layout status racks now_racks ⊎ IsMade sink_tells tells files counts plan status written now_written racks now_racks)
    ⊎ ((status ≡ NoMemory) × (now_written ≡ written) × (now_racks ≡ racks))
