-- How a run ends with a session.
use Rattle.std.proofs.Common.{◌≡◌, ℕ, true, false, List, [], ◌∷◌, ◌++◌, take, Option, Some, None, Result, Ok, Err, refl, sym, ap, ◌∙◌, subst, nat_lt, if◌then◌else◌}
use Rattle.rdf_types.specs.declared.layout.Layout.{Layout}
use Rattle.rdf_types.specs.declared.records.Node.{Node}
use Rattle.rdf_disk.specs.Files.{Disk}
use Rattle.rdf_disk.specs.Counts.{Counts}
use Rattle.rdf_disk.specs.declared.disk.Disk.{Ghosts}
use Rattle.plan_lang.specs.declared.lines.Line.{Line}
use Rattle.plan_lang.specs.declared.lines.Line.TheVariants as line
use Rattle.plan_lang.specs.Sessions.{session_behind}
use Rattle.node_faults.specs.declared.NodeFault.{NodeFault}
use Rattle.node_faults.specs.declared.NodeFault.TheVariants as fault
use Rattle.node_faults.specs.Faults.{is_damage}
use Rattle.rdf_backup.specs.FirstFaults.{rank}
use Rattle.rdf_core.specs.declared.replies.Reply.{Reply}
use Rattle.rdf_monitor.specs.declared.fault.AnswerFault.TheVariants as answer
use Rattle.rdf_monitor.specs.Output.{Output}
use Rattle.rdf_system.specs.declared.fault.StepFault.{StepFault}
use Rattle.rdf_system.specs.declared.opened.Broken.TheVariants as broken
use Rattle.rdf_system.specs.declared.system.System.{System}
use Rattle.rdf_system.specs.Closing.{told_by, told_in, first_of_both, DoesInSession}
use Rattle.rdf_system.specs.Lines.{IsSound as IsSoundAnswer}
use Rattle.rdf_system.specs.Opened.{shown}
use Rattle.rdf_system.specs.Stances.{StandsAs}
use Rattle.rdf_system.specs.States.{disk_of, layout_of, IsAtState, DisksStandFor}
use Rattle.rdf_run.specs.Behind.{no_text, has_met, fault_behind}
use Rattle.rdf_run.specs.Going.{Completes, StopsWriting, BreaksOff, RunGoes, Went, RanTo}
use Rattle.rdf_run.specs.RunFaults.{fault_at_node, fault_of_node, status_of_run}
use Rattle.rdf_run.specs.Statuses.{IsSound}
use Rattle.rdf_run.specs.Stretches.{AreInSession, IsShownAt, EndsStretch, HasDriven}
use Rattle.rdf_run.specs.declared.run_fault.RunFault.{RunFault}
use Rattle.rdf_run.specs.declared.run_fault.RunFault.TheVariants as run
use Rattle.rdf_run.specs.declared.session_lines.Met.{Met}
use Rattle.rdf_run.specs.declared.session_lines.Met.TheVariants as met
use Rattle.rdf_run.proofs.Driven.{side_of, next, opened, opened_laid, before_laid, off_line, half_out, unsaid}
use Rattle.rdf_run.proofs.InSession.{open_on}
use Rattle.rdf_run.proofs.Runs.{RunLaws}
use Rattle.rdf_run.proofs.Settling.{broken_by}

-- a fault that tells no damage is sound as a status
pub sound_by : (named : Node) (why : NodeFault) → is_damage why ≡ false → IsSound (status_of_run (fault_at_node named why))
sound_by named (fault.Stopped disk) h = tt
sound_by named (fault.Failed disk) h = tt
sound_by named fault.NoMemory h = tt
sound_by named (fault.Damaged disk file at) h = absurd cc

-- nor does want of memory, unless what is told does
no_text_sound : (name : Node) (told : Result Reply NodeFault) → IsSoundAnswer (told_by name told) → is_damage (first_of_both no_text name told).fault ≡ false
no_text_sound name (Ok reply) h = refl
no_text_sound name (Err why) h = elim (nat_lt (rank why) (rank fault.NoMemory)) as (λ b. is_damage (if b then record { node = name; fault = why } else no_text).fault ≡ false) [ true ↦ h | false ↦ refl ]

module _ {D O : Type 0} {d : Ghosts D} (given : O → O → Output) (faults : O → ℕ) (tells : Type 0) (files : D → Disk) (counts : D → Counts) (layout : Layout) (node : Node) (lines : List Line) (answered : ℕ) (told : Result Reply NodeFault) (out now_out : O) (old new : System D d)
    (laid : layout_of old ≡ layout) (ready : AreInSession layout node lines) (from : O) (before : List Line) (start : Node → ℕ → Option D) (c : Completes (given from out) tells counts layout before start (disk_of old) (λ s. IsAtState files layout s old) (StandsAs old)) (laws : RunLaws) (behind : session_behind None before ≡ Some node) where
  abbrev Drove : Met → Type 0
  Drove m = HasDriven given faults tells files counts node lines answered m told out now_out old new

  abbrev Goes : RunFault → Type 0
  Goes f = RunGoes (status_of_run f) (given from now_out) tells counts layout before lines answered start (disk_of new) (λ s. IsAtState files layout s new) (λ s. DisksStandFor files layout s new) (StandsAs new)

  broken_so : (told_fault : StepFault) → (tells → is_damage told_fault.fault ≡ false) → BreaksOff (status_of_run (fault_of_node told_fault)) (given from now_out) tells counts layout (before ++ lines) start (disk_of new) (λ s. DisksStandFor files layout s new) → Goes (fault_of_node told_fault)
  broken_so f sound breaks = (
    λ t. sound_by f.node f.fault (sound t),
    broken_by f.node f.fault (Completes (given from now_out) tells counts layout (before ++ take answered lines) start (disk_of new) (λ s. IsAtState files layout s new) (StandsAs new))
        (StopsWriting (given from now_out) tells counts layout (before ++ lines) start (disk_of new) (λ s. DisksStandFor files layout s new))
        (BreaksOff (status_of_run (fault_of_node f)) (given from now_out) tells counts layout (before ++ lines) start (disk_of new) (λ s. DisksStandFor files layout s new)) breaks,
  )

  line_goes : (why : StepFault) → Drove (met.Broken (broken.Line why)) → Goes (fault_of_node (first_of_both why node told))
  line_goes why h = broken_so (first_of_both why node told)
      (λ t. subst (λ (n : Node). is_damage (first_of_both why n told).fault ≡ false) h.named (off.sound t layout (done.went.run t).state (done.went.run t).at.0))
      (off_line given faults tells files counts layout node lines answered told out now_out old new laid ready from before start c (status_of_run (fault_of_node (first_of_both why node told))) behind laws why h)
    where
      m : Met
      m = met.Broken (broken.Line why)

      l : Line
      l = (next given faults tells files counts layout node lines answered told out now_out old new laid ready m h).0

      ends : EndsStretch given tells files counts m (take answered lines) l out now_out h.opened h.drove.before h.closed
      ends = (next given faults tells files counts layout node lines answered told out now_out old new laid ready m h).1.1.1

      done : Completes (given from now_out) tells counts layout (before ++ take answered lines) start (disk_of (shown h.drove.before)) (IsShownAt files layout h.drove.before) (StandsAs (shown h.drove.before))
      done = ends.0 layout from before start (opened_laid given faults tells files counts layout node lines answered told out now_out old new laid ready m h) (opened given faults tells files counts layout node lines answered told out now_out old new laid ready from before start c m h)

      unmet : h.closed.session.met ≡ None
      unmet = ap (λ o. o.met) ends.2.still ∙ h.drove.goes.unmet

      off : DoesInSession tells files counts l (Err (first_of_both why h.closed.node.name told)) h.drove.before new
      off = h.closes.failed unmet h.drove.before l why (h.drove.goes.lent ∙ sym h.lent) (side_of l ends.2.side) h.drove.goes.is_open ends.2

  unsaid_goes : Drove (met.Unwritten answer.NoMemory) → Goes (fault_of_node (first_of_both no_text node told))
  unsaid_goes h = broken_so (first_of_both no_text node told)
      (λ t. no_text_sound node told (subst (λ (n : Node). IsSoundAnswer (told_by n told)) h.named (closing.sound t layout (half.run t).state (half.run t).at.0)))
      (unsaid given faults tells files counts layout node lines answered told out now_out old new laid ready from before start c (status_of_run (fault_of_node (first_of_both no_text node told))) behind laws h)
    where
      m : Met
      m = met.Unwritten answer.NoMemory

      l : Line
      l = (next given faults tells files counts layout node lines answered told out now_out old new laid ready m h).0

      ends : EndsStretch given tells files counts m (take answered lines) l out now_out h.opened h.drove.before h.closed
      ends = (next given faults tells files counts layout node lines answered told out now_out old new laid ready m h).1.1.1

      done : Completes (given from now_out) tells counts layout (before ++ take answered lines) start (disk_of (shown h.drove.before)) (IsShownAt files layout h.drove.before) (StandsAs (shown h.drove.before))
      done = ends.0 layout from before start (opened_laid given faults tells files counts layout node lines answered told out now_out old new laid ready m h) (opened given faults tells files counts layout node lines answered told out now_out old new laid ready from before start c m h)

      -- the run with the line that was answered
      half : Went true tells counts layout (before ++ take answered lines ++ l ∷ []) (done.replies ++ ends.1.reply ∷ []) start (disk_of (shown h.closed)) (RanTo layout (before ++ take answered lines ++ l ∷ []) (done.replies ++ ends.1.reply ∷ []) (IsShownAt files layout h.closed)) (StandsAs (shown h.closed))
      half = open_on laws tells files counts layout (before ++ take answered lines) done.replies start h.drove.before (before_laid given faults tells files counts layout node lines answered told out now_out old new laid ready m h) done.went h.closed l ends.1.reply ends.1.unended ends.1.answers

      closing : DoesInSession tells files counts line.End (told_by h.closed.node.name told) h.closed (told_in line.End told new)
      closing = h.closes.unmet ends.1.answers.unmet

  some_is : (x f : RunFault) → (let o : Option RunFault = Some x in o ≡ Some f) → x ≡ f
  some_is x f e = cc

  -- why the run ends with the session
  pub ends_behind : (m : Met) → Drove m → (f : RunFault) → fault_behind m node told ≡ Some f → Goes f
  ends_behind met.End h f e = absurd (none e)
    where
      none : (let o : Option RunFault = None in o ≡ Some f) → ⊥
      none q = cc
  ends_behind (met.Broken (broken.Own why)) h f e = absurd (none e)
    where
      none : (let o : Option RunFault = None in o ≡ Some f) → ⊥
      none q = cc
  ends_behind (met.Broken (broken.Line why)) h f e = subst (λ (k : RunFault). Goes k) (some_is (fault_of_node (first_of_both why node told)) f e) (line_goes why h)
  ends_behind (met.Unwritten answer.Write) h f e = subst (λ (k : RunFault). Goes k) (some_is (run.Write (has_met told)) f e) (λ t. tt, half_out given faults tells files counts layout node lines answered told out now_out old new laid ready from before start c laws behind h)
  ends_behind (met.Unwritten answer.NoMemory) h f e = subst (λ (k : RunFault). Goes k) (some_is (fault_of_node (first_of_both no_text node told)) f e) (unsaid_goes h)
  ends_behind met.Unbegun h f e = absurd (next given faults tells files counts layout node lines answered told out now_out old new laid ready met.Unbegun h).1.1.1
