-- What a run comes to behind a session: of the lines that were driven in it, and of what is told at its end.
use Rattle.std.proofs.Common.{◌≡◌, ◌≢◌, ◌⊎◌, inl, inr, ℕ, true, false, List, [], ◌∷◌, ◌++◌, take, drop, Option, Some, None, Result, sym, ap, ◌∙◌, subst}
use Rattle.rdf_types.specs.declared.layout.Layout.{Layout}
use Rattle.rdf_types.specs.declared.records.Node.{Node}
use Rattle.rdf_disk.specs.Files.{Disk}
use Rattle.rdf_disk.specs.Counts.{Counts}
use Rattle.rdf_disk.specs.Counts.Ending.{Fine}
use Rattle.rdf_disk.specs.declared.disk.Disk.{Ghosts}
use Rattle.plan_lang.specs.declared.lines.Line.{Line}
use Rattle.plan_lang.specs.declared.lines.Line.TheVariants as line
use Rattle.plan_lang.specs.Sessions.{goes_in, fits_session, session_after, session_behind, KeepSessions}
use Rattle.node_faults.specs.declared.NodeFault.{NodeFault}
use Rattle.rdf_core.specs.declared.replies.Reply.{Reply}
use Rattle.rdf_core.specs.Allowed.{has_names}
use Rattle.rdf_core.specs.Step.{is_for_primary}
use Rattle.rdf_monitor.specs.declared.fault.AnswerFault.TheVariants as answer
use Rattle.rdf_monitor.specs.Output.{Output}
use Rattle.rdf_system.specs.declared.fault.StepFault.{StepFault}
use Rattle.rdf_system.specs.declared.opened.Broken.TheVariants as broken
use Rattle.rdf_system.specs.declared.system.System.{System}
use Rattle.rdf_system.specs.Closing.{first_of_both}
use Rattle.rdf_system.specs.NodeLines.{is_on_primary, is_of_sender}
use Rattle.rdf_system.specs.OpenLines.{IsOpenLine, IsSideLine}
use Rattle.rdf_system.specs.Opened.{shown}
use Rattle.rdf_system.specs.Sessions.{node_of}
use Rattle.rdf_system.specs.Stances.{StandsAs}
use Rattle.rdf_system.specs.States.{disk_of, layout_of, IsAtState, DisksStandFor}
use Rattle.rdf_run.specs.Going.{Completes, StopsAt, StopsWriting, BreaksOff}
use Rattle.rdf_run.specs.Judging.{Anyhow}
use Rattle.rdf_run.specs.Returned.{NoneFailed}
use Rattle.rdf_run.specs.Stretches.{AreInSession, IsShownAt, EndsStretch, HasDriven}
use Rattle.rdf_run.specs.declared.session_lines.Met.{Met}
use Rattle.rdf_run.specs.declared.session_lines.Met.TheVariants as met
use Rattle.rdf_run.specs.declared.status.Status.{Status}
use Rattle.rdf_run.proofs.InSession.{told_off, left_on, unsaid_on}
use Rattle.rdf_run.proofs.Returns.{returned_fine, returned_then, fine_no_stop}
use Rattle.rdf_run.proofs.Runs.{RunLaws}
use Rattle.rdf_run.proofs.Settling.{next_parts, next_fits, inside_on, opened_so, breaks_next, stops_next}

-- a line on the primary or the sender's side, as the end of a session names it
pub side_of : (l : Line) → IsSideLine l → (is_on_primary l ≡ true) ⊎ (is_of_sender l ≡ true)
side_of l (inl e) = inl (on_primary l e)
  where
    on_primary : (k : Line) → is_for_primary k ≡ true → is_on_primary k ≡ true
    on_primary (line.Restart of) q = absurd cc
    on_primary _ q = q
side_of l (inr e) = inr e

module _ {D O : Type 0} {d : Ghosts D} (given : O → O → Output) (faults : O → ℕ) (tells : Type 0) (files : D → Disk) (counts : D → Counts) (layout : Layout) (node : Node) (lines : List Line) (answered : ℕ) (told : Result Reply NodeFault) (out now_out : O) (old new : System D d)
    (laid : layout_of old ≡ layout) (ready : AreInSession layout node lines) where
  abbrev pub Driven : Met → Type 0
  Driven m = HasDriven given faults tells files counts node lines answered m told out now_out old new

  module _ (m : Met) (h : Driven m) where
    -- the line behind those that were answered
    abbrev Next : Line → Type 0
    Next l = EndsStretch given tells files counts m (take answered lines) l out now_out h.opened h.drove.before h.closed

    pub next : (l : Line) × ((behind : List Line) × ((drop answered lines ≡ l ∷ behind) × Next l))
    next = next_parts Next lines answered h.drove.next

    pub name_is : h.opened.node.name ≡ node
    name_is = ap (λ n. n.name) (sym h.lent) ∙ h.named

    pub before_name : h.drove.before.node.name ≡ node
    before_name = ap (λ n. n.name) h.drove.goes.lent ∙ name_is

    pub opened_laid : layout_of h.opened.system ≡ layout
    opened_laid = h.begins.laid ∙ laid

    pub before_laid : layout_of h.drove.before.system ≡ layout
    before_laid = h.drove.goes.laid ∙ opened_laid

    pub kept : session_behind (Some node) (take answered lines) ≡ Some node
    kept = subst (λ (n : Node). session_behind (Some n) (take answered lines) ≡ Some n) name_is h.drove.kept

    pub fits : (has_names layout next.0 ≡ true) × (goes_in node next.0 ≡ true) × KeepSessions (session_after (Some node) next.0) next.1.0
    fits = next_fits layout node lines answered next.0 next.1.0 ready.names ready.sessions kept next.1.1.0

    pub before_node : node_of h.drove.before.system.session ≡ Some node
    before_node = ap node_of h.drove.goes.is_open.open_is ∙ ap (λ n. Some n) before_name

    pub before_names : has_names (layout_of h.drove.before.system) next.0 ≡ true
    before_names = subst (λ (of : Layout). has_names of next.0 ≡ true) (sym before_laid) fits.0

    pub before_fits : fits_session (node_of h.drove.before.system.session) next.0 ≡ true
    before_fits = subst (λ (of : Option Node). fits_session of next.0 ≡ true) (sym before_node) fits.1

    -- no disk failed up to there
    pub before_spared : NoneFailed counts (disk_of old) (disk_of (shown h.drove.before))
    before_spared node i = returned_then counts false Fine fine_no_stop (disk_of old node i) (disk_of (shown h.opened) node i) (disk_of (shown h.drove.before) node i)
        (returned_fine counts false (disk_of old node i) (disk_of (shown h.opened) node i) (h.begins.disks node i)) (h.drove.goes.disks node i)

    pub before_line : (l : Line) → l ≢ line.End → has_names layout l ≡ true → goes_in node l ≡ true → IsOpenLine h.drove.before.node h.drove.before.system l
    before_line l ne names goes = record {
      names = subst (λ (of : Layout). has_names of l ≡ true) (sym before_laid) names;
      fits = subst (λ (n : Node). goes_in n l ≡ true) (sym before_name) goes;
      unended = ne;
    }

  module _ (from : O) (before : List Line) (start : Node → ℕ → Option D) (c : Completes (given from out) tells counts layout before start (disk_of old) (λ s. IsAtState files layout s old) (StandsAs old)) where
    -- as the session was opened
    pub opened : (m : Met) (h : Driven m) → Completes (given from out) tells counts layout before start (disk_of (shown h.opened)) (IsShownAt files layout h.opened) (StandsAs (shown h.opened))
    opened m h = opened_so (given from out) tells files counts layout before start old h.opened h.begins c

    -- the session is open behind the lines that were answered
    inside : session_behind None before ≡ Some node → (m : Met) (h : Driven m) → session_behind None (before ++ take answered lines) ≡ Some node
    inside behind m h = inside_on before (take answered lines) node behind (kept m h)

    -- a line of the primary or of the sender's side was broken off
    pub off_line : (s : Status) → session_behind None before ≡ Some node → (laws : RunLaws) (why : StepFault) (h : Driven (met.Broken (broken.Line why))) → BreaksOff s (given from now_out) tells counts layout (before ++ lines) start (disk_of new) (λ s. DisksStandFor files layout s new)
    off_line s behind laws why h = breaks_next (given from now_out) tells counts layout before lines answered (next m h).0 (next m h).1.0 (next m h).1.1.0 start (disk_of new) (inside behind m h) s (disk_of (shown h.drove.before)) (IsShownAt files layout h.drove.before) (λ s. DisksStandFor files layout s new) (StandsAs (shown h.drove.before))
        done
        (told_off laws tells files counts layout (before ++ take answered lines) done.replies start h.drove.before (before_laid m h) (StandsAs (shown h.drove.before)) done.went new (next m h).0 (first_of_both why h.closed.node.name told)
        (h.closes.failed unmet h.drove.before (next m h).0 why (h.drove.goes.lent ∙ sym h.lent) (side_of (next m h).0 ends.2.side) h.drove.goes.is_open ends.2) (before_names m h) (before_fits m h))
      where
        m : Met
        m = met.Broken (broken.Line why)

        ends : EndsStretch given tells files counts m (take answered lines) (next m h).0 out now_out h.opened h.drove.before h.closed
        ends = (next m h).1.1.1

        done : Completes (given from now_out) tells counts layout (before ++ take answered lines) start (disk_of (shown h.drove.before)) (IsShownAt files layout h.drove.before) (StandsAs (shown h.drove.before))
        done = ends.0 layout from before start (opened_laid m h) (opened m h)

        unmet : h.closed.session.met ≡ None
        unmet = ap (λ o. o.met) ends.2.still ∙ h.drove.goes.unmet

    -- a reply was not written whole
    pub half_out : (laws : RunLaws) → session_behind None before ≡ Some node → (h : Driven (met.Unwritten answer.Write)) → StopsWriting (given from now_out) tells counts layout (before ++ lines) start (disk_of new) (λ s. DisksStandFor files layout s new)
    half_out laws behind h = stops_next (given from now_out) tells counts layout before lines answered (next m h).0 (next m h).1.0 (next m h).1.1.0 start (disk_of new) (inside behind m h) (disk_of (shown h.closed)) (IsShownAt files layout h.closed) (λ s. DisksStandFor files layout s new)
        half
        (left_on laws tells files counts layout (before ++ take answered lines ++ (next m h).0 ∷ []) (half.replies ++ half.reply ∷ []) start h.closed closed_laid Anyhow half.went new told (h.closes.unmet unmet) (λ t s more fed at may. h.closes.left t unmet layout s more fed at may))
      where
        m : Met
        m = met.Unwritten answer.Write

        ends : EndsStretch given tells files counts m (take answered lines) (next m h).0 out now_out h.opened h.drove.before h.closed
        ends = (next m h).1.1.1

        half : StopsAt (given from now_out) tells counts layout (before ++ take answered lines) (next m h).0 start (disk_of (shown h.closed)) (IsShownAt files layout h.closed)
        half = ends.0 layout from before start (opened_laid m h) (opened m h)

        unmet : h.closed.session.met ≡ None
        unmet = ends.1.answers.unmet

        closed_laid : layout_of h.closed.system ≡ layout
        closed_laid = ends.1.answers.does.laid ∙ before_laid m h

    -- there was no memory for the text of a reply
    pub unsaid : (s : Status) → session_behind None before ≡ Some node → (laws : RunLaws) (h : Driven (met.Unwritten answer.NoMemory)) → BreaksOff s (given from now_out) tells counts layout (before ++ lines) start (disk_of new) (λ s. DisksStandFor files layout s new)
    unsaid s behind laws h = breaks_next (given from now_out) tells counts layout before lines answered (next m h).0 (next m h).1.0 (next m h).1.1.0 start (disk_of new) (inside behind m h) s (disk_of (shown h.drove.before)) (IsShownAt files layout h.drove.before) (λ s. DisksStandFor files layout s new) (StandsAs (shown h.drove.before))
        done
        (unsaid_on laws tells files counts layout (before ++ take answered lines) done.replies start h.drove.before (before_laid m h) (StandsAs (shown h.drove.before)) done.went h.closed new told (next m h).0 ends.1.reply ends.1.answers (before_names m h) (before_fits m h) ends.1.undone
        (h.closes.unmet ends.1.answers.unmet)
        (λ t s rise falls fed at f more may. h.closes.unsaid t ends.1.answers.unmet h.drove.before (next m h).0 ends.1.reply (h.drove.goes.lent ∙ sym h.lent) (before_line m h (next m h).0 ends.1.unended (fits m h).0 (fits m h).1) ends.1.undone ends.1.unnumbered ends.1.answers layout s rise falls fed at f more may))
      where
        m : Met
        m = met.Unwritten answer.NoMemory

        ends : EndsStretch given tells files counts m (take answered lines) (next m h).0 out now_out h.opened h.drove.before h.closed
        ends = (next m h).1.1.1

        done : Completes (given from now_out) tells counts layout (before ++ take answered lines) start (disk_of (shown h.drove.before)) (IsShownAt files layout h.drove.before) (StandsAs (shown h.drove.before))
        done = ends.0 layout from before start (opened_laid m h) (opened m h)
