-- The line that is answered by what is told at the end of its session.
use Rattle.std.proofs.lemmas.Option.{none-some}
use Rattle.std.proofs.Common.{◌≡◌, inl, inr, ℕ, ◌<◌, true, List, ◌∷◌, ◌++◌, length, take, drop, get_or, Option, Some, None, Result, sym, ap, ◌∙◌, subst}
use Rattle.std.proofs.lemmas.Bool.{true≢false}
use Rattle.rdf_types.specs.declared.layout.Layout.{Layout}
use Rattle.rdf_types.specs.declared.records.Node.{Node}
use Rattle.rdf_disk.specs.Files.{Disk}
use Rattle.rdf_disk.specs.Counts.{Counts}
use Rattle.rdf_disk.specs.declared.disk.Disk.{Ghosts}
use Rattle.plan_lang.specs.declared.lines.Line.{Line}
use Rattle.plan_lang.specs.declared.lines.Line.TheVariants as line
use Rattle.plan_lang.specs.Sessions.{fits_session, session_after, session_behind, KeepSessions}
use Rattle.node_faults.specs.declared.NodeFault.{NodeFault}
use Rattle.rdf_core.specs.declared.replies.Reply.{Reply}
use Rattle.rdf_core.specs.Allowed.{has_names}
use Rattle.by_node.specs.Each.{at}
use Rattle.rdf_core.specs.State.{State}
use Rattle.rdf_monitor.specs.declared.fault.AnswerFault.TheVariants as answer
use Rattle.rdf_monitor.specs.Output.{Output}
use Rattle.rdf_system.specs.declared.opened.Broken.TheVariants as broken
use Rattle.rdf_system.specs.declared.session.SessionState.{SessionState}
use Rattle.rdf_system.specs.declared.system.System.{System}
use Rattle.rdf_system.specs.Closing.{told_by, told_in, DoesInSession}
use Rattle.rdf_system.specs.Opened.{OpenView, shown, IsOpenAt}
use Rattle.rdf_system.specs.OpenLines.{MetOpen}
use Rattle.rdf_system.specs.Sessions.{node_of, ended_by, used_by}
use Rattle.rdf_system.specs.Stances.{StandsAs}
use Rattle.rdf_system.specs.States.{disk_of, layout_of, IsAtState}
use Rattle.rdf_run.specs.Behind.{fault_behind}
use Rattle.rdf_run.specs.Going.{Completes}
use Rattle.rdf_run.specs.Returned.{NoneFailed}
use Rattle.rdf_run.specs.StopsTold.{uses_of}
use Rattle.rdf_run.specs.Stretches.{AreInSession, IsShownAt, EndsStretch, HasDriven, ComesOfSession}
use Rattle.rdf_run.specs.declared.run_fault.RunFault.{RunFault}
use Rattle.rdf_run.specs.declared.run_fault.RunFault.TheVariants as run
use Rattle.rdf_run.specs.declared.session_lines.Met.{Met}
use Rattle.rdf_run.specs.declared.session_lines.Met.TheVariants as met
use Rattle.rdf_run.proofs.Driven.{next, opened, opened_laid, before_laid, before_names, before_fits, before_node, kept, fits, before_spared}
use Rattle.rdf_run.proofs.Runs.{RunLaws}
use Rattle.rdf_run.proofs.Settling.{next_at, below_next, met_so, met_spared}

-- a line that met something is one of the session's node
pub used_own : {D : Type 0} {d : Ghosts D} (why : NodeFault) (l : Line) (x : OpenView D d) (session : SessionState) → MetOpen why l x → used_by session l ≡ Some x.node.name
used_own why (line.Read node key) x session h = ap (λ n. Some n) h.0
used_own why line.End x session h = absurd (true≢false (sym h.0))
used_own why _ x session h = h.1

some_same : (m n : Node) → (let o : Option Node = Some m in o ≡ Some n) → m ≡ n
some_same m n e = cc

-- and uses disks of no other
own_disks : {D : Type 0} {d : Ghosts D} (why : NodeFault) (l : Line) (x : OpenView D d) → MetOpen why l x → (of : Node) → uses_of l ≡ Some of → x.node.name ≡ of
own_disks why (line.Read node key) x h of e = sym h.0 ∙ some_same node of e
own_disks why _ x h of e = some_same x.node.name of (sym h.1 ∙ e)

-- ---- the line that is answered

-- what led to the session's end, as the line found it that is answered by what is told then, and what that line does
pub record IsTold {D O : Type 0} {d : Ghosts D} (given : O → O → Output) (faults : O → ℕ) (tells : Type 0) (files : D → Disk) (counts : D → Counts) (layout : Layout) (node : Node) (lines : List Line) (answered : ℕ) (told : Result Reply NodeFault) (l : Line) (out now_out : O) (old now : System D d) : Type 0 where
  pub closed : OpenView D d
  pub behind : List Line
  pub next_is : drop answered lines ≡ l ∷ behind
  pub does : DoesInSession tells files counts l (told_by closed.node.name told) closed now
  pub named : closed.node.name ≡ node
  pub done : RunLaws → (from : O) (before : List Line) (start : Node → ℕ → Option D) → Completes (given from out) tells counts layout before start (disk_of old) (λ s. IsAtState files layout s old) (StandsAs old) →
      Completes (given from now_out) tells counts layout (before ++ take answered lines) start (disk_of (shown closed)) (IsShownAt files layout closed) (StandsAs (shown closed))
  pub spared : NoneFailed counts (disk_of old) (disk_of (shown closed))
  pub sink : faults now_out ≡ faults out
  pub laid : layout_of closed.system ≡ layout
  pub names : has_names (layout_of closed.system) l ≡ true
  pub fits : fits_session (node_of closed.system.session) l ≡ true
  pub is_open : IsOpenAt tells files counts closed
  pub own : (of : Node) → uses_of l ≡ Some of → closed.node.name ≡ of
  pub uses : tells → (s : State) → IsShownAt files layout closed s → used_by closed.system.session l ≡ Some closed.node.name
  pub kept : session_behind (Some node) (take answered lines) ≡ Some node
  pub node_is : node_of closed.system.session ≡ Some node
  pub sessions : KeepSessions (session_after (Some node) l) behind

module _ {D O : Type 0} {d : Ghosts D} (given : O → O → Output) (faults : O → ℕ) (tells : Type 0) (files : D → Disk) (counts : D → Counts) (layout : Layout) (node : Node) (lines : List Line) (answered : ℕ) (told : Result Reply NodeFault) (out now_out : O) (old new : System D d)
    (laid : layout_of old ≡ layout) (ready : AreInSession layout node lines) where
  abbrev DrivenTo : Met → Type 0
  DrivenTo m = HasDriven given faults tells files counts node lines answered m told out now_out old new

  abbrev Told : Result Reply NodeFault → Line → System D d → Type 0
  Told result l now = IsTold given faults tells files counts layout node lines answered result l out now_out old now

  -- the line that ends the session
  told_end : (h : DrivenTo met.End) → Told told (next given faults tells files counts layout node lines answered told out now_out old new laid ready met.End h).0 (told_in (next given faults tells files counts layout node lines answered told out now_out old new laid ready met.End h).0 told new)
  told_end h = record {
    closed = h.closed;
    behind = (next given faults tells files counts layout node lines answered told out now_out old new laid ready met.End h).1.0;
    next_is = (next given faults tells files counts layout node lines answered told out now_out old new laid ready met.End h).1.1.0;
    does = subst (λ (k : Line). DoesInSession tells files counts k (told_by h.closed.node.name told) h.closed (told_in k told new)) (sym ends.1) (h.closes.unmet unmet);
    named = h.named;
    done = λ laws from before start c. ends.0 layout from before start (opened_laid given faults tells files counts layout node lines answered told out now_out old new laid ready met.End h) (opened given faults tells files counts layout node lines answered told out now_out old new laid ready from before start c met.End h);
    spared = subst (λ (x : OpenView D d). NoneFailed counts (disk_of old) (disk_of (shown x))) (sym ends.2) (before_spared given faults tells files counts layout node lines answered told out now_out old new laid ready met.End h);
    sink = h.drove.sink;
    laid = closed_laid;
    names = subst (λ (x : OpenView D d). has_names (layout_of x.system) l ≡ true) (sym ends.2) (before_names given faults tells files counts layout node lines answered told out now_out old new laid ready met.End h);
    fits = subst (λ (x : OpenView D d). fits_session (node_of x.system.session) l ≡ true) (sym ends.2) (before_fits given faults tells files counts layout node lines answered told out now_out old new laid ready met.End h);
    is_open = h.drove.still_open;
    own = λ of e. absurd (none-some of (sym (ap uses_of ends.1) ∙ e));
    uses = λ t s at. ap (λ (k : Line). used_by h.closed.system.session k) ends.1
        ∙ ap ended_by h.drove.still_open.open_is;
    kept = kept given faults tells files counts layout node lines answered told out now_out old new laid ready met.End h;
    node_is = ap (λ (x : OpenView D d). node_of x.system.session) ends.2 ∙ before_node given faults tells files counts layout node lines answered told out now_out old new laid ready met.End h;
    sessions = (fits given faults tells files counts layout node lines answered told out now_out old new laid ready met.End h).2;
  }
    where
      l : Line
      l = (next given faults tells files counts layout node lines answered told out now_out old new laid ready met.End h).0

      ends : EndsStretch given tells files counts met.End (take answered lines) l out now_out h.opened h.drove.before h.closed
      ends = (next given faults tells files counts layout node lines answered told out now_out old new laid ready met.End h).1.1.1

      unmet : h.closed.session.met ≡ None
      unmet = ap (λ (x : OpenView D d). x.session.met) ends.2 ∙ h.drove.goes.unmet

      closed_laid : layout_of h.closed.system ≡ layout
      closed_laid = ap (λ (x : OpenView D d). layout_of x.system) ends.2 ∙ before_laid given faults tells files counts layout node lines answered told out now_out old new laid ready met.End h

  -- a line of the session's node that met something
  told_own : (why : NodeFault) (h : DrivenTo (met.Broken (broken.Own why))) → Told told (next given faults tells files counts layout node lines answered told out now_out old new laid ready (met.Broken (broken.Own why)) h).0 (told_in (next given faults tells files counts layout node lines answered told out now_out old new laid ready (met.Broken (broken.Own why)) h).0 told new)
  told_own why h = record {
    closed = h.closed;
    behind = (next given faults tells files counts layout node lines answered told out now_out old new laid ready m h).1.0;
    next_is = (next given faults tells files counts layout node lines answered told out now_out old new laid ready m h).1.1.0;
    does = h.closes.broken why l ends.2.met ends.2.left;
    named = h.named;
    done = λ laws from before start c. met_so (given from now_out) tells files counts layout (before ++ take answered lines) start laws why l h.drove.before h.closed before_is ends.2
        (ends.0 layout from before start (opened_laid given faults tells files counts layout node lines answered told out now_out old new laid ready m h) (opened given faults tells files counts layout node lines answered told out now_out old new laid ready from before start c m h));
    spared = met_spared (given now_out now_out) tells files counts layout lines (disk_of old) why l h.drove.before h.closed before_is ends.2 (before_spared given faults tells files counts layout node lines answered told out now_out old new laid ready m h);
    sink = h.drove.sink;
    laid = ap (λ (sys : System D d). layout_of sys) ends.2.rest ∙ before_laid given faults tells files counts layout node lines answered told out now_out old new laid ready m h;
    names = subst (λ (sys : System D d). has_names (layout_of sys) l ≡ true) (sym ends.2.rest) (before_names given faults tells files counts layout node lines answered told out now_out old new laid ready m h);
    fits = subst (λ (sys : System D d). fits_session (node_of sys.session) l ≡ true) (sym ends.2.rest) (before_fits given faults tells files counts layout node lines answered told out now_out old new laid ready m h);
    is_open = h.drove.still_open;
    own = own_disks why l h.closed ends.2.met;
    uses = λ t s at. used_own why l h.closed h.closed.system.session ends.2.met;
    kept = kept given faults tells files counts layout node lines answered told out now_out old new laid ready m h;
    node_is = ap (λ (sys : System D d). node_of sys.session) ends.2.rest ∙ before_node given faults tells files counts layout node lines answered told out now_out old new laid ready m h;
    sessions = (fits given faults tells files counts layout node lines answered told out now_out old new laid ready m h).2;
  }
    where
      m : Met
      m = met.Broken (broken.Own why)

      l : Line
      l = (next given faults tells files counts layout node lines answered told out now_out old new laid ready m h).0

      ends : EndsStretch given tells files counts m (take answered lines) l out now_out h.opened h.drove.before h.closed
      ends = (next given faults tells files counts layout node lines answered told out now_out old new laid ready m h).1.1.1

      before_is : layout_of h.drove.before.system ≡ layout
      before_is = before_laid given faults tells files counts layout node lines answered told out now_out old new laid ready m h

  some_none : (f : RunFault) → (let o : Option RunFault = Some f in o ≡ None) → ⊥
  some_none f e = cc

  told_at : (m : Met) (h : DrivenTo m) → fault_behind m node told ≡ None → Told told (next given faults tells files counts layout node lines answered told out now_out old new laid ready m h).0 (told_in (next given faults tells files counts layout node lines answered told out now_out old new laid ready m h).0 told new)
  told_at met.End h e = told_end h
  told_at (met.Broken (broken.Own why)) h e = told_own why h
  told_at (met.Broken (broken.Line why)) h e = absurd (some_none _ e)
  told_at (met.Unwritten answer.Write) h e = absurd (some_none _ e)
  told_at (met.Unwritten answer.NoMemory) h e = absurd (some_none _ e)
  told_at met.Unbegun h e = absurd (some_none _ e)

  begun : (m : Met) → ComesOfSession given faults tells files counts node lines answered m told out now_out old new → fault_behind m node told ≡ None → DrivenTo m
  begun m (inl h) e = h
  begun m (inr u) e = absurd (some_none run.NoMemory (sym (ap (λ (k : Met). fault_behind k node told) u.met_is) ∙ e))

  -- there is a next line
  pub told_within : (m : Met) → ComesOfSession given faults tells files counts node lines answered m told out now_out old new → fault_behind m node told ≡ None → answered < length lines
  told_within m comes e = below_next lines answered (next given faults tells files counts layout node lines answered told out now_out old new laid ready m (begun m comes e)).0 (next given faults tells files counts layout node lines answered told out now_out old new laid ready m (begun m comes e)).1.0 (next given faults tells files counts layout node lines answered told out now_out old new laid ready m (begun m comes e)).1.1.0

  -- which is answered so
  pub is_told : (m : Met) → ComesOfSession given faults tells files counts node lines answered m told out now_out old new → fault_behind m node told ≡ None → (l : Line) → l ≡ get_or lines answered l → (result : Result Reply NodeFault) → told ≡ result → (now : System D d) → now ≡ told_in l told new → Told result l now
  is_told m comes e l at result is now now_is = subst (λ (s : System D d). Told result l s) (sym now_is)
      (subst (λ (r : Result Reply NodeFault). Told r l (told_in l told new)) is
      (subst (λ (k : Line). Told told k (told_in k told new)) (sym (at ∙ next_at lines answered l (next given faults tells files counts layout node lines answered told out now_out old new laid ready m h).0 (next given faults tells files counts layout node lines answered told out now_out old new laid ready m h).1.0 (next given faults tells files counts layout node lines answered told out now_out old new laid ready m h).1.1.0)) (told_at m h e)))
    where
      h : DrivenTo m
      h = begun m comes e
