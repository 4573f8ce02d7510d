-- How a run ends where a session is not begun.
use Rattle.std.proofs.Common.{◌≡◌, inl, inr, Bool, true, false, ℕ, List, [], ◌∷◌, ◌++◌, Option, Some, None, Result, refl, sym, ap, ◌∙◌, subst}
use Rattle.std.specs.List.{AllPass, list_all}
use Rattle.std.proofs.lemmas.Bool.{and_parts}
use Rattle.std.proofs.lemmas.List.Sums.{list_all-from_AllPass}
use Rattle.rdf_types.specs.declared.layout.Layout.{Layout}
use Rattle.rdf_types.specs.declared.records.Node.{Node}
use Rattle.rdf_disk.specs.Files.{Disk}
use Rattle.rdf_disk.specs.Counts.{Counts}
use Rattle.rdf_disk.specs.declared.disk.Disk.{Ghosts}
use Rattle.node_disks.specs.Cuts.{IfBoth}
use Rattle.plan_lang.specs.declared.lines.Line.{Line}
use Rattle.plan_lang.specs.Sessions.{fits_session, goes_in, session_behind, KeepSessions}
use Rattle.node_faults.specs.declared.NodeFault.{NodeFault}
use Rattle.rdf_core.specs.declared.replies.Reply.{Reply}
use Rattle.rdf_core.specs.Allowed.{has_names}
use Rattle.rdf_core.specs.State.{State}
use Rattle.rdf_monitor.specs.Output.{Output}
use Rattle.rdf_system.specs.declared.system.System.{System}
use Rattle.rdf_system.specs.Closing.{IsUnbegunIn}
use Rattle.rdf_system.specs.Lines.{Before}
use Rattle.rdf_system.specs.Place.{IfUsed, is_used}
use Rattle.rdf_system.specs.Sessions.{node_of}
use Rattle.rdf_system.specs.Stances.{StandsAs}
use Rattle.rdf_system.specs.States.{disk_of, layout_of, IsAtState, DisksStandFor}
use Rattle.rdf_run.specs.Behind.{fault_behind}
use Rattle.rdf_run.specs.Going.{Completes, BreaksOff, RanTo, BrokeIn, RunGoes}
use Rattle.rdf_run.specs.Judging.{Anyhow}
use Rattle.rdf_run.specs.RunFaults.{status_of_run}
use Rattle.rdf_run.specs.Stretches.{AreInSession, IsNotBegun, ComesOfSession}
use Rattle.rdf_run.specs.declared.run_fault.RunFault.{RunFault}
use Rattle.rdf_run.specs.declared.run_fault.RunFault.TheVariants as run
use Rattle.rdf_run.specs.declared.session_lines.Met.{Met}
use Rattle.rdf_run.specs.declared.status.Status.TheVariants as status
use Rattle.rdf_run.proofs.Along.{went_some, SameRises, Kept, kept_same, went_along}
use Rattle.rdf_run.proofs.Behinds.{ends_behind}
use Rattle.rdf_run.proofs.Places.{if_both_so}
use Rattle.rdf_run.proofs.Runs.{RunLaws}
use Rattle.rdf_system.specs.AllowedLaws.{line_allowed}

module _ {D : Type 0} {d : Ghosts D} (out : Output) (tells : Type 0) (files : D → Disk) (counts : D → Counts) (layout : Layout) (start : Node → ℕ → Option D) (old new : System D d) (laid : layout_of old ≡ layout) (h : IsUnbegunIn tells files counts old new) where
  -- the counts of each disk are the same, and a disk that is not used is the same
  same_at : (u : Bool) (x y : Option D) → IfBoth (λ a b. counts b ≡ counts a) x y → (u ≡ false → y ≡ x) → IfBoth (λ a b. IfUsed u (λ p q. SameRises (counts p) (counts q)) a b) x y
  same_at true x y e is = if_both_so (λ a b. counts b ≡ counts a) (λ a b. SameRises (counts a) (counts b)) x y (λ a b k. record { faults = ap (λ (c : Counts). c.faults) k; stops = ap (λ (c : Counts). c.stops) k; fuses = ap (λ (c : Counts). c.fuses) k }) e
  same_at false x y e is = subst (λ (o : Option D). IfBoth (λ a b. b ≡ a) x o) (sym (is refl)) (itself x)
    where
      itself : (o : Option D) → IfBoth (λ a b. b ≡ a) o o
      itself None = tt
      itself (Some a) = refl

  kept : Kept tells counts layout (disk_of old) (disk_of new)
  kept = subst (λ (of : Layout). Kept tells counts of (disk_of old) (disk_of new)) laid (λ node i. same_at (is_used (layout_of old) node i) (disk_of old node i) (disk_of new node i) (h.counts_are node i) (λ e. h.unused node i e))

  -- the next line is broken off, and its disks are as they were
  pub breaks_unbegun : (before lines : List Line) (l : Line) (behind : List Line) → lines ≡ l ∷ behind → has_names layout l ≡ true → fits_session (node_of old.session) l ≡ true → (tells → (s : State) → IsAtState files layout s new → DisksStandFor files layout s new) →
      Completes out tells counts layout before start (disk_of old) (λ s. IsAtState files layout s old) (StandsAs old) → {node : Node} → session_behind None before ≡ Some node → BreaksOff status.NoMemory out tells counts layout (before ++ lines) start (disk_of new) (λ s. DisksStandFor files layout s new)
  breaks_unbegun before lines l behind is names fits stands c inside = record {
    before = before;
    line = l;
    behind = behind;
    parts = ap (λ (ls : List Line). before ++ ls) is;
    replies = c.replies;
    wrote = c.wrote;
    went = went_some tells counts layout before c.replies start (disk_of new) (BrokeIn layout before c.replies l (λ s. DisksStandFor files layout s new)) Anyhow
        (went_along tells counts layout start start (disk_of old) (disk_of new) (kept_same tells counts layout start start (λ node i. refl)) kept true before c.replies
        (RanTo layout before c.replies (λ s. IsAtState files layout s old)) (BrokeIn layout before c.replies l (λ s. DisksStandFor files layout s new))
        (λ t n r. record {
          state = r.state;
          run = r.run;
          allowed = line_allowed layout r.state r.state old.session l names fits r.at.session ([], refl);
          left = r.state;
          leaves = Before refl;
          stops_are = r.stops_are;
          at = stands t r.state (h.at t layout r.state r.at);
        }) (StandsAs old) Anyhow (λ s is. tt) c.went);
    returned = λ outside. some_none (sym inside ∙ outside);
  }
    where
      some_none : {X : Type 0} {n : Node} → (let o : Option Node = Some n in o ≡ None) → X
      some_none e = absurd cc

-- the first line of a session
first_line : (layout : Layout) (node : Node) (lines : List Line) → AllPass (has_names layout) lines → KeepSessions (Some node) lines → (l : Line) × ((behind : List Line) × ((lines ≡ l ∷ behind) × (has_names layout l ≡ true) × (goes_in node l ≡ true)))
first_line layout node [] names sessions = absurd (some_none sessions)
  where
    some_none : (let o : Option Node = Some node in o ≡ None) → ⊥
    some_none e = cc
first_line layout node (l ∷ behind) names sessions = (l, (behind, (refl, (and_parts (has_names layout l) (list_all (has_names layout) behind) (list_all-from_AllPass (has_names layout) (l ∷ behind) names)).0, sessions.0)))

module _ {D O : Type 0} {d : Ghosts D} (given : O → O → Output) (faults : O → ℕ) (tells : Type 0) (files : D → Disk) (counts : D → Counts) (layout : Layout) (node : Node) (lines : List Line) (answered : ℕ) (told : Result Reply NodeFault) (out now_out : O) (old new : System D d)
    (laid : layout_of old ≡ layout) (ready : AreInSession layout node lines) (open_is : node_of old.session ≡ Some node) (from : O) (before : List Line) (start : Node → ℕ → Option D)
    (c : Completes (given from out) tells counts layout before start (disk_of old) (λ s. IsAtState files layout s old) (StandsAs old)) (laws : RunLaws) (behind : session_behind None before ≡ Some node)
    (stands : tells → (s : State) → IsAtState files layout s new → DisksStandFor files layout s new) where
  abbrev Goes : RunFault → Type 0
  Goes f = RunGoes (status_of_run f) (given from now_out) tells counts layout before lines answered start (disk_of new) (λ s. IsAtState files layout s new) (λ s. DisksStandFor files layout s new) (StandsAs new)

  unbegun_goes : (m : Met) → IsNotBegun tells files counts answered m out now_out old new → Goes run.NoMemory
  unbegun_goes m u = (
    λ t. tt,
    breaks_unbegun (given from now_out) tells files counts layout start old new laid u.unbegun before lines first.0 first.1.0 first.1.1.0 first.1.1.1
        (subst (λ (of : Option Node). fits_session of first.0 ≡ true) (sym open_is) first.1.1.2) stands
        (subst (λ (o : O). Completes (given from o) tells counts layout before start (disk_of old) (λ s. IsAtState files layout s old) (StandsAs old)) (sym u.out_is) c) behind,
  )
    where
      first : (l : Line) × ((rest : List Line) × ((lines ≡ l ∷ rest) × (has_names layout l ≡ true) × (goes_in node l ≡ true)))
      first = first_line layout node lines ready.names ready.sessions

  some_is : (x f : RunFault) → (let o : Option RunFault = Some x in o ≡ Some f) → x ≡ f
  some_is x f e = cc

  -- how the run ends with the session, or before it
  pub ends_goes : (m : Met) → ComesOfSession given faults tells files counts node lines answered m told out now_out old new → (f : RunFault) → fault_behind m node told ≡ Some f → Goes f
  ends_goes m (inl h) f e = ends_behind given faults tells files counts layout node lines answered told out now_out old new laid ready from before start c laws behind m h f e
  ends_goes m (inr u) f e = subst (λ (k : RunFault). Goes k) (some_is run.NoMemory f (sym (ap (λ (k : Met). fault_behind k node told) u.met_is) ∙ e)) (unbegun_goes m u)
