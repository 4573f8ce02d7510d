-- A run over lines of an open session, and how it goes on behind the session's end.
use Rattle.std.proofs.Common.{◌≡◌, ◌≢◌, ℕ, ◌<◌, true, false, List, [], ◌∷◌, ◌++◌, Option, Some, None, Result, Ok, Err, refl, ◌∙◌, subst}
use Rattle.rdf_types.specs.declared.layout.Layout.{Layout}
use Rattle.rdf_types.specs.declared.records.Node.{Node}
use Rattle.rdf_disk.specs.Files.{Disk}
use Rattle.rdf_disk.specs.Counts.{Counts, Ending}
use Rattle.rdf_disk.specs.declared.disk.Disk.{Ghosts}
use Rattle.plan_lang.specs.declared.lines.Line.{Line}
use Rattle.plan_lang.specs.declared.lines.Line.TheVariants as line
use Rattle.plan_lang.specs.Sessions.{fits_session, session_behind}
use Rattle.node_faults.specs.declared.NodeFault.{NodeFault}
use Rattle.rdf_core.specs.declared.replies.Reply.{Reply}
use Rattle.rdf_core.specs.declared.replies.Reply.TheVariants.{Done}
use Rattle.rdf_core.specs.Allowed.{has_names, is_node}
use Rattle.rdf_core.specs.Sound.{NoneHasFallen}
use Rattle.rdf_core.specs.State.{State}
use Rattle.rdf_system.specs.declared.fault.StepFault.{StepFault}
use Rattle.rdf_system.specs.declared.system.System.{System}
use Rattle.rdf_system.specs.Closing.{told_by, told_in, MayCountIn, DoesInSession, AreLeft}
use Rattle.rdf_system.specs.Lines.{Follows, Leaves}
use Rattle.rdf_system.specs.Opened.{OpenView, shown, IsFedAt}
use Rattle.rdf_system.specs.OpenLines.{AnswersOpen}
use Rattle.rdf_system.specs.Sessions.{node_of, used_by}
use Rattle.rdf_system.specs.Stances.{Stances, StandsAs}
use Rattle.rdf_system.specs.States.{disk_of, layout_of, IsAtState, DisksStandFor}
use Rattle.rdf_run.specs.Going.{Went, RanTo, BrokeIn}
use Rattle.rdf_run.specs.Judging.{Anyhow}
use Rattle.rdf_run.specs.Rising.{CountsRose, sums_of}
use Rattle.rdf_run.specs.StopsTold.{uses_of}
use Rattle.rdf_run.specs.Stretches.{IsShownAt}
use Rattle.rdf_run.proofs.Judged.{judges_on, went_anyhow}
use Rattle.rdf_run.proofs.LineCounts.{Each, rose_of, fuses_kept, rises_by, each_rises, LineStops}
use Rattle.rdf_run.proofs.Replying.{any_session, replied_kind}
use Rattle.rdf_run.proofs.Rises.{one_some}
use Rattle.rdf_run.proofs.Runs.{RunLaws}
use Rattle.rdf_run.proofs.SessionCounts.{told_stops, told_ends, told_count}
use Rattle.rdf_run.proofs.Steps.{follows, went_on, broke_after, broke_off, went_off, stops_of}

module _ {D : Type 0} {d : Ghosts D} (laws : RunLaws) (tells : Type 0) (files : D → Disk) (counts : D → Counts) (layout : Layout) (lines : List Line) (replies : List Reply) (start : Node → ℕ → Option D) (old : OpenView D d)
    (laid : layout_of old.system ≡ layout) (went : Went true tells counts layout lines replies start (disk_of (shown old)) (RanTo layout lines replies (IsShownAt files layout old)) (StandsAs (shown old))) where
  -- a line more was answered in the open session
  pub open_on : (new : OpenView D d) (l : Line) (reply : Reply) → l ≢ line.End → AnswersOpen tells files counts l reply old new →
      Went true tells counts layout (lines ++ l ∷ []) (replies ++ reply ∷ []) start (disk_of (shown new)) (RanTo layout (lines ++ l ∷ []) (replies ++ reply ∷ []) (IsShownAt files layout new)) (StandsAs (shown new))
  open_on new l reply unended a = went_on laws tells files counts layout lines replies l start (shown old) (shown new) laid (used_by old.system.session l) (IsShownAt files layout old) (StandsAs (shown old)) went reply
      (λ t s rise some falls at. a.does.performs t layout s rise some falls at.1 at.0)
      (stops_of counts (shown old) (shown new) l reply a.does.cause) a.does.fuses
      (any_session (node_of old.system.session) (session_behind None lines) l reply unended (replied_kind (node_of old.system.session) l reply (shown old) (shown new) refl a.does.kinds)) (IsShownAt files layout new)
      (λ t s mid next at drifts step now. (now, a.feeds t layout s mid next at.0 at.1 drifts step now)) (StandsAs (shown new)) (judges_on layout l reply (shown old) (shown new) laid a.does.judged a.does.moved)

  -- the same, however the nodes stand then
  pub open_half : (new : OpenView D d) (l : Line) (reply : Reply) → l ≢ line.End → AnswersOpen tells files counts l reply old new →
      Went true tells counts layout (lines ++ l ∷ []) (replies ++ reply ∷ []) start (disk_of (shown new)) (RanTo layout (lines ++ l ∷ []) (replies ++ reply ∷ []) (IsShownAt files layout new)) Anyhow
  open_half new l reply unended a = went_anyhow true tells counts layout (lines ++ l ∷ []) (replies ++ reply ∷ []) start (disk_of (shown new)) (RanTo layout (lines ++ l ∷ []) (replies ++ reply ∷ []) (IsShownAt files layout new)) (StandsAs (shown new)) (open_on new l reply unended a)

  -- a line was answered at the end of the session, which uses disks of its node
  pub told_on : (new : System D d) (l : Line) (reply : Reply) → node_of old.system.session ≡ session_behind None lines → (let result : Result Reply StepFault = Ok reply in DoesInSession tells files counts l result old new) → is_node (layout_of old.system) old.node.name ≡ true → ((of : Node) → uses_of l ≡ Some of → old.node.name ≡ of) →
      (tells → (s : State) → IsShownAt files layout old s → used_by old.system.session l ≡ Some old.node.name) →
      Went true tells counts layout (lines ++ l ∷ []) (replies ++ reply ∷ []) start (disk_of new) (RanTo layout (lines ++ l ∷ []) (replies ++ reply ∷ []) (λ s. IsAtState files layout s new)) (StandsAs new)
  told_on new l reply here h has own uses = went_on laws tells files counts layout lines replies l start (shown old) new laid (Some old.node.name) (IsShownAt files layout old) (StandsAs (shown old)) went reply
      (λ t s rise some falls at. subst (λ (u : Option Node). Follows files layout s u l rise reply new) (uses t s at) (h.performs t layout s rise some falls at.1 at.0))
      (told_stops counts old.node.name l (shown old) new reply has own h.cause) h.fuses (replied_kind (session_behind None lines) l reply (shown old) new here h.kinds) (λ s. IsAtState files layout s new)
      (λ t s mid next at drifts step now. now) (StandsAs new) (judges_on layout l reply (shown old) new laid h.judged h.moved)

-- where the run ends, it does not matter how the nodes stood
module _ {D : Type 0} {d : Ghosts D} (laws : RunLaws) (tells : Type 0) (files : D → Disk) (counts : D → Counts) (layout : Layout) (lines : List Line) (replies : List Reply) (start : Node → ℕ → Option D) (old : OpenView D d)
    (laid : layout_of old.system ≡ layout) (Was : Stances → Type 0) (went : Went true tells counts layout lines replies start (disk_of (shown old)) (RanTo layout lines replies (IsShownAt files layout old)) Was) where
  was_at : tells → (s : State) → IsShownAt files layout old s → IsAtState files layout s (shown old)
  was_at t s h = h.0

  -- a line was broken off, as was told at the end of the session
  pub told_off : (new : System D d) (l : Line) (why : StepFault) → DoesInSession tells files counts l (Err why) old new → has_names (layout_of old.system) l ≡ true → fits_session (node_of old.system.session) l ≡ true →
      Went false tells counts layout lines replies start (disk_of new) (BrokeIn layout lines replies l (λ s. DisksStandFor files layout s new)) Anyhow
  told_off new l why h names fits = broke_off laws tells files counts layout lines replies l start (shown old) new laid (used_by old.system.session l) (IsShownAt files layout old) Was went
      (told_ends counts old.node.name l (shown old) new (Err why) h.cause) h.cause.each (Err why) not_done h.fuses names fits was_at
      (λ t s falls at. h.performs t layout s 1 one_some falls at.1 at.0 (sums_of layout (rises_by counts (layout_of (shown old)) (disk_of (shown old)) (disk_of new) (told_ends counts old.node.name l (shown old) new (Err why) h.cause)))
      (subst (λ (of : Layout). MayCountIn of old.node.name l (sums_of of (rises_by counts (layout_of (shown old)) (disk_of (shown old)) (disk_of new) (told_ends counts old.node.name l (shown old) new (Err why) h.cause)))) laid
      (told_count counts old.node.name l (shown old) new (Err why) h.cause)))
    where
      not_done : (let result : Result Reply StepFault = Err why in result ≢ Ok Done)
      not_done e = cc

  -- no line was to be answered any more: the disks are left so
  pub left_on : (new : System D d) (told : Result Reply NodeFault) → DoesInSession tells files counts line.End (told_by old.node.name told) old (told_in line.End told new) →
      (tells → (s : State) (more : Node → ℕ) → IsFedAt s old → IsAtState files layout s (shown old) → MayCountIn layout old.node.name line.End more → AreLeft files layout s more new) →
      Went false tells counts layout lines replies start (disk_of new) (RanTo layout lines replies (λ s. DisksStandFor files layout s new)) Anyhow
  left_on new told h left = went_off laws tells files counts layout lines replies line.End start (shown old) (told_in line.End told new) laid (used_by old.system.session line.End) (IsShownAt files layout old) Was went
      ends h.cause.each new (told_by old.node.name told) refl h.fuses
      (λ t s at. left t s (sums_of layout more) at.1 at.0
      (subst (λ (of : Layout). MayCountIn of old.node.name line.End (sums_of of more)) laid (told_count counts old.node.name line.End (shown old) (told_in line.End told new) (told_by old.node.name told) h.cause)))
    where
      ends : Node → ℕ → Ending
      ends = told_ends counts old.node.name line.End (shown old) (told_in line.End told new) (told_by old.node.name told) h.cause

      more : Node → ℕ → ℕ
      more = rises_by counts (layout_of (shown old)) (disk_of (shown old)) (disk_of (told_in line.End told new)) ends

  -- a line was answered, there was no memory for its reply, and the session was closed
  pub unsaid_on : (closed : OpenView D d) (new : System D d) (told : Result Reply NodeFault) (l : Line) (reply : Reply) → AnswersOpen tells files counts l reply old closed →
      has_names (layout_of old.system) l ≡ true → fits_session (node_of old.system.session) l ≡ true → reply ≢ Done →
      DoesInSession tells files counts line.End (told_by closed.node.name told) closed (told_in line.End told new) →
      (tells → (s : State) (rise : ℕ) → NoneHasFallen layout s s.session → IsFedAt s old → IsAtState files layout s (shown old) →
      (f : Follows files layout s (used_by old.system.session l) l rise reply (shown closed)) (more : Node → ℕ) → MayCountIn layout closed.node.name line.End more → Leaves files layout s l f.next more new) →
      Went false tells counts layout lines replies start (disk_of new) (BrokeIn layout lines replies l (λ s. DisksStandFor files layout s new)) Anyhow
  unsaid_on closed new told l reply a names fits ne h leaves = broke_after laws tells files counts layout lines replies l start (shown old) (shown closed) laid (used_by old.system.session l) (IsShownAt files layout old) Was went reply
      performs stops a.does.fuses new a.does.laid names fits was_at ne more
      (subst (λ (of : Layout). Each counts of (disk_of (shown closed)) (disk_of new) (λ node i p q. CountsRose 0 (more node i) (counts p) (counts q))) closed_laid
      (rose_of counts (layout_of (shown closed)) (disk_of (shown closed)) (disk_of (told_in line.End told new)) (λ node i. 0) more
      (fuses_kept counts (layout_of (shown closed)) (disk_of (shown closed)) (disk_of (told_in line.End told new)) line.End (told_by closed.node.name told) refl h.fuses)
      (each_rises counts (layout_of (shown closed)) (disk_of (shown closed)) (disk_of (told_in line.End told new)) ends h.cause.each)))
      (λ t. leaves t (went.run t).state stops.rise (laws.falls layout lines replies (went.run t).state (went.run t).run) (went.run t).at.1 (went.run t).at.0
      (follows laws tells files counts layout lines replies l start (shown old) (shown closed) laid (used_by old.system.session l) (IsShownAt files layout old) Was went reply performs stops a.does.fuses t) (sums_of layout more)
      (subst (λ (of : Layout). MayCountIn of closed.node.name line.End (sums_of of more)) closed_laid (told_count counts closed.node.name line.End (shown closed) (told_in line.End told new) (told_by closed.node.name told) h.cause)))
    where
      closed_laid : layout_of (shown closed) ≡ layout
      closed_laid = a.does.laid ∙ laid

      performs : tells → (s : State) (rise : ℕ) → 0 < rise → NoneHasFallen layout s s.session → IsShownAt files layout old s → Follows files layout s (used_by old.system.session l) l rise reply (shown closed)
      performs t s rise some falls at = a.does.performs t layout s rise some falls at.1 at.0

      stops : LineStops counts (layout_of (shown old)) (disk_of (shown old)) (disk_of (shown closed)) (used_by old.system.session l) l reply
      stops = stops_of counts (shown old) (shown closed) l reply a.does.cause

      ends : Node → ℕ → Ending
      ends = told_ends counts closed.node.name line.End (shown closed) (told_in line.End told new) (told_by closed.node.name told) h.cause

      more : Node → ℕ → ℕ
      more = rises_by counts (layout_of (shown closed)) (disk_of (shown closed)) (disk_of (told_in line.End told new)) ends
