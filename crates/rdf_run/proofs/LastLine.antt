-- How a run goes on behind the line that is answered by what is told at the end of its session.
use Rattle.std.proofs.Common.{◌≡◌, ◌≢◌, ℕ, ◌+◌, ◌<◌, ◌≤◌, Bool, true, false, nat_lt, List, [], ◌∷◌, ◌++◌, length, take, Option, Some, None, Result, Ok, Err, refl, sym, ap, ◌∙◌, subst, append_assoc, if◌then◌else◌, arith}
use Rattle.std.specs.Prelude.{IfErr}
use Rattle.std.proofs.lemmas.Bool.{true≢false}
use Rattle.rdf_types.specs.declared.layout.Layout.{Layout}
use Rattle.rdf_types.specs.declared.records.Node.{Node}
use Rattle.rdf_types.specs.declared.records.Node.TheVariants.{A, B, C}
use Rattle.rdf_disk.specs.Files.{Disk}
use Rattle.rdf_disk.specs.Counts.{Counts}
use Rattle.rdf_disk.specs.Counts.Ending.{Fine}
use Rattle.rdf_disk.specs.declared.disk.Disk.{Ghosts}
use Rattle.rdf_ports.specs.Counts.{Faulted}
use Rattle.plan_lang.specs.declared.lines.Line.{Line}
use Rattle.plan_lang.specs.LineText.{same_node}
use Rattle.plan_lang.specs.Sessions.{session_after, session_behind, KeepSessions}
use Rattle.node_faults.specs.declared.NodeFault.{NodeFault}
use Rattle.node_faults.specs.declared.NodeFault.TheVariants as fault
use Rattle.rdf_backup.specs.FirstFaults.{rank}
use Rattle.rdf_core.specs.AllowedLaws.{is_placed as placed_node}
use Rattle.rdf_core.specs.declared.replies.Reply.{Reply}
use Rattle.rdf_core.specs.declared.replies.Reply.TheVariants.{Done}
use Rattle.rdf_core.specs.Allowed.{is_node, is_backup}
use Rattle.rdf_core.specs.Sound.{NoneHasFallen}
use Rattle.rdf_core.specs.State.{State}
use Rattle.rdf_monitor.specs.declared.fault.AnswerFault.{AnswerFault}
use Rattle.rdf_monitor.specs.declared.fault.AnswerFault.TheVariants as answer
use Rattle.rdf_monitor.specs.Faults.{CountsAnswer}
use Rattle.rdf_monitor.specs.Output.{Output, Joins}
use Rattle.rdf_system.specs.declared.fault.StepFault.{StepFault}
use Rattle.rdf_system.specs.declared.system.System.{System}
use Rattle.rdf_system.specs.Closing.{Answers, IsCausedInSession, DoesInSession}
use Rattle.rdf_system.specs.Lines.{Follows}
use Rattle.rdf_system.specs.Noting.{behind_node}
use Rattle.rdf_system.specs.Opened.{shown}
use Rattle.rdf_system.specs.Place.{IfUsed, is_used}
use Rattle.rdf_system.specs.Sessions.{node_of}
use Rattle.rdf_system.specs.Stances.{fresh, StandsAs}
use Rattle.rdf_system.specs.States.{disk_of, layout_of, IsAtState, DisksStandFor}
use Rattle.rdf_run.specs.Behind.{GoesBehind}
use Rattle.rdf_run.specs.Going.{ByStatus, Completes, StopsWriting, BreaksOff, Went, RanTo, Keeps}
use Rattle.rdf_run.specs.Returned.{Returned, ReturnIn, NoneFailed, may_fail}
use Rattle.rdf_run.specs.Rising.{CountsRose}
use Rattle.rdf_run.specs.RunFaults.{fault_at_node, status_of_run, Spares}
use Rattle.rdf_run.specs.Statuses.{SinkAfter, NamesUsedDisk, IsSound, ending_at}
use Rattle.rdf_run.specs.Stretches.{IsShownAt}
use Rattle.rdf_run.specs.declared.run_fault.RunFault.TheVariants as run
use Rattle.rdf_run.specs.declared.status.Status.{Status}
use Rattle.rdf_run.specs.declared.status.Status.TheVariants.{WriteFault, NoMemory}
use Rattle.rdf_run.proofs.Behinds.{sound_by}
use Rattle.rdf_run.proofs.InSession.{told_on, told_off}
use Rattle.rdf_run.proofs.Judged.{judged_anyhow, went_anyhow}
use Rattle.rdf_run.proofs.LineCounts.{LineStops}
use Rattle.rdf_run.proofs.Places.{at_each_same, if_used_same}
use Rattle.rdf_run.proofs.Returns.{returned_then, names_used, system_there, fine_no_stop, run_no_stop}
use Rattle.rdf_run.proofs.Rises.{rose_none}
use Rattle.rdf_run.proofs.OneLine.{leaves_none}
use Rattle.rdf_run.proofs.Runs.{RunLaws}
use Rattle.rdf_run.proofs.SessionCounts.{told_stops as counts_told}
use Rattle.rdf_run.proofs.SessionReturns.{returned_told, returned_off_told}
use Rattle.rdf_run.proofs.Settling.{behind_next, below_next, take_next, session_joins, inside_on, broken_by, breaks_next, stops_next}
use Rattle.rdf_run.proofs.Steps as steps
use Rattle.rdf_run.proofs.Telling.{IsTold}
use Rattle.rdf_run.proofs.Told.{told_some}

-- ---- names and statuses

pub away_from : (layout : Layout) (node : Node) → is_backup layout node ≡ true → same_node node A ≡ false
away_from layout A e = absurd (true≢false (sym e))
away_from layout B e = refl
away_from layout C e = refl

-- a disk that did not fail may have
pub may_too : {D : Type 0} (counts : D → Counts) (behind : Bool) (x y : Option D) → Returned counts false Fine x y → Returned counts behind Fine x y
may_too counts false x y h = h
may_too counts true None None h = h
may_too counts true (Some a) (Some b) h = subst (λ n. n ≤ (counts b).faults) h (omega arith)
may_too counts true (Some a) None h = h
may_too counts true None (Some b) h = h

-- of a fault of a node nothing is asked
pub spares_node : {D : Type 0} (counts : D → Counts) (named : Node) (why : NodeFault) (old new : Node → ℕ → Option D) → Spares {T = Unit {0}} counts (Err (fault_at_node named why)) old new
spares_node counts named (fault.Stopped disk) old new = tt
spares_node counts named (fault.Failed disk) old new = tt
spares_node counts named fault.NoMemory old new = tt
spares_node counts named (fault.Damaged disk file at) old new = tt

pub spares_write : {D : Type 0} (counts : D → Counts) (met : Bool) (old new : Node → ℕ → Option D) → NoneFailed counts old new → Spares {T = Unit {0}} counts (Err (run.Write met)) old new
spares_write counts true old new h = tt
spares_write counts false old new h = h

-- nor does it fault the sink
pub sink_node : (named : Node) (why : NodeFault) (m n : ℕ) → n ≡ m → SinkAfter (status_of_run (fault_at_node named why)) m n
sink_node named (fault.Stopped disk) m n e = e
sink_node named (fault.Failed disk) m n e = e
sink_node named fault.NoMemory m n e = e
sink_node named (fault.Damaged disk file at) m n e = e

-- a reply that was not written, behind lines that did not fault the sink
pub counts_write : (r : Result (Unit {0}) AnswerFault) → r ≡ Err answer.Write → (a b c : ℕ) → CountsAnswer r a b → a ≡ c → Faulted c b
counts_write r is a b c h e = subst (λ (k : ℕ). Faulted k b) e (subst (λ (k : Result (Unit {0}) AnswerFault). CountsAnswer k a b) is h)

pub counts_none : (r : Result (Unit {0}) AnswerFault) → r ≡ Err answer.NoMemory → (a b c : ℕ) → CountsAnswer r a b → a ≡ c → b ≡ c
counts_none r is a b c h e = (subst (λ (k : Result (Unit {0}) AnswerFault). CountsAnswer k a b) is h) ∙ e

-- ---- what is told is no stop

-- a fault that comes before another one is no stop
no_stop : (f g : NodeFault) (disk : ℕ) → nat_lt (rank f) (rank g) ≡ true → f ≢ fault.Stopped disk
no_stop f (fault.Stopped of) disk lt e = absurd (true≢false (sym lt ∙ ap (λ (k : NodeFault). nat_lt (rank k) 3) e))
no_stop f (fault.Failed of) disk lt e = absurd (true≢false (sym lt ∙ ap (λ (k : NodeFault). nat_lt (rank k) 0) e))
no_stop f fault.NoMemory disk lt e = absurd (true≢false (sym lt ∙ ap (λ (k : NodeFault). nat_lt (rank k) 2) e))
no_stop f (fault.Damaged of file at) disk lt e = absurd (true≢false (sym lt ∙ ap (λ (k : NodeFault). nat_lt (rank k) 1) e))

pub told_unstopped : {D : Type 0} {d : Ghosts D} (counts : D → Counts) (name : Node) (l : Line) (told : StepFault) (old new : System D d) → (let result : Result Reply StepFault = Err told in IsCausedInSession counts name l result old new) → (disk : ℕ) → told.fault ≢ fault.Stopped disk
told_unstopped counts name l told old new h disk = by_answer h.line h.met h.answers h.line_unstopped
  where
    by_order : (why met : NodeFault) (b : Bool) → nat_lt (rank met) (rank why) ≡ b → told ≡ (if b then record { node = name; fault = met } else record { node = A; fault = why }) → ((i : ℕ) → why ≢ fault.Stopped i) → told.fault ≢ fault.Stopped disk
    by_order why met true lt is never e = no_stop met why disk lt (sym (ap (λ (f : StepFault). f.fault) is) ∙ e)
    by_order why met false lt is never e = never disk (sym (ap (λ (f : StepFault). f.fault) is) ∙ e)

    by_answer : (line met : Result (Unit {0}) NodeFault) → Answers name line met (Err told) → IfErr line (λ why. (i : ℕ) → why ≢ fault.Stopped i) → told.fault ≢ fault.Stopped disk
    by_answer (Ok x) (Ok y) is never e = absurd is
    by_answer (Ok x) (Err why) is never e = is.1 disk (sym (ap (λ (f : StepFault). f.fault) is.0) ∙ e)
    by_answer (Err why) (Ok y) is never e = never disk (sym (ap (λ (f : StepFault). f.fault) is) ∙ e)
    by_answer (Err why) (Err met) is never e = by_order why met (nat_lt (rank met) (rank why)) refl is never e

-- ---- the line that is answered

one_more : (n : ℕ) → 0 < n + 1
one_more n = omega arith

up_to_one_more : (n m : ℕ) → n < m → n + 1 ≤ m
up_to_one_more n m lt = omega arith

module _ {D O : Type 0} {d : Ghosts D} (given : O → O → Output) (faults : O → ℕ) (tells : Type 0) (files : D → Disk) (counts : D → Counts) (layout : Layout) (node : Node) (lines : List Line) (answered : ℕ) (l : Line) (out mid now_out : O) (old now : System D d) where
  abbrev Told : Result Reply NodeFault → Type 0
  Told result = IsTold given faults tells files counts layout node lines answered result l out mid old now

  abbrev Begun : O → List Line → (Node → ℕ → Option D) → Type 0
  Begun from before start = Completes (given from out) tells counts layout before start (disk_of old) (λ s. IsAtState files layout s old) (StandsAs old)

  module _ (told : Result Reply NodeFault) (h : Told told) where
    is_placed : is_backup (layout_of h.closed.system) h.closed.node.name ≡ true
    is_placed = h.is_open.placed

    has : is_node (layout_of h.closed.system) h.closed.node.name ≡ true
    has = placed_node (layout_of h.closed.system) h.closed.node.name is_placed

    away : same_node h.closed.node.name A ≡ false
    away = away_from (layout_of h.closed.system) h.closed.node.name is_placed

    -- what the system keeps
    pub told_keeps : layout_of old ≡ layout → (status : Status) → SinkAfter status (faults out) (faults now_out) → Keeps tells files counts status (faults out) (faults now_out) old now
    told_keeps laid status sink = record {
      serves = h.does.serves;
      laid = h.does.laid ∙ h.laid ∙ sym laid;
      sink = sink;
    }

  module _ (reply : Reply) (h : (let result : Result Reply NodeFault = Ok reply in Told result)) where
    -- no disk failed
    pub told_spared : NoneFailed counts (disk_of old) (disk_of now)
    told_spared i k = returned_then counts false Fine fine_no_stop (disk_of old i k) (disk_of (shown h.closed) i k) (disk_of now i k) (h.spared i k)
        (returned_told counts h.closed.node.name (away (Ok reply) h) (shown h.closed) now l reply h.does.cause i k)

    pub told_write : ReturnIn counts (Some node) WriteFault (disk_of old) (disk_of now)
    told_write i k = may_too counts (may_fail (Some node) WriteFault i k) (disk_of old i k) (disk_of now i k) (told_spared i k)

    -- the session behind it
    pub told_more : GoesBehind node (node_of now.session) lines (answered + 1)
    told_more = record {
      some = one_more answered;
      within = up_to_one_more answered (length lines) (below_next lines answered l h.behind h.next_is);
      behind = ap (λ (ls : List Line). session_behind (Some node) ls) (take_next lines answered l h.behind h.next_is)
          ∙ session_joins (Some node) (take answered lines) (l ∷ [])
          ∙ ap (λ (of : Option Node). session_behind of (l ∷ [])) h.kept
          ∙ sym after;
      sessions = subst (λ (ls : List Line). KeepSessions (node_of now.session) ls) (sym (behind_next lines answered l h.behind h.next_is)) (subst (λ (of : Option Node). KeepSessions of h.behind) (sym after) h.sessions);
    }
      where
        after : node_of now.session ≡ session_after (Some node) l
        after = ap node_of h.does.moved.session ∙ behind_node h.closed.system.session l reply ∙ ap (λ (of : Option Node). session_after of l) h.node_is

    module _ (laws : RunLaws) (from : O) (before : List Line) (start : Node → ℕ → Option D) (c : Begun from before start) (inside : session_behind None before ≡ Some node) where
      so : Completes (given from mid) tells counts layout (before ++ take answered lines) start (disk_of (shown h.closed)) (IsShownAt files layout h.closed) (StandsAs (shown h.closed))
      so = h.done laws from before start c

      went : Went true tells counts layout (before ++ take answered lines ++ l ∷ []) (so.replies ++ reply ∷ []) start (disk_of now) (RanTo layout (before ++ take answered lines ++ l ∷ []) (so.replies ++ reply ∷ []) (λ s. IsAtState files layout s now)) (StandsAs now)
      went = told_on laws tells files counts layout (before ++ take answered lines) so.replies start h.closed h.laid so.went now l reply (h.node_is ∙ sym (inside_on before (take answered lines) node inside h.kept)) h.does (has (Ok reply) h) h.own h.uses

      -- its reply is out
      pub told_completes : Joins (given from mid) (given mid now_out) (given from now_out) → (given mid now_out).whole (l ∷ []) (reply ∷ []) →
          Completes (given from now_out) tells counts layout (before ++ take (answered + 1) lines) start (disk_of now) (λ s. IsAtState files layout s now) (StandsAs now)
      told_completes joins wrote = subst (λ (ls : List Line). Completes (given from now_out) tells counts layout ls start (disk_of now) (λ s. IsAtState files layout s now) (StandsAs now)) longer
          (record {
            replies = so.replies ++ reply ∷ [];
            wrote = joins.whole (before ++ take answered lines) so.replies l reply so.wrote wrote;
            went = went;
            spared = λ i k. returned_then counts false Fine fine_no_stop (start i k) (disk_of (shown h.closed) i k) (disk_of now i k) (so.spared i k)
                (returned_told counts h.closed.node.name (away (Ok reply) h) (shown h.closed) now l reply h.does.cause i k);
          })
        where
          longer : before ++ take answered lines ++ l ∷ [] ≡ before ++ take (answered + 1) lines
          longer = append_assoc before (take answered lines) (l ∷ []) ∙ ap (λ (ls : List Line). before ++ ls) (sym (take_next lines answered l h.behind h.next_is))

      -- a first part of it is out
      pub told_stops : Joins (given from mid) (given mid now_out) (given from now_out) → (given mid now_out).part [] [] l reply → (tells → (s : State) → IsAtState files layout s now → DisksStandFor files layout s now) →
          StopsWriting (given from now_out) tells counts layout (before ++ lines) start (disk_of now) (λ s. DisksStandFor files layout s now)
      told_stops joins wrote stands = stops_next (given from now_out) tells counts layout before lines answered l h.behind h.next_is start (disk_of now) (inside_on before (take answered lines) node inside h.kept) (disk_of now) (λ s. IsAtState files layout s now) (λ s. DisksStandFor files layout s now)
          (record {
            replies = so.replies;
            reply = reply;
            wrote = joins.part (before ++ take answered lines) so.replies l reply so.wrote wrote;
            went = went_anyhow true tells counts layout (before ++ take answered lines ++ l ∷ []) (so.replies ++ reply ∷ []) start (disk_of now) (RanTo layout (before ++ take answered lines ++ l ∷ []) (so.replies ++ reply ∷ []) (λ s. IsAtState files layout s now)) (StandsAs now) went;
          })
          (record {
            many = went.many;
            kinds = went.kinds;
            judged = judged_anyhow layout (fresh layout) (before ++ take answered lines ++ l ∷ []) (so.replies ++ reply ∷ []) (StandsAs now) went.judged;
            stops = went.stops;
            told = told_some layout (before ++ take answered lines ++ l ∷ []) (so.replies ++ reply ∷ []) went.stops went.stops (λ i k. omega arith) went.told;
            disks = went.disks;
            run = λ t. record { state = (went.run t).state; run = (went.run t).run; stops_are = (went.run t).stops_are; at = stands t (went.run t).state (went.run t).at };
          })

      -- there was no memory for it
      pub told_unsaid : Joins (given from mid) (given mid now_out) (given from now_out) → (given mid now_out).none → reply ≢ Done → BreaksOff NoMemory (given from now_out) tells counts layout (before ++ lines) start (disk_of now) (λ s. DisksStandFor files layout s now)
      told_unsaid joins none ne = breaks_next (given from now_out) tells counts layout before lines answered l h.behind h.next_is start (disk_of now) (inside_on before (take answered lines) node inside h.kept) NoMemory (disk_of (shown h.closed)) (IsShownAt files layout h.closed) (λ s. DisksStandFor files layout s now) (StandsAs (shown h.closed))
          (record {
            replies = so.replies;
            wrote = joins.none (before ++ take answered lines) so.replies so.wrote none;
            went = so.went;
            spared = so.spared;
          })
          (steps.broke_after laws tells files counts layout (before ++ take answered lines) so.replies l start (shown h.closed) now h.laid (Some h.closed.node.name) (IsShownAt files layout h.closed) (StandsAs (shown h.closed)) so.went reply performs ls h.does.fuses
          now h.does.laid h.names h.fits (λ t s at. at.0) ne (λ i k. 0)
          (at_each_same (λ i k a b. IfUsed (is_used layout i k) (λ p q. CountsRose 0 0 (counts p) (counts q)) a b) (disk_of now) (disk_of now) (λ i k. refl)
          (λ i k a. if_used_same (is_used layout i k) (λ p q. CountsRose 0 0 (counts p) (counts q)) a (record { fuses_are = refl; stops_are = rose_none (counts a).stops (counts a).stops refl })))
          (λ t. leaves_none files layout (so.went.run t).state l (followed t).next now ((followed t).leaves ne)))
        where
          performs : tells → (s : State) (rise : ℕ) → 0 < rise → NoneHasFallen layout s s.session → IsShownAt files layout h.closed s → Follows files layout s (Some h.closed.node.name) l rise reply now
          performs t s rise some falls at = subst (λ (u : Option Node). Follows files layout s u l rise reply now) (h.uses t s at) (h.does.performs t layout s rise some falls at.1 at.0)

          ls : LineStops counts (layout_of (shown h.closed)) (disk_of (shown h.closed)) (disk_of now) (Some h.closed.node.name) l reply
          ls = counts_told counts h.closed.node.name l (shown h.closed) now reply (has (Ok reply) h) h.own h.does.cause

          followed : (t : tells) → Follows files layout (so.went.run t).state (Some h.closed.node.name) l ls.rise reply now
          followed t = steps.follows laws tells files counts layout (before ++ take answered lines) so.replies l start (shown h.closed) now h.laid (Some h.closed.node.name) (IsShownAt files layout h.closed) (StandsAs (shown h.closed)) so.went reply performs ls h.does.fuses t

  module _ (why : NodeFault) (h : (let result : Result Reply NodeFault = Err why in Told result)) where
    abbrev Why : Node → StepFault
    Why name = record { node = name; fault = why }

    does_here : (name : Node) → h.closed.node.name ≡ name → (let result : Result Reply StepFault = Err (Why name) in DoesInSession tells files counts l result h.closed now)
    does_here name e = subst (λ (n : Node). (let result : Result Reply StepFault = Err (Why n) in DoesInSession tells files counts l result h.closed now)) e h.does

    pub why_unstopped : (disk : ℕ) → why ≢ fault.Stopped disk
    why_unstopped disk = told_unstopped counts h.closed.node.name l (Why h.closed.node.name) (shown h.closed) now h.does.cause disk

    pub why_named : NamesUsedDisk layout (status_of_run (fault_at_node node why))
    why_named = subst (λ (of : Layout). NamesUsedDisk of (status_of_run (fault_at_node node why))) h.laid
        (names_used (layout_of h.closed.system) node why (does_here node h.named).cause.named.0 (does_here node h.named).cause.named.1)

    pub why_disks : ReturnIn counts (Some node) (status_of_run (fault_at_node node why)) (disk_of old) (disk_of now)
    why_disks i k = returned_then counts (may_fail (Some node) (status_of_run (fault_at_node node why)) i k) (ending_at (status_of_run (fault_at_node node why)) i k) (run_no_stop (fault_at_node node why) i k)
        (disk_of old i k) (disk_of (shown h.closed) i k) (disk_of now i k) (h.spared i k) (back i k)
      where
        at_closed : ReturnIn counts (Some h.closed.node.name) (status_of_run (fault_at_node h.closed.node.name why)) (disk_of (shown h.closed)) (disk_of now)
        at_closed = returned_off_told counts h.closed.node.name (away (Err why) h) (shown h.closed) now l (Why h.closed.node.name) (has (Err why) h) refl h.does.cause
            (system_there tells files counts (shown h.closed) h.is_open.serves)

        back : ReturnIn counts (Some node) (status_of_run (fault_at_node node why)) (disk_of (shown h.closed)) (disk_of now)
        back = subst (λ (n : Node). ReturnIn counts (Some n) (status_of_run (fault_at_node n why)) (disk_of (shown h.closed)) (disk_of now)) h.named at_closed

    -- the line was broken off
    pub why_goes : (laws : RunLaws) (from : O) (before : List Line) (start : Node → ℕ → Option D) → session_behind None before ≡ Some node → Begun from before start →
        (tells → IsSound (status_of_run (fault_at_node node why)))
        × ByStatus (status_of_run (fault_at_node node why)) (Completes (given from mid) tells counts layout (before ++ take answered lines) start (disk_of now) (λ s. IsAtState files layout s now) (StandsAs now))
        (StopsWriting (given from mid) tells counts layout (before ++ lines) start (disk_of now) (λ s. DisksStandFor files layout s now))
        (BreaksOff (status_of_run (fault_at_node node why)) (given from mid) tells counts layout (before ++ lines) start (disk_of now) (λ s. DisksStandFor files layout s now))
    why_goes laws from before start inside c = (
      λ t. sound_by node why (h.does.sound t layout (so.went.run t).state (so.went.run t).at.0),
      broken_by node why (Completes (given from mid) tells counts layout (before ++ take answered lines) start (disk_of now) (λ s. IsAtState files layout s now) (StandsAs now))
          (StopsWriting (given from mid) tells counts layout (before ++ lines) start (disk_of now) (λ s. DisksStandFor files layout s now))
          (BreaksOff (status_of_run (fault_at_node node why)) (given from mid) tells counts layout (before ++ lines) start (disk_of now) (λ s. DisksStandFor files layout s now))
          (breaks_next (given from mid) tells counts layout before lines answered l h.behind h.next_is start (disk_of now) (inside_on before (take answered lines) node inside h.kept) (status_of_run (fault_at_node node why)) (disk_of (shown h.closed)) (IsShownAt files layout h.closed) (λ s. DisksStandFor files layout s now) (StandsAs (shown h.closed)) so
          (told_off laws tells files counts layout (before ++ take answered lines) so.replies start h.closed h.laid (StandsAs (shown h.closed)) so.went now l (Why h.closed.node.name) h.does h.names h.fits)),
    )
      where
        so : Completes (given from mid) tells counts layout (before ++ take answered lines) start (disk_of (shown h.closed)) (IsShownAt files layout h.closed) (StandsAs (shown h.closed))
        so = h.done laws from before start c
