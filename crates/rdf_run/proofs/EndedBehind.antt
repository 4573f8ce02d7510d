-- What a system is like behind a session with which the run ends: its counts, which disk is named, and the sink.
use Rattle.std.proofs.Common.{◌≡◌, ◌≢◌, inl, inr, ℕ, Bool, true, false, nat_lt, ◌==◌, List, ◌∷◌, take, drop, Option, Some, None, Result, Ok, Err, refl, sym, ap, ◌∙◌, subst, if◌then◌else◌, arith}
use Rattle.std.specs.Prelude.{IfOk, IfSome}
use Rattle.std.proofs.lemmas.Bool.{true≢false, ltb-true}
use Rattle.rdf_types.specs.declared.layout.Layout.{Layout}
use Rattle.rdf_types.specs.declared.records.Node.{Node}
use Rattle.rdf_types.specs.declared.records.Node.TheVariants.{A}
use Rattle.rdf_disk.specs.Files.{Disk}
use Rattle.rdf_disk.specs.Counts.{Counts}
use Rattle.rdf_disk.specs.Counts.Ending.{Fine, Stop, Fault}
use Rattle.rdf_disk.specs.declared.disk.Disk.{Ghosts}
use Rattle.rdf_ports.specs.Counts.{Faulted}
use Rattle.plan_lang.specs.declared.lines.Line.{Line}
use Rattle.plan_lang.specs.declared.lines.Line.TheVariants as line
use Rattle.plan_lang.specs.LineText.{same_node}
use Rattle.node_faults.specs.declared.NodeFault.{NodeFault}
use Rattle.node_faults.specs.declared.NodeFault.TheVariants as fault
use Rattle.node_faults.specs.Faults.{ending_for}
use Rattle.rdf_backup.specs.FirstFaults.{rank}
use Rattle.rdf_core.specs.AllowedLaws.{is_placed as placed_node}
use Rattle.rdf_core.specs.declared.replies.Reply.{Reply}
use Rattle.rdf_core.specs.declared.replies.Reply.TheVariants.{Stopped}
use Rattle.rdf_core.specs.Allowed.{is_node, is_backup}
use Rattle.rdf_monitor.specs.declared.fault.AnswerFault.TheVariants as answer
use Rattle.rdf_monitor.specs.Output.{Output}
use Rattle.rdf_system.specs.declared.fault.StepFault.{StepFault}
use Rattle.rdf_system.specs.declared.opened.Broken.TheVariants as broken
use Rattle.rdf_system.specs.declared.session.SessionState.TheVariants as system
use Rattle.rdf_system.specs.declared.session.SessionState.{SessionState}
use Rattle.rdf_system.specs.declared.system.System.{System}
use Rattle.rdf_system.specs.Closing.{told_by, told_in, first_of_both, Answers, IsCausedInSession, DoesInSession}
use Rattle.rdf_system.specs.OpenLines.{AnswersOpen}
use Rattle.rdf_system.specs.Opened.{OpenView, shown}
use Rattle.rdf_system.specs.Sessions.{node_of, used_by, IsPlacedAt}
use Rattle.rdf_system.specs.States.{disk_of, layout_of, MayServe}
use Rattle.rdf_run.specs.Behind.{no_text, has_met, first_behind, fault_behind}
use Rattle.rdf_run.specs.Returned.{ReturnIn, NoneFailed, may_fail}
use Rattle.rdf_run.specs.RunFaults.{fault_at_node, fault_of_node, status_of_run, Spares}
use Rattle.rdf_run.specs.Statuses.{SinkAfter, NamesUsedDisk, ending_at}
use Rattle.rdf_run.specs.Stretches.{AreInSession, EndsStretch, HasDriven, IsNotBegun, ComesOfSession}
use Rattle.rdf_run.specs.declared.run_fault.RunFault.{RunFault}
use Rattle.rdf_run.specs.declared.run_fault.RunFault.TheVariants as run
use Rattle.rdf_run.specs.declared.session_lines.Met.{Met}
use Rattle.rdf_run.specs.declared.session_lines.Met.TheVariants as met
use Rattle.rdf_run.specs.declared.status.Status.TheVariants.{WriteFault}
use Rattle.rdf_run.proofs.Driven.{side_of, next, before_laid, before_name, before_spared}
use Rattle.rdf_run.proofs.LastLine.{away_from, spares_node, sink_node, told_unstopped}
use Rattle.rdf_run.proofs.Places.{if_both_so}
use Rattle.rdf_run.proofs.Returns.{returned_fine, returned_then, returned_reply, names_used, system_there, fine_no_stop, run_no_stop}
use Rattle.rdf_run.proofs.SessionReturns.{sink_told, returned_told, returned_off_told}

-- the run ended so, and the system may be used
pub record IsEnded {D : Type 0} {d : Ghosts D} (tells : Type 0) (files : D → Disk) (counts : D → Counts) (node : Node) (f : RunFault) (faults now_faults : ℕ) (old new : System D d) : Type 0 where
  pub serves : MayServe tells files counts new
  pub laid : layout_of new ≡ layout_of old
  pub sink : SinkAfter (status_of_run f) faults now_faults
  pub named : NamesUsedDisk (layout_of old) (status_of_run f)
  pub disks : ReturnIn counts (Some node) (status_of_run f) (disk_of old) (disk_of new)
  pub spared : Spares {T = Unit {0}} counts (Err f) (disk_of old) (disk_of new)

-- what is told of a session whose last line found no memory for its reply
abbrev pub fault_told : Node → Result Reply NodeFault → RunFault
fault_told node (Ok reply) = run.NoMemory
fault_told node (Err why) = fault_at_node node why

unsaid_is : (node : Node) (told : Result Reply NodeFault) → fault_of_node (first_of_both no_text node told) ≡ fault_told node told
unsaid_is node (Ok reply) = refl
unsaid_is node (Err (fault.Stopped disk)) = refl
unsaid_is node (Err (fault.Failed disk)) = refl
unsaid_is node (Err fault.NoMemory) = refl
unsaid_is node (Err (fault.Damaged disk file at)) = refl

unsaid_unstopped : (node : Node) (told : Result Reply NodeFault) (disk : ℕ) → (first_of_both no_text node told).fault ≢ fault.Stopped disk
unsaid_unstopped node (Ok reply) disk e = cc
unsaid_unstopped node (Err (fault.Stopped of)) disk e = cc
unsaid_unstopped node (Err (fault.Failed of)) disk e = cc
unsaid_unstopped node (Err fault.NoMemory) disk e = cc
unsaid_unstopped node (Err (fault.Damaged of file at)) disk e = cc

-- a fault behind another one is none of a disk that failed
fine_no_fault : Fine ≢ Fault
fine_no_fault e = cc

no_fault_of : (n : ℕ) (why : NodeFault) (i : ℕ) → nat_lt n (rank why) ≡ true → ending_for {T = Unit {0}} i (Err why) ≢ Fault
no_fault_of n (fault.Failed disk) i lt = absurd (omega (arith, ltb-true n 0 lt))
no_fault_of n (fault.Stopped disk) i lt = elim (disk == i) as (λ b. (if b then Stop else Fine) ≢ Fault) [ true ↦ (λ e. cc) | false ↦ (λ e. cc) ]
no_fault_of n fault.NoMemory i lt = fine_no_fault
no_fault_of n (fault.Damaged disk file at) i lt = fine_no_fault

-- what is told of the session's node is no disk's fault of the primary
node_no_fault : (name : Node) (why told : NodeFault) (i : ℕ) → same_node name A ≡ false → (met : Result (Unit {0}) NodeFault) → Answers name (Err why) met (told_by name (Err told)) → ending_for {T = Unit {0}} i (Err why) ≢ Fault
node_no_fault name why told i away (Ok x) is = absurd (true≢false (sym (ap (λ (f : StepFault). same_node f.node A) is) ∙ away))
node_no_fault name why told i away (Err met) is = by_order (nat_lt (rank met) (rank why)) refl is
  where
    by_order : (b : Bool) → nat_lt (rank met) (rank why) ≡ b → (let f : StepFault = record { node = name; fault = told } in f ≡ (if b then record { node = name; fault = met } else record { node = A; fault = why })) → ending_for {T = Unit {0}} i (Err why) ≢ Fault
    by_order true lt e = no_fault_of (rank met) why i lt
    by_order false lt e = absurd (true≢false (sym (ap (λ (f : StepFault). same_node f.node A) e) ∙ away))

module _ {D : Type 0} {d : Ghosts D} (tells : Type 0) (files : D → Disk) (counts : D → Counts) where
  -- the session that is noted behind does not matter
  serves_on : (told : Result Reply NodeFault) (closed : OpenView D d) (new : System D d) → new.session ≡ closed.system.session → closed.system.session ≡ system.Open closed.node.name false → is_backup (layout_of closed.system) closed.node.name ≡ true →
      layout_of new ≡ layout_of closed.system → MayServe tells files counts (told_in line.End told new) → MayServe tells files counts new
  serves_on told closed new same open_is placed laid h = record {
    whole = record {
      many = h.whole.many;
      sized = h.whole.sized;
      sites = h.whole.sites;
      shelf = h.whole.shelf;
      session = subst (λ (ss : SessionState). IsPlacedAt (layout_of new) (node_of ss)) (sym (same ∙ open_is)) (subst (λ (of : Layout). is_backup of closed.node.name ≡ true) (sym laid) placed);
    };
    primary = h.primary;
    sites = h.sites;
  }

  module _ (name : Node) (old new : System D d) (away : same_node name A ≡ false) where
    abbrev Caused : Result Reply NodeFault → Type 0
    Caused told = IsCausedInSession counts name line.End (told_by name told) old new

    -- none of the primary's disks failed at the session's end
    none_there : (told : Result Reply NodeFault) (h : Caused told) (i : ℕ) → ending_for i h.line ≢ Fault
    none_there told h i = by_told told h.line h.met h.answers
      where
        by_told : (told : Result Reply NodeFault) (line met : Result (Unit {0}) NodeFault) → Answers name line met (told_by name told) → ending_for i line ≢ Fault
        by_told told (Ok x) met is = fine_no_fault
        by_told (Ok reply) (Err why) met is = absurd is
        by_told (Err f) (Err why) met is = node_no_fault name why f i away met is

    -- no disk failed, where a reply is told
    spared_by : (told : Result Reply NodeFault) → Caused told → IfOk told (λ reply. NoneFailed counts (disk_of old) (disk_of new))
    spared_by (Ok reply) h = returned_told counts name away old new line.End reply h
    spared_by (Err why) h = tt

    disks_by : (told : Result Reply NodeFault) → Caused told → is_node (layout_of old) name ≡ true → MayServe tells files counts old → ReturnIn counts (Some name) (status_of_run (fault_told name told)) (disk_of old) (disk_of new)
    disks_by (Ok reply) h has serves = returned_told counts name away old new line.End reply h
    disks_by (Err why) h has serves = returned_off_told counts name away old new line.End (record { node = name; fault = why }) has refl h (system_there tells files counts old serves)

    named_by : (told : Result Reply NodeFault) → Caused told → NamesUsedDisk (layout_of old) (status_of_run (fault_told name told))
    named_by (Ok reply) h = tt
    named_by (Err why) h = names_used (layout_of old) name why h.named.0 h.named.1

spares_told : {D : Type 0} (counts : D → Counts) (told : Result Reply NodeFault) (old new : Node → ℕ → Option D) → IfOk told (λ reply. NoneFailed counts old new) → Spares {T = Unit {0}} counts (Err (run.Write (has_met told))) old new
spares_told counts (Ok (Stopped node)) old new h = tt
spares_told counts (Ok _) old new h = h
spares_told counts (Err why) old new h = tt

spares_fault : {D : Type 0} (counts : D → Counts) (node : Node) (told : Result Reply NodeFault) (old new : Node → ℕ → Option D) → Spares {T = Unit {0}} counts (Err (fault_told node told)) old new
spares_fault counts node (Ok reply) old new = tt
spares_fault counts node (Err why) old new = spares_node counts node why old new

sink_fault : (node : Node) (told : Result Reply NodeFault) (m n : ℕ) → n ≡ m → SinkAfter (status_of_run (fault_told node told)) m n
sink_fault node (Ok reply) m n e = e
sink_fault node (Err why) m n e = sink_node node why m n e

-- one behind another in which none failed
returned_behind : {D : Type 0} (counts : D → Counts) (node : Node) (f : RunFault) (x y z : Node → ℕ → Option D) → NoneFailed counts x y → ReturnIn counts (Some node) (status_of_run f) y z → ReturnIn counts (Some node) (status_of_run f) x z
returned_behind counts node f x y z h k i n = returned_then counts (may_fail (Some node) (status_of_run f) i n) (ending_at (status_of_run f) i n) (run_no_stop f i n) (x i n) (y i n) (z i n) (h i n) (k i n)

none_behind : {D : Type 0} (counts : D → Counts) (x y z : Node → ℕ → Option D) → NoneFailed counts x y → NoneFailed counts y z → NoneFailed counts x z
none_behind counts x y z h k i n = returned_then counts false Fine fine_no_stop (x i n) (y i n) (z i n) (h i n) (k i n)

module _ {D O : Type 0} {d : Ghosts D} (given : O → O → Output) (faults : O → ℕ) (tells : Type 0) (files : D → Disk) (counts : D → Counts) (node : Node) (lines : List Line) (answered : ℕ) (told : Result Reply NodeFault) (out now_out : O) (old new : System D d)
    (ready : AreInSession (layout_of old) node lines) where
  abbrev Drove : Met → Type 0
  Drove m = HasDriven given faults tells files counts node lines answered m told out now_out old new

  abbrev Ended : RunFault → Type 0
  Ended f = IsEnded tells files counts node f (faults out) (faults now_out) old new

  module _ (m : Met) (h : Drove m) where
    abbrev Ends : Line → Type 0
    Ends l = EndsStretch given tells files counts m (take answered lines) l out now_out h.opened h.drove.before h.closed

    laid_before : layout_of h.drove.before.system ≡ layout_of old
    laid_before = before_laid given faults tells files counts (layout_of old) node lines answered told out now_out old new refl ready m h

    name_before : h.drove.before.node.name ≡ node
    name_before = before_name given faults tells files counts (layout_of old) node lines answered told out now_out old new refl ready m h

    spared_before : NoneFailed counts (disk_of old) (disk_of (shown h.drove.before))
    spared_before = before_spared given faults tells files counts (layout_of old) node lines answered told out now_out old new refl ready m h

    the_next : (l : Line) × ((behind : List Line) × ((drop answered lines ≡ l ∷ behind) × Ends l))
    the_next = next given faults tells files counts (layout_of old) node lines answered told out now_out old new refl ready m h

  -- a line of the primary or of the sender's side was broken off
  off : (why : StepFault) (h : Drove (met.Broken (broken.Line why))) → (l : Line) × (let result : Result Reply StepFault = Err (first_of_both why node told) in DoesInSession tells files counts l result h.drove.before new)
  off why h = (
    l,
    subst (λ (n : Node). (let result : Result Reply StepFault = Err (first_of_both why n told) in DoesInSession tells files counts l result h.drove.before new)) h.named
        (h.closes.failed unmet h.drove.before l why (h.drove.goes.lent ∙ sym h.lent) (side_of l ends.2.side) h.drove.goes.is_open ends.2),
  )
    where
      m : Met
      m = met.Broken (broken.Line why)

      l : Line
      l = (the_next m h).0

      ends : EndsStretch given tells files counts m (take answered lines) l out now_out h.opened h.drove.before h.closed
      ends = (the_next m h).1.1.1

      unmet : h.closed.session.met ≡ None
      unmet = ap (λ o. o.met) ends.2.still ∙ h.drove.goes.unmet

  off_ended : (why : StepFault) → Drove (met.Broken (broken.Line why)) → Ended (fault_of_node (first_of_both why node told))
  off_ended why h = record {
    serves = does.serves;
    laid = does.laid ∙ laid_before m h;
    sink = sink_node f.node f.fault (faults out) (faults now_out) h.drove.sink;
    named = subst (λ (of : Layout). NamesUsedDisk of (status_of_run (fault_of_node f))) (laid_before m h) (names_used (layout_of h.drove.before.system) f.node f.fault does.cause.named.0 does.cause.named.1);
    disks = returned_behind counts node (fault_of_node f) (disk_of old) (disk_of (shown h.drove.before)) (disk_of new) (spared_before m h)
        (subst (λ (n : Node). ReturnIn counts (Some n) (status_of_run (fault_of_node f)) (disk_of (shown h.drove.before)) (disk_of new)) (name_before m h)
        (returned_off_told counts h.drove.before.node.name (away_from (layout_of h.drove.before.system) h.drove.before.node.name h.drove.goes.is_open.placed) (shown h.drove.before) new (off why h).0 f
        (placed_node (layout_of h.drove.before.system) h.drove.before.node.name h.drove.goes.is_open.placed) refl does.cause (system_there tells files counts (shown h.drove.before) h.drove.goes.is_open.serves)));
    spared = spares_node counts f.node f.fault (disk_of old) (disk_of new);
  }
    where
      m : Met
      m = met.Broken (broken.Line why)

      f : StepFault
      f = first_of_both why node told

      does : (let result : Result Reply StepFault = Err f in DoesInSession tells files counts (off why h).0 result h.drove.before new)
      does = (off why h).1

  -- a line was answered, and its reply is not out: the session was closed behind it
  module _ (m : Met) (h : Drove m) (l : Line) (reply : Reply) (a : AnswersOpen tells files counts l reply h.drove.before h.closed) where
    closing : DoesInSession tells files counts line.End (told_by h.closed.node.name told) h.closed (told_in line.End told new)
    closing = h.closes.unmet a.unmet

    placed : is_backup (layout_of h.closed.system) h.closed.node.name ≡ true
    placed = h.drove.still_open.placed

    away : same_node h.closed.node.name A ≡ false
    away = away_from (layout_of h.closed.system) h.closed.node.name placed

    laid_closed : layout_of h.closed.system ≡ layout_of old
    laid_closed = a.does.laid ∙ laid_before m h

    spared_closed : NoneFailed counts (disk_of old) (disk_of (shown h.closed))
    spared_closed = none_behind counts (disk_of old) (disk_of (shown h.drove.before)) (disk_of (shown h.closed)) (spared_before m h)
        (λ i k. returned_reply counts (layout_of (shown h.drove.before)) (disk_of (shown h.drove.before)) (disk_of (shown h.closed)) (used_by h.drove.before.system.session l) l reply a.does.cause i k)

    closed_serves : MayServe tells files counts new
    closed_serves = serves_on tells files counts told h.closed new h.closes.session_is h.drove.still_open.open_is placed closing.laid closing.serves

    half_ended : Faulted (faults out) (faults now_out) → Ended (run.Write (has_met told))
    half_ended sink = record {
      serves = closed_serves;
      laid = closing.laid ∙ laid_closed;
      sink = sink;
      named = tt;
      disks = returned_behind counts node (run.Write (has_met told)) (disk_of old) (disk_of (shown h.closed)) (disk_of new) spared_closed
          (subst (λ (n : Node). ReturnIn counts (Some n) WriteFault (disk_of (shown h.closed)) (disk_of new)) h.named
          (sink_told counts h.closed.node.name away (shown h.closed) (told_in line.End told new) closing.cause.line closing.cause.ends (none_there tells files counts h.closed.node.name (shown h.closed) (told_in line.End told new) away told closing.cause) closing.cause.each
          (system_there tells files counts (shown h.closed) h.drove.still_open.serves)));
      spared = spares_told counts told (disk_of old) (disk_of new) (spared_all told (spared_by tells files counts h.closed.node.name (shown h.closed) (told_in line.End told new) away told closing.cause));
    }
      where
        spared_all : (k : Result Reply NodeFault) → IfOk k (λ r. NoneFailed counts (disk_of (shown h.closed)) (disk_of new)) → IfOk k (λ r. NoneFailed counts (disk_of old) (disk_of new))
        spared_all (Ok r) g = none_behind counts (disk_of old) (disk_of (shown h.closed)) (disk_of new) spared_closed g
        spared_all (Err why) g = tt

    unsaid_ended : faults now_out ≡ faults out → Ended (fault_of_node (first_of_both no_text node told))
    unsaid_ended sink = subst (λ (f : RunFault). Ended f) (sym (unsaid_is node told)) (record {
      serves = closed_serves;
      laid = closing.laid ∙ laid_closed;
      sink = sink_fault node told (faults out) (faults now_out) sink;
      named = subst (λ (of : Layout). NamesUsedDisk of (status_of_run (fault_told node told))) laid_closed
          (subst (λ (n : Node). NamesUsedDisk (layout_of h.closed.system) (status_of_run (fault_told n told))) h.named
          (named_by tells files counts h.closed.node.name (shown h.closed) (told_in line.End told new) away told closing.cause));
      disks = returned_behind counts node (fault_told node told) (disk_of old) (disk_of (shown h.closed)) (disk_of new) spared_closed
          (subst (λ (n : Node). ReturnIn counts (Some n) (status_of_run (fault_told n told)) (disk_of (shown h.closed)) (disk_of new)) h.named
          (disks_by tells files counts h.closed.node.name (shown h.closed) (told_in line.End told new) away told closing.cause (placed_node (layout_of h.closed.system) h.closed.node.name placed) h.drove.still_open.serves));
      spared = spares_fault counts node told (disk_of old) (disk_of new);
    })

  -- no session was begun
  none_ended : (m : Met) → IsNotBegun tells files counts answered m out now_out old new → Ended run.NoMemory
  none_ended m u = record {
    serves = u.unbegun.serves;
    laid = u.unbegun.laid;
    sink = ap faults u.out_is;
    named = tt;
    disks = λ i k. returned_fine counts true (disk_of old i k) (disk_of new i k)
        (if_both_so (λ a b. counts b ≡ counts a) (λ a b. (counts b).faults ≡ (counts a).faults) (disk_of old i k) (disk_of new i k) (λ a b e. ap (λ (c : Counts). c.faults) e) (u.unbegun.counts_are i k));
    spared = tt;
  }

  some_is : (x f : RunFault) → (let o : Option RunFault = Some x in o ≡ Some f) → x ≡ f
  some_is x f e = cc

  none_some : (f : RunFault) → (let o : Option RunFault = None in o ≡ Some f) → ⊥
  none_some f e = cc

  drove_ended : (m : Met) → Drove m → (f : RunFault) → fault_behind m node told ≡ Some f → Ended f
  drove_ended met.End h f e = absurd (none_some f e)
  drove_ended (met.Broken (broken.Own why)) h f e = absurd (none_some f e)
  drove_ended (met.Broken (broken.Line why)) h f e = subst (λ (k : RunFault). Ended k) (some_is (fault_of_node (first_of_both why node told)) f e) (off_ended why h)
  drove_ended (met.Unwritten answer.Write) h f e = subst (λ (k : RunFault). Ended k) (some_is (run.Write (has_met told)) f e)
      (half_ended (met.Unwritten answer.Write) h (the_next (met.Unwritten answer.Write) h).0 (the_next (met.Unwritten answer.Write) h).1.1.1.1.reply (the_next (met.Unwritten answer.Write) h).1.1.1.1.answers h.drove.sink)
  drove_ended (met.Unwritten answer.NoMemory) h f e = subst (λ (k : RunFault). Ended k) (some_is (fault_of_node (first_of_both no_text node told)) f e)
      (unsaid_ended (met.Unwritten answer.NoMemory) h (the_next (met.Unwritten answer.NoMemory) h).0 (the_next (met.Unwritten answer.NoMemory) h).1.1.1.1.reply (the_next (met.Unwritten answer.NoMemory) h).1.1.1.1.answers h.drove.sink)
  drove_ended met.Unbegun h f e = absurd (the_next met.Unbegun h).1.1.1

  -- the run ends with the session
  pub is_ended : (m : Met) → ComesOfSession given faults tells files counts node lines answered m told out now_out old new → (f : RunFault) → fault_behind m node told ≡ Some f → Ended f
  is_ended m (inl h) f e = drove_ended m h f e
  is_ended m (inr u) f e = subst (λ (k : RunFault). Ended k) (some_is run.NoMemory f (sym (ap (λ (k : Met). fault_behind k node told) u.met_is) ∙ e)) (none_ended m u)

  -- by a fault that is no stop
  drove_unstopped : (m : Met) → Drove m → (disk : ℕ) → IfSome (first_behind m node told) (λ f. f.fault ≢ fault.Stopped disk)
  drove_unstopped met.End h disk = tt
  drove_unstopped (met.Broken (broken.Own why)) h disk = tt
  drove_unstopped (met.Broken (broken.Line why)) h disk = told_unstopped counts h.drove.before.node.name (off why h).0 (first_of_both why node told) (shown h.drove.before) new (off why h).1.cause disk
  drove_unstopped (met.Unwritten answer.Write) h disk = tt
  drove_unstopped (met.Unwritten answer.NoMemory) h disk = unsaid_unstopped node told disk
  drove_unstopped met.Unbegun h disk = tt

  pub first_unstopped : (m : Met) → ComesOfSession given faults tells files counts node lines answered m told out now_out old new → (disk : ℕ) → IfSome (first_behind m node told) (λ f. f.fault ≢ fault.Stopped disk)
  first_unstopped m (inl h) disk = drove_unstopped m h disk
  first_unstopped m (inr u) disk = subst (λ (k : Met). IfSome (first_behind k node told) (λ f. f.fault ≢ fault.Stopped disk)) (sym u.met_is) tt
