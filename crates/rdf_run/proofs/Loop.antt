-- The loop over a plan's lines: so far, with one line more, and ended by one.
use Rattle.std.proofs.Common.{◌≡◌, ◌≢◌, ℕ, ◌+◌, ◌-◌, ◌<◌, ◌≤◌, true, false, List, [], ◌∷◌, ◌++◌, length, take, drop, get_or, Option, Some, None, Result, Ok, Err, OnOk, is_err, refl, sym, ap, ◌∙◌, subst, arith}
use Rattle.std.proofs.Math.Seq.{take-add}
use Rattle.std.proofs.lemmas.Bool.{false≢true, true≢false}
use Rattle.std.proofs.lemmas.List.{take_more, take-append-drop, drop-drop, length-drop}
use Rattle.std.proofs.lemmas.List.Elements.{All-drop}
use Rattle.rdf_types.specs.declared.layout.Layout.{Layout}
use Rattle.rdf_types.specs.declared.records.Node.{Node}
use Rattle.rdf_types.specs.declared.records.Node.TheVariants.{A, B, C}
use Rattle.rdf_disk.specs.Files.{Disk}
use Rattle.rdf_disk.specs.Counts.{Counts}
use Rattle.rdf_disk.specs.Counts.Ending.{Fine, Stop}
use Rattle.rdf_disk.specs.declared.disk.Disk.{Ghosts}
use Rattle.plan_lang.specs.Sessions.{fits_session, session_after, session_behind, KeepSessions}
use Rattle.plan_lang.specs.declared.lines.Line.{Line}
use Rattle.rdf_core.specs.declared.replies.Reply.{Reply}
use Rattle.rdf_core.specs.Allowed.{has_names}
use Rattle.rdf_core.specs.Effects.{count_u64}
use Rattle.rdf_core.specs.Run.{Run}
use Rattle.rdf_core.specs.State.{State, blank}
use Rattle.rdf_system.specs.Opened.{MayOpen}
use Rattle.rdf_system.specs.Place.{IfUsed, is_used}
use Rattle.rdf_system.specs.Lines.{stops_in}
use Rattle.rdf_system.specs.Sessions.{node_of, IsPlacedAt}
use Rattle.rdf_system.specs.Stances.{Stances, fresh}
use Rattle.rdf_system.specs.States.{disk_of, layout_of, IsAtState, IsStood, MayServe}
use Rattle.rdf_system.specs.declared.session.SessionState.{SessionState}
use Rattle.rdf_system.specs.declared.system.System.{System}
use Rattle.rdf_run.specs.declared.run_fault.RunFault.{RunFault}
use Rattle.rdf_run.specs.declared.run_fault.RunFault.TheVariants as run
use Rattle.node_faults.specs.declared.NodeFault.{NodeFault}
use Rattle.node_faults.specs.declared.NodeFault.TheVariants as node
use Rattle.rdf_run.specs.RunFaults.{fault_at_node, status_of_run, status_in, Spares}
use Rattle.rdf_monitor.specs.Output.{Output, Joins}
use Rattle.rdf_run.specs.Behind.{GoesBehind}
use Rattle.rdf_run.specs.Returned.{ReturnIn, NoneFailed, may_fail}
use Rattle.rdf_run.specs.Going.{ByStatus, Completes, StopsWriting, BreaksOff, Answered, HalfAnswered, NotAnswered, LineEnds, RanTo, RunGoes, FitFrom, Keeps, LinesLeave}
use Rattle.rdf_run.specs.Rising.{CountsRose, disks_many}
use Rattle.rdf_run.specs.Statuses.{ending_at, NamesUsedDisk, SinkAfter}
use Rattle.rdf_run.specs.Stretches.{AreInSession}
use Rattle.rdf_run.specs.declared.status.Status.{Status}
use Rattle.rdf_run.specs.declared.status.Status.TheVariants as status
use Rattle.rdf_run.proofs.Along.{all_then}
use Rattle.rdf_run.proofs.Rises.{rose_none, sum_below-none}
use Rattle.rdf_run.proofs.Places.{at_each_same, if_used_same}
use Rattle.rdf_run.proofs.Returns.{returned_same, returned_then, run_no_stop, fine_no_stop}
use Rattle.rdf_run.proofs.Runs.{no_run}
use Rattle.rdf_run.proofs.LastLine.{away_from}
use Rattle.rdf_run.proofs.LineLaws.{cut_at, next_kept}
use Rattle.rdf_run.proofs.Settling.{session_joins}
use Rattle.rdf_run.proofs.Told.{told_some}

module _ {D : Type 0} (was one out : Output) (joins : Joins was one out) (tells : Type 0) (counts : D → Counts) (layout : Layout) (lines : List Line) (old between new : Node → ℕ → Option D) (WasAt IsAt IsCutAt : State → Type 0) (cut : tells → (s : State) → IsAt s → IsCutAt s) (Stood Now : Stances → Type 0)
    (i : ℕ) (l : Line) (lt : i < length lines) (is : l ≡ get_or lines i l) (so_far : Completes was tells counts layout (take i lines) old between WasAt Stood) where
  spared_too : NoneFailed counts between new → NoneFailed counts old new
  spared_too fine node k = returned_then counts false Fine fine_no_stop (old node k) (between node k) (new node k) (so_far.spared node k) (fine node k)

  -- one line more was answered
  pub more_done : NoneFailed counts between new → Answered one tells counts layout (take i lines) so_far.replies l old new IsAt Now → Completes out tells counts layout (take (i + 1) lines) old new IsAt Now
  more_done fine a = subst (λ (ls : List Line). Completes out tells counts layout ls old new IsAt Now) (sym longer) record {
    replies = so_far.replies ++ a.reply ∷ [];
    wrote = joins.whole (take i lines) so_far.replies l a.reply so_far.wrote a.wrote;
    went = a.went;
    spared = spared_too fine;
  }
    where
      longer : take (i + 1) lines ≡ take i lines ++ l ∷ []
      longer = take_more lines i l lt ∙ ap (λ (k : Line). take i lines ++ k ∷ []) (sym is)

  half_done : NoneFailed counts between new → HalfAnswered one tells counts layout (take i lines) so_far.replies l old new IsAt → StopsWriting out tells counts layout lines old new IsCutAt
  half_done fine a = record {
    before = take i lines;
    line = l;
    behind = drop (i + 1) lines;
    parts = cut_at lines i l lt is;
    replies = so_far.replies;
    reply = a.reply;
    wrote = joins.part (take i lines) so_far.replies l a.reply so_far.wrote a.wrote;
    went = record {
      many = a.went.many;
      kinds = a.went.kinds;
      judged = a.went.judged;
      stops = a.went.stops;
      told = told_some layout (take i lines ++ l ∷ []) (so_far.replies ++ a.reply ∷ []) a.went.stops a.went.stops (λ node k. omega arith) a.went.told;
      disks = a.went.disks;
      run = λ t. let r = a.went.run t in record { state = r.state; run = r.run; stops_are = r.stops_are; at = cut t r.state r.at };
    };
    spared = λ outside. spared_too fine;
  }

  not_done : (fault : RunFault) → ReturnIn counts None (status_of_run fault) between new → NotAnswered one tells counts layout (take i lines) so_far.replies l old new IsCutAt → BreaksOff (status_of_run fault) out tells counts layout lines old new IsCutAt
  not_done fault back a = record {
    before = take i lines;
    line = l;
    behind = drop (i + 1) lines;
    parts = cut_at lines i l lt is;
    replies = so_far.replies;
    wrote = joins.none (take i lines) so_far.replies so_far.wrote a.wrote;
    went = a.went;
    returned = λ outside node k. returned_then counts (may_fail None (status_of_run fault) node k) (ending_at (status_of_run fault) node k) (run_no_stop fault node k) (old node k) (between node k) (new node k) (so_far.spared node k) (back node k);
  }

  -- the run ended with this line, in no session
  pub ended_here : (Whole : Type 0) (fault : RunFault) → ReturnIn counts None (status_of_run fault) between new → LineEnds (status_of_run fault) one tells counts layout (take i lines) so_far.replies l old new IsAt IsCutAt Now →
      ByStatus (status_of_run fault) Whole (StopsWriting out tells counts layout lines old new IsCutAt) (BreaksOff (status_of_run fault) out tells counts layout lines old new IsCutAt)
  ended_here Whole (run.Write met) fine a = half_done fine a
  ended_here Whole run.NoMemory fine a = not_done run.NoMemory fine a
  ended_here Whole (run.Failed node disk) fine a = not_done (run.Failed node disk) fine a
  ended_here Whole (run.Damaged node disk file at) fine a = not_done (run.Damaged node disk file at) fine a

-- the sink failed
abbrev pub IsWrite : RunFault → Type 0
IsWrite (run.Write met) = Unit {0}
IsWrite _ = ⊥

-- a line that was broken off by a fault of its node
pub off_ends : {D : Type 0} (fault : RunFault) → (IsWrite fault → ⊥) → (out : Output) (tells : Type 0) (counts : D → Counts) (layout : Layout) (lines : List Line) (replies : List Reply) (l : Line) (old new : Node → ℕ → Option D) (IsAt IsCutAt : State → Type 0) (Now : Stances → Type 0) →
    NotAnswered out tells counts layout lines replies l old new IsCutAt → LineEnds (status_of_run fault) out tells counts layout lines replies l old new IsAt IsCutAt Now
off_ends (run.Write met) ne out tells counts layout lines replies l old new IsAt IsCutAt Now h = absurd (ne tt)
off_ends run.NoMemory ne out tells counts layout lines replies l old new IsAt IsCutAt Now h = h
off_ends (run.Failed node disk) ne out tells counts layout lines replies l old new IsAt IsCutAt Now h = h
off_ends (run.Damaged node disk file at) ne out tells counts layout lines replies l old new IsAt IsCutAt Now h = h

-- a fault of a node is none of the sink
pub not_write : (named : Node) (why : NodeFault) → IsWrite (fault_at_node named why) → ⊥
not_write named (node.Stopped disk) w = w
not_write named (node.Failed disk) w = w
not_write named node.NoMemory w = w
not_write named (node.Damaged disk file at) w = w

-- no disk stopped before the first line
no_stops : (layout : Layout) (node : Node) → stops_in (blank layout) node ≡ count_u64 0
no_stops layout A = refl
no_stops layout B = refl
no_stops layout C = refl

-- before the first line
pub begun : {D : Type 0} (out : Output) (tells : Type 0) (counts : D → Counts) (layout : Layout) (start : Node → ℕ → Option D) (IsAt : State → Type 0) (Now : Stances → Type 0) → out.whole [] [] → (tells → IsAt (blank layout)) → Now (fresh layout) →
    Completes out tells counts layout [] start start IsAt Now
begun {D = D} out tells counts layout start IsAt Now empty at stand = record {
  replies = [];
  wrote = empty;
  went = record {
    many = refl;
    kinds = tt;
    judged = stand;
    stops = λ node k. 0;
    told = λ node k. refl;
    disks = at_each_same (λ node i a b. IfUsed (is_used layout node i) (λ p q. CountsRose 0 0 (counts p) (counts q)) a b) start start (λ node i. refl)
        (λ node i a. if_used_same (is_used layout node i) (λ p q. CountsRose 0 0 (counts p) (counts q)) a (record { fuses_are = refl; stops_are = rose_none (counts a).stops (counts a).stops refl }));
    run = λ t. record { state = blank layout; run = no_run layout; stops_are = λ node. no_stops layout node ∙ ap count_u64 (sym (sum_below-none (disks_many layout node))); at = at t };
  };
  spared = λ node i. returned_same counts (start node i) (start node i) refl;
}

-- ---- from one line, or the lines of a session, to the next

module _ (layout : Layout) (lines : List Line) (i : ℕ) where
  -- the next line is named, and fits the session
  pub next_named : (of : Option Node) (l : Line) → i < length lines → l ≡ get_or lines i l → FitFrom layout of lines i → has_names layout l ≡ true
  next_named of l lt is h = subst (λ (k : Line). has_names layout k ≡ true) (sym is) (h.names i l lt)

  pub next_fits : (of : Option Node) (l : Line) → i < length lines → l ≡ get_or lines i l → FitFrom layout of lines i → fits_session of l ≡ true
  next_fits of l lt is h = (next_kept of lines i l lt is h.sessions).0

  -- behind it
  pub one_behind : (of now : Option Node) (l : Line) → i < length lines → l ≡ get_or lines i l → FitFrom layout of lines i → now ≡ session_after of l → FitFrom layout now lines (i + 1)
  one_behind of now l lt is h e = record {
    within = omega (arith, lt);
    names = h.names;
    behind =
        ap (λ (ls : List Line). session_behind None ls) (take_more lines i l lt ∙ ap (λ (k : Line). take i lines ++ k ∷ []) (sym is))
        ∙ session_joins None (take i lines) (l ∷ [])
        ∙ ap (λ (o : Option Node). session_after o l) h.behind
        ∙ sym e;
    sessions = subst (λ (o : Option Node). KeepSessions o (drop (i + 1) lines)) (sym e) (next_kept of lines i l lt is h.sessions).1;
  }

  module _ (rest : List Line) (rest_is : rest ≡ drop i lines) where
    -- the lines from there on, in a session of the node
    pub in_session : (node : Node) (of : Option Node) → of ≡ Some node → FitFrom layout of lines i → AreInSession layout node rest
    in_session node of e h = subst (λ (ls : List Line). AreInSession layout node ls) (sym rest_is) (record {
      names = All-drop (λ (l : Line). has_names layout l ≡ true) i lines h.names;
      sessions = subst (λ (o : Option Node). KeepSessions o (drop i lines)) e h.sessions;
    })

    -- there are so many more
    pub some_fit : (node : Node) (now : Option Node) (n : ℕ) → i ≤ length lines → GoesBehind node now rest n → (i < i + n) × (i + n ≤ length lines)
    some_fit node now n within g =
        let many : length rest ≡ length lines - i = ap length rest_is ∙ length-drop i lines in
        let some = g.some in
        let few = g.within in
        (omega (arith, some), omega (arith, within, few, many))

    -- behind some of these
    pub some_behind : (node : Node) (of now : Option Node) (n : ℕ) → of ≡ Some node → FitFrom layout of lines i → GoesBehind node now rest n → (i < i + n) × FitFrom layout now lines (i + n)
    some_behind node of now n e h g =
        let fit = some_fit node now n h.within g in (
          fit.0,
          record {
            within = fit.1;
            names = h.names;
            behind =
                ap (λ (ls : List Line). session_behind None ls) (take-add i n lines)
                ∙ session_joins None (take i lines) (take n (drop i lines))
                ∙ ap (λ (o : Option Node). session_behind o (take n (drop i lines))) (h.behind ∙ e)
                ∙ ap (λ (ls : List Line). session_behind (Some node) (take n ls)) (sym rest_is)
                ∙ g.behind;
            sessions = subst (λ (ls : List Line). KeepSessions now ls) (ap (λ (ls : List Line). drop n ls) rest_is ∙ drop-drop n i lines) g.sessions;
          },
        )

    -- the lines before them, and some of these
    pub goes_behind : {D : Type 0} (s : Status) (out : Output) (tells : Type 0) (counts : D → Counts) (n : ℕ) (start new : Node → ℕ → Option D) (IsAt IsCutAt : State → Type 0) (Now : Stances → Type 0) →
        RunGoes s out tells counts layout (take i lines) rest n start new IsAt IsCutAt Now → RunGoes s out tells counts layout [] lines (i + n) start new IsAt IsCutAt Now
    goes_behind s out tells counts n start new IsAt IsCutAt Now h = (
      h.0,
      subst (λ (ls : List Line). ByStatus s (Completes out tells counts layout (take (i + n) lines) start new IsAt Now) (StopsWriting out tells counts layout ls start new IsCutAt) (BreaksOff s out tells counts layout ls start new IsCutAt))
          (ap (λ (ls : List Line). take i lines ++ ls) rest_is ∙ take-append-drop i lines)
          (subst (λ (ls : List Line). ByStatus s (Completes out tells counts layout ls start new IsAt Now) (StopsWriting out tells counts layout (take i lines ++ rest) start new IsCutAt) (BreaksOff s out tells counts layout (take i lines ++ rest) start new IsCutAt))
          (ap (λ (ls : List Line). take i lines ++ take n ls) rest_is ∙ sym (take-add i n lines)) h.1),
    )

-- what lines in the session of a backup leave
pub left_in : {D : Type 0} {d : Ghosts D} {tells : Type 0} {files : D → Disk} (counts : D → Counts) (node : Node) (sys : System D d) → MayServe tells files counts sys → MayOpen node sys → {ended : Result (Unit {0}) RunFault} {n m : ℕ} {new : System D d} →
    Keeps tells files counts (status_in ended) n m sys new → NamesUsedDisk (layout_of sys) (status_in ended) → ReturnIn counts (Some node) (status_in ended) (disk_of sys) (disk_of new) → Spares counts ended (disk_of sys) (disk_of new) → LinesLeave tells files counts ended n m sys new
left_in {tells = tells} {files = files} counts node sys serves open_is keeps named disks spared = record { keeps = keeps; named = named; disks = record { session = Some node; of_backup = away_from (layout_of sys) node (subst (λ (s : SessionState). IsPlacedAt (layout_of sys) (node_of s)) open_is.open_is serves.whole.session); each = disks }; spared = spared }

-- a line that ended the run in no session
pub spares_in : {D : Type 0} (counts : D → Counts) (f : RunFault) (old new : Node → ℕ → Option D) → ReturnIn counts None (status_of_run f) old new → (let result : Result (Unit {0}) RunFault = Err f in Spares counts result old new)
spares_in counts (run.Write true) old new h = tt
spares_in counts (run.Write false) old new h = h
spares_in counts run.NoMemory old new h = tt
spares_in counts (run.Failed node disk) old new h = tt
spares_in counts (run.Damaged node disk file at) old new h = tt

-- so far the replies are out: some run leads there
pub stood_so : {D : Type 0} {d : Ghosts D} (files : D → Disk) (layout : Layout) (lines : List Line) (replies : List Reply) (sys : System D d) (stops : Node → ℕ) → layout_of sys ≡ layout → RanTo layout lines replies (λ s. IsAtState files layout s sys) stops → IsStood files sys
stood_so files layout lines replies sys stops laid ran = record {
  lines = lines;
  replies = replies;
  state = ran.state;
  run = subst (λ (l : Layout). Run l lines replies ran.state) (sym laid) ran.run;
  at = subst (λ (l : Layout). IsAtState files l ran.state sys) (sym laid) ran.at;
}

-- ---- how a run over lines ended

-- by no stop
in_no_stop : (r : Result (Unit {0}) RunFault) (node : Node) (i : ℕ) → ending_at (status_in r) node i ≢ Stop
in_no_stop (Ok x) node i = fine_no_stop
in_no_stop (Err f) node i = run_no_stop f node i

-- it went on
pub went_well : (r : Result (Unit {0}) RunFault) → is_err r ≡ false → status_in r ≡ status.Done
went_well (Ok x) e = refl
went_well (Err f) e = absurd (true≢false e)

pub holds_well : (r : Result (Unit {0}) RunFault) → is_err r ≡ false → (P : Type 0) → OnOk r P → P
holds_well (Ok x) e P h = h
holds_well (Err f) e P h = absurd (true≢false e)

pub never_more : (r : Result (Unit {0}) RunFault) → is_err r ≡ true → (P : Type 0) → OnOk r P
never_more (Ok x) e P = absurd (false≢true e)
never_more (Err f) e P = tt

-- it did not
pub was_ended : (r : Result (Unit {0}) RunFault) → is_err r ≡ true → (P Now Q R : Type 0) → ByStatus (status_in r) P Q R → ByStatus (status_in r) Now Q R
was_ended (Ok x) e P Now Q R h = absurd (false≢true e)
was_ended (Err (run.Write met)) e P Now Q R h = h
was_ended (Err run.NoMemory) e P Now Q R h = h
was_ended (Err (run.Failed node disk)) e P Now Q R h = h
was_ended (Err (run.Damaged node disk file at)) e P Now Q R h = h

-- where none failed before
spares_then : {D : Type 0} (counts : D → Counts) (r : Result (Unit {0}) RunFault) (x y z : Node → ℕ → Option D) → NoneFailed counts x y → Spares counts r y z → Spares counts r x z
spares_then counts (Ok v) x y z p h = tt
spares_then counts (Err (run.Write true)) x y z p h = tt
spares_then counts (Err (run.Write false)) x y z p h = λ node i. returned_then counts false Fine fine_no_stop (x node i) (y node i) (z node i) (p node i) (h node i)
spares_then counts (Err run.NoMemory) x y z p h = tt
spares_then counts (Err (run.Failed node disk)) x y z p h = tt
spares_then counts (Err (run.Damaged node disk file at)) x y z p h = tt

-- what was left, from where the lines before began
pub leaves_then : {D : Type 0} {d : Ghosts D} {tells : Type 0} {files : D → Disk} (counts : D → Counts) (r : Result (Unit {0}) RunFault) (old mid new : System D d) {m n k : ℕ} → layout_of mid ≡ layout_of old → m ≡ n → NoneFailed counts (disk_of old) (disk_of mid) →
    LinesLeave tells files counts r m k mid new → LinesLeave tells files counts r n k old new
leaves_then counts r old mid new {k = k} laid faults spared h = record {
  keeps = record { serves = h.keeps.serves; laid = h.keeps.laid ∙ laid; sink = subst (λ (count : ℕ). SinkAfter (status_in r) count k) faults h.keeps.sink };
  named = subst (λ (l : Layout). NamesUsedDisk l (status_in r)) laid h.named;
  disks = all_then counts (status_in r) (disk_of old) (disk_of mid) (disk_of new) (in_no_stop r) spared h.disks;
  spared = spares_then counts r (disk_of old) (disk_of mid) (disk_of new) spared h.spared;
}
