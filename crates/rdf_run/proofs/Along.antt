-- A run that is told of other disks, whose counts of faults, stops and fuses are the same.
use Rattle.std.proofs.Common.{◌≡◌, ◌≢◌, inl, inr, ℕ, Bool, true, false, List, [], ◌∷◌, ◌++◌, Option, None, refl, sym, ap, ◌∙◌, subst, arith}
use Rattle.rdf_types.specs.declared.layout.Layout.{Layout}
use Rattle.rdf_types.specs.declared.records.Node.{Node}
use Rattle.rdf_disk.specs.Counts.{Counts, Ending, turned_off, Fine}
use Rattle.rdf_disk.specs.Counts.Ending.{Stop}
use Rattle.rdf_disk.specs.Files.{Disk}
use Rattle.rdf_disk.specs.declared.disk.Disk.{Ghosts}
use Rattle.node_disks.specs.Cuts.{IfBoth}
use Rattle.plan_lang.specs.declared.lines.Line.{Line}
use Rattle.rdf_core.specs.declared.replies.Reply.{Reply}
use Rattle.rdf_core.specs.State.{State}
use Rattle.rdf_system.specs.Place.{AtEach, IfUsed, is_used, disk_at}
use Rattle.rdf_system.specs.Stances.{Stances, fresh, StandsAs}
use Rattle.rdf_system.specs.States.{WasCut, disk_of, layout_of, IsAtState, DisksStandFor, RacksStandFor}
use Rattle.rdf_system.specs.declared.system.System.{System}
use Rattle.rdf_system.specs.Starting.{Came}
use Rattle.rdf_run.specs.declared.run_fault.RunFault.{RunFault}
use Rattle.rdf_run.specs.declared.run_fault.RunFault.TheVariants as run
use Rattle.rdf_run.specs.declared.status.Status.{Status}
use Rattle.rdf_run.specs.declared.status.Status.TheVariants as status
use Rattle.rdf_run.specs.Rising.{counted_up, fuses_given, CountsRose, RoseBy, sums_of}
use Rattle.rdf_monitor.specs.Output.{Output}
use Rattle.rdf_run.specs.Going.{Went, RanTo, BrokeIn, Completes, StopsWriting, BreaksOff, RunEnds}
use Rattle.rdf_run.specs.Judging.{Anyhow}
use Rattle.rdf_run.specs.Returned.{Returned, NoneFailed, AllReturn, may_fail}
use Rattle.rdf_run.specs.Plans.{AreOffOrSpared}
use Rattle.rdf_run.specs.RunFaults.{status_of_run}
use Rattle.rdf_run.specs.Statuses.{ending_at}
use Rattle.rdf_system.specs.declared.racks.Racks.{Racks}
use Rattle.rdf_run.proofs.Places.{at_each_then, at_each_so, at_each_same, if_both_so, if_used_then, if_used_so, if_used_same}
use Rattle.rdf_run.proofs.Told.{told_some}
use Rattle.rdf_run.proofs.Judged.{judged_along}
use Rattle.rdf_run.proofs.Returns.{returned_fine, returned_then, returned_on, returned_from, returned_off, fine_no_stop, run_no_stop}

-- the same faults, stops and fuses
pub record SameRises (a b : Counts) : Type 0 where
  pub faults : b.faults ≡ a.faults
  pub stops : b.stops ≡ a.stops
  pub fuses : b.fuses ≡ a.fuses

module _ {D : Type 0} (tells : Type 0) (counts : D → Counts) (layout : Layout) where
  -- a used disk has the same faults, stops and fuses, and any other is as it was
  abbrev pub Kept : (Node → ℕ → Option D) → (Node → ℕ → Option D) → Type 0
  Kept x y = AtEach (λ node i a b. IfUsed (is_used layout node i) (λ p q. SameRises (counts p) (counts q)) a b) x y

  abbrev Rose : (Node → ℕ → ℕ) → (Node → ℕ → ℕ) → (Node → ℕ → Option D) → (Node → ℕ → Option D) → Type 0
  Rose fuses stops x y = AtEach (λ node i a b. IfUsed (is_used layout node i) (λ p q. CountsRose (fuses node i) (stops node i) (counts p) (counts q)) a b) x y

  -- disks that stayed, were cut, or were looked at
  pub kept_same : (x y : Node → ℕ → Option D) → ((node : Node) (i : ℕ) → y node i ≡ x node i) → Kept x y
  kept_same x y e = at_each_same (λ node i a b. IfUsed (is_used layout node i) (λ p q. SameRises (counts p) (counts q)) a b) x y e
      (λ node i a. if_used_same (is_used layout node i) (λ p q. SameRises (counts p) (counts q)) a (record { faults = refl; stops = refl; fuses = refl }))

  pub kept_cut : (of : Layout) (x y : Node → ℕ → Option D) → of ≡ layout → AtEach (WasCut counts of) x y → Kept x y
  kept_cut of x y e h = at_each_so (WasCut counts layout) (λ node i a b. IfUsed (is_used layout node i) (λ p q. SameRises (counts p) (counts q)) a b) x y
      (λ node i a b. if_used_so (is_used layout node i) (λ p q. counts q ≡ turned_off (counts p)) (λ p q. SameRises (counts p) (counts q)) a b (λ is. record { faults = ap (λ c. c.faults) is; stops = ap (λ c. c.stops) is; fuses = ap (λ c. c.fuses) is }))
      (subst (λ (l : Layout). AtEach (WasCut counts l) x y) e h)

  pub kept_came : (x y : Node → ℕ → Option D) → AtEach (Came counts layout (λ node i. Fine)) x y → Kept x y
  kept_came x y h = at_each_so (Came counts layout (λ node i. Fine)) (λ node i a b. IfUsed (is_used layout node i) (λ p q. SameRises (counts p) (counts q)) a b) x y
      (λ node i a b. if_used_so (is_used layout node i) (λ p q. counts q ≡ counts p) (λ p q. SameRises (counts p) (counts q)) a b (λ is. record { faults = ap (λ c. c.faults) is; stops = ap (λ c. c.stops) is; fuses = ap (λ c. c.fuses) is })) h

  from_same : (f s : ℕ) (a b c : Counts) → SameRises a b → CountsRose f s b c → CountsRose f s a c
  from_same f s a b c e r = record {
    fuses_are = r.fuses_are ∙ ap (λ n. counted_up n f) e.fuses;
    stops_are = subst (λ n. RoseBy s n c.stops) e.stops r.stops_are;
  }

  to_same : (f s : ℕ) (a b c : Counts) → CountsRose f s a b → SameRises b c → CountsRose f s a c
  to_same f s a b c r e = record {
    fuses_are = e.fuses ∙ r.fuses_are;
    stops_are = subst (λ n. RoseBy s a.stops n) (sym e.stops) r.stops_are;
  }

  rose_along : (fuses : Node → ℕ → ℕ) (stops : Node → ℕ → ℕ) (w x y z : Node → ℕ → Option D) → Kept w x → Rose fuses stops x y → Kept y z → Rose fuses stops w z
  rose_along fuses stops w x y z p r q =
      at_each_then
      (λ node i a b. IfUsed (is_used layout node i) (λ c e. CountsRose (fuses node i) (stops node i) (counts c) (counts e)) a b)
      (λ node i a b. IfUsed (is_used layout node i) (λ c e. SameRises (counts c) (counts e)) a b)
      (λ node i a b. IfUsed (is_used layout node i) (λ c e. CountsRose (fuses node i) (stops node i) (counts c) (counts e)) a b)
      w y z
      (λ node i a b c. if_used_then (is_used layout node i) (λ c e. CountsRose (fuses node i) (stops node i) (counts c) (counts e)) (λ c e. SameRises (counts c) (counts e)) (λ c e. CountsRose (fuses node i) (stops node i) (counts c) (counts e)) a b c
      (λ h k. to_same (fuses node i) (stops node i) (counts a) (counts b) (counts c) h k))
      (at_each_then
      (λ node i a b. IfUsed (is_used layout node i) (λ c e. SameRises (counts c) (counts e)) a b)
      (λ node i a b. IfUsed (is_used layout node i) (λ c e. CountsRose (fuses node i) (stops node i) (counts c) (counts e)) a b)
      (λ node i a b. IfUsed (is_used layout node i) (λ c e. CountsRose (fuses node i) (stops node i) (counts c) (counts e)) a b)
      w x y
      (λ node i a b c. if_used_then (is_used layout node i) (λ c e. SameRises (counts c) (counts e)) (λ c e. CountsRose (fuses node i) (stops node i) (counts c) (counts e)) (λ c e. CountsRose (fuses node i) (stops node i) (counts c) (counts e)) a b c
      (λ h k. from_same (fuses node i) (stops node i) (counts a) (counts b) (counts c) h k))
      p r)
      q

  -- the replies tell of some of the stops, where they tell of all
  pub went_some : (lines : List Line) (replies : List Reply) (x y : Node → ℕ → Option D) (E : (Node → ℕ) → Type 0) (Now : Stances → Type 0) → Went true tells counts layout lines replies x y E Now → Went false tells counts layout lines replies x y E Now
  went_some lines replies x y E Now h = record {
    many = h.many;
    kinds = h.kinds;
    judged = h.judged;
    stops = h.stops;
    told = told_some layout lines replies h.stops h.stops (λ node i. omega arith) h.told;
    disks = h.disks;
    run = h.run;
  }

  -- a disk that has the same faults did not fail
  same_fine : (u : Bool) (x y : Option D) → IfBoth (λ a b. IfUsed u (λ p q. SameRises (counts p) (counts q)) a b) x y → Returned counts false Fine x y
  same_fine u x y h = returned_fine counts u x y (if_both_so (λ a b. IfUsed u (λ p q. SameRises (counts p) (counts q)) a b) (λ a b. IfUsed u (λ p q. (counts q).faults ≡ (counts p).faults) a b) x y
      (λ a b. if_used_so u (λ p q. SameRises (counts p) (counts q)) (λ p q. (counts q).faults ≡ (counts p).faults) a b (λ e. e.faults)) h)

  -- disks come back in the whole as they do in between
  module _ (w x y z : Node → ℕ → Option D) (p : Kept w x) (q : Kept y z) where
    back_along : (may : Node → ℕ → Bool) (e : Node → ℕ → Ending) → ((node : Node) (i : ℕ) → e node i ≢ Stop) → ((node : Node) (i : ℕ) → Returned counts (may node i) (e node i) (x node i) (y node i)) →
        (node : Node) (i : ℕ) → Returned counts (may node i) (e node i) (w node i) (z node i)
    back_along may e no_stop h node i =
        returned_on counts (may node i) (e node i) (no_stop node i) (w node i) (y node i) (z node i)
        (returned_then counts (may node i) (e node i) (no_stop node i) (w node i) (x node i) (y node i) (same_fine (is_used layout node i) (w node i) (x node i) (p node i)) (h node i))
        (same_fine (is_used layout node i) (y node i) (z node i) (q node i))

    pub spared_along : NoneFailed counts x y → NoneFailed counts w z
    spared_along = back_along (λ node i. false) (λ node i. Fine) (λ node i. fine_no_stop)

  module _ (w x y z : Node → ℕ → Option D) (first : Kept w x) (last : Kept y z) where
    pub went_along : (all : Bool) (lines : List Line) (replies : List Reply) (E F : (Node → ℕ) → Type 0) → (tells → (n : Node → ℕ) → E n → F n) → (Was Now : Stances → Type 0) → ((s : Stances) → Was s → Now s) →
        Went all tells counts layout lines replies x y E Was → Went all tells counts layout lines replies w z F Now
    went_along all lines replies E F f Was Now stood h = record {
      many = h.many;
      kinds = h.kinds;
      judged = judged_along layout (fresh layout) lines replies Was Now stood h.judged;
      stops = h.stops;
      told = h.told;
      disks = rose_along (λ node i. fuses_given node i lines replies) h.stops w x y z first h.disks last;
      run = λ t. f t (sums_of layout h.stops) (h.run t);
    }

    module _ (IsAt NowAt : State → Type 0) (so : tells → (s : State) → IsAt s → NowAt s) where
      ran_so : (lines : List Line) (replies : List Reply) → tells → (n : Node → ℕ) → RanTo layout lines replies IsAt n → RanTo layout lines replies NowAt n
      ran_so lines replies t n r = record { state = r.state; run = r.run; stops_are = r.stops_are; at = so t r.state r.at }

      broke_so : (lines : List Line) (replies : List Reply) (l : Line) → tells → (n : Node → ℕ) → BrokeIn layout lines replies l IsAt n → BrokeIn layout lines replies l NowAt n
      broke_so lines replies l t n r = record { state = r.state; run = r.run; allowed = r.allowed; left = r.left; leaves = r.leaves; stops_are = r.stops_are; at = so t r.left r.at }

      pub completes_along : (Was Now : Stances → Type 0) → ((s : Stances) → Was s → Now s) → (out : Output) (lines : List Line) → Completes out tells counts layout lines x y IsAt Was → Completes out tells counts layout lines w z NowAt Now
      completes_along Was Now stood out lines h = record {
        replies = h.replies;
        wrote = h.wrote;
        went = went_along true lines h.replies (RanTo layout lines h.replies IsAt) (RanTo layout lines h.replies NowAt) (ran_so lines h.replies) Was Now stood h.went;
        spared = spared_along w x y z first last h.spared;
      }

      pub stops_along : (out : Output) (lines : List Line) → StopsWriting out tells counts layout lines x y IsAt → StopsWriting out tells counts layout lines w z NowAt
      stops_along out lines h = record {
        before = h.before;
        line = h.line;
        behind = h.behind;
        parts = h.parts;
        replies = h.replies;
        reply = h.reply;
        wrote = h.wrote;
        went = went_along false (h.before ++ h.line ∷ []) (h.replies ++ h.reply ∷ []) (RanTo layout (h.before ++ h.line ∷ []) (h.replies ++ h.reply ∷ []) IsAt) (RanTo layout (h.before ++ h.line ∷ []) (h.replies ++ h.reply ∷ []) NowAt)
            (ran_so (h.before ++ h.line ∷ []) (h.replies ++ h.reply ∷ [])) Anyhow Anyhow (λ s k. k) h.went;
        spared = λ outside. spared_along w x y z first last (h.spared outside);
      }

      pub breaks_along : (f : RunFault) (out : Output) (lines : List Line) → BreaksOff (status_of_run f) out tells counts layout lines x y IsAt → BreaksOff (status_of_run f) out tells counts layout lines w z NowAt
      breaks_along f out lines h = record {
        before = h.before;
        line = h.line;
        behind = h.behind;
        parts = h.parts;
        replies = h.replies;
        wrote = h.wrote;
        went = went_along false h.before h.replies (BrokeIn layout h.before h.replies h.line IsAt) (BrokeIn layout h.before h.replies h.line NowAt) (broke_so h.before h.replies h.line) Anyhow Anyhow (λ s k. k) h.went;
        returned = λ outside. back_along w x y z first last (λ node i. may_fail None (status_of_run f) node i) (λ node i. ending_at (status_of_run f) node i) (run_no_stop f) (h.returned outside);
      }

-- the whole run, by its status
pub run_along : {D : Type 0} (status : Status) (out : Output) (tells : Type 0) (counts : D → Counts) (layout : Layout) (lines : List Line) (w x y z : Node → ℕ → Option D) → Kept tells counts layout w x → Kept tells counts layout y z →
    (IsAt IsCutAt NowAt NowCutAt : State → Type 0) → (tells → (s : State) → IsAt s → NowAt s) → (tells → (s : State) → IsCutAt s → NowCutAt s) → (Was Now : Stances → Type 0) → ((s : Stances) → Was s → Now s) →
    RunEnds status out tells counts layout lines x y IsAt IsCutAt Was → RunEnds status out tells counts layout lines w z NowAt NowCutAt Now
run_along status.Done out tells counts layout lines w x y z first last IsAt IsCutAt NowAt NowCutAt so cut_so Was Now stood h = completes_along tells counts layout w x y z first last IsAt NowAt so Was Now stood out lines h
run_along status.WriteFault out tells counts layout lines w x y z first last IsAt IsCutAt NowAt NowCutAt so cut_so Was Now stood h = stops_along tells counts layout w x y z first last IsCutAt NowCutAt cut_so out lines h
run_along (status.DeviceFault node disk) out tells counts layout lines w x y z first last IsAt IsCutAt NowAt NowCutAt so cut_so Was Now stood h = breaks_along tells counts layout w x y z first last IsCutAt NowCutAt cut_so (run.Failed node disk) out lines h
run_along status.NoMemory out tells counts layout lines w x y z first last IsAt IsCutAt NowAt NowCutAt so cut_so Was Now stood h = breaks_along tells counts layout w x y z first last IsCutAt NowCutAt cut_so run.NoMemory out lines h
run_along (status.Damaged node disk file at) out tells counts layout lines w x y z first last IsAt IsCutAt NowAt NowCutAt so cut_so Was Now stood h = breaks_along tells counts layout w x y z first last IsCutAt NowCutAt cut_so (run.Damaged node disk file at) out lines h
run_along _ out tells counts layout lines w x y z first last IsAt IsCutAt NowAt NowCutAt so cut_so Was Now stood h = absurd h

-- how a run ended for each disk, told of other disks
module _ {D : Type 0} (counts : D → Counts) (s : Status) (x y z : Node → ℕ → Option D) where
  -- where none failed before
  pub all_then : ((node : Node) (i : ℕ) → ending_at s node i ≢ Stop) → NoneFailed counts x y → AllReturn counts s y z → AllReturn counts s x z
  all_then no_stop fine h = record {
    session = h.session;
    of_backup = h.of_backup;
    each = λ node i. returned_then counts (may_fail h.session s node i) (ending_at s node i) (no_stop node i) (x node i) (y node i) (z node i) (fine node i) (h.each node i);
  }

  -- before they were looked at
  pub all_came : (layout : Layout) → AtEach (Came counts layout (λ node i. Fine)) x y → AllReturn counts s y z → AllReturn counts s x z
  all_came layout came h = record {
    session = h.session;
    of_backup = h.of_backup;
    each = λ node i. returned_from counts (may_fail h.session s node i) (ending_at s node i) (is_used layout node i) (x node i) (y node i) (z node i) (came node i) (h.each node i);
  }

  -- as they stayed, or were cut
  pub all_same : AllReturn counts s x y → ((node : Node) (i : ℕ) → z node i ≡ y node i) → AllReturn counts s x z
  all_same h e = record {
    session = h.session;
    of_backup = h.of_backup;
    each = λ node i. subst (λ (o : Option D). Returned counts (may_fail h.session s node i) (ending_at s node i) (x node i) o) (sym (e node i)) (h.each node i);
  }

  pub all_cut : (layout : Layout) → AllReturn counts s x y → AtEach (WasCut counts layout) y z → AllReturn counts s x z
  all_cut layout h cut = record {
    session = h.session;
    of_backup = h.of_backup;
    each = λ node i. returned_off counts (may_fail h.session s node i) (ending_at s node i) (is_used layout node i) (x node i) (y node i) (z node i) (h.each node i) (cut node i);
  }

-- disks that are off, or of which none failed, before they were looked at
pub off_came : {D : Type 0} (counts : D → Counts) (layout : Layout) (x y : Node → ℕ → Option D) (racks : Racks D) → AtEach (Came counts layout (λ node i. Fine)) x y → AreOffOrSpared counts layout y racks → AreOffOrSpared counts layout x racks
off_came counts layout x y racks came (inl off) = inl off
off_came counts layout x y racks came (inr fine) = inr (λ node i. returned_from counts false Fine (is_used layout node i) (x node i) (y node i) (disk_at racks node i) (came node i) (fine node i))

-- a run over a system, told of the racks that it hands back
pub handed : {D : Type 0} {d : Ghosts D} (status : Status) (out : Output) (tells : Type 0) (files : D → Disk) (counts : D → Counts) (layout : Layout) (lines : List Line) (sys now : System D d) (racks : Racks D) → layout_of sys ≡ layout → Kept tells counts layout (disk_of now) (disk_at racks) →
    (tells → (s : State) → IsAtState files layout s now → RacksStandFor files layout s racks) → (tells → (s : State) → DisksStandFor files layout s now → RacksStandFor files layout s racks) →
    RunEnds status out tells counts (layout_of sys) lines (disk_of sys) (disk_of now) (λ s. IsAtState files (layout_of sys) s now) (λ s. DisksStandFor files (layout_of sys) s now) (StandsAs now) →
    RunEnds status out tells counts layout lines (disk_of sys) (disk_at racks) (λ s. RacksStandFor files layout s racks) (λ s. RacksStandFor files layout s racks) Anyhow
handed status out tells files counts layout lines sys now racks laid kept so cut_so h =
    run_along status out tells counts layout lines (disk_of sys) (disk_of sys) (disk_of now) (disk_at racks) (kept_same tells counts layout (disk_of sys) (disk_of sys) (λ node i. refl)) kept
    (λ (s : State). IsAtState files layout s now) (λ (s : State). DisksStandFor files layout s now) (λ (s : State). RacksStandFor files layout s racks) (λ (s : State). RacksStandFor files layout s racks) so cut_so (StandsAs now) Anyhow (λ s is. tt)
    (subst (λ (l : Layout). RunEnds status out tells counts l lines (disk_of sys) (disk_of now) (λ (s : State). IsAtState files l s now) (λ (s : State). DisksStandFor files l s now) (StandsAs now)) laid h)

-- none failed of disks that stayed then
pub fine_same : {D : Type 0} (counts : D → Counts) (x y z : Node → ℕ → Option D) → NoneFailed counts x y → ((node : Node) (i : ℕ) → z node i ≡ y node i) → NoneFailed counts x z
fine_same {D = D} counts x y z fine e node i = subst (λ (o : Option D). Returned counts false Fine (x node i) o) (sym (e node i)) (fine node i)
