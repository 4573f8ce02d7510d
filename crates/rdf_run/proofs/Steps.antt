-- A run over lines with one line more, and with one that is broken off.
use Rattle.std.proofs.lemmas.Option.{none-some}
use Rattle.std.proofs.Common.{◌≡◌, ◌≢◌, ℕ, ◌+◌, ◌<◌, Bool, true, false, List, [], ◌∷◌, ◌++◌, length, Option, Some, None, Result, Ok, sym, ap, ◌∙◌, subst, add-zero, if◌then◌else◌, arith}
use Rattle.std.proofs.lemmas.List.{length-append}
use Rattle.rdf_types.specs.declared.layout.Layout.{Layout}
use Rattle.rdf_types.specs.declared.records.Node.{Node}
use Rattle.rdf_disk.specs.Files.{Disk}
use Rattle.rdf_disk.specs.Counts.{Counts, Ending}
use Rattle.rdf_disk.specs.declared.disk.Disk.{Ghosts}
use Rattle.plan_lang.specs.declared.lines.Line.{Line}
use Rattle.plan_lang.specs.declared.lines.Line.TheVariants as line
use Rattle.node_disks.specs.Counting.{Tells, is_fuse}
use Rattle.rdf_core.specs.PartLaws.{counted_more}
use Rattle.rdf_core.specs.declared.replies.Reply.{Reply}
use Rattle.rdf_core.specs.declared.replies.Reply.TheVariants.{Done}
use Rattle.plan_lang.specs.Sessions.{fits_session, session_behind}
use Rattle.rdf_core.specs.Allowed.{has_names}
use Rattle.rdf_core.specs.Effects.{count_u64}
use Rattle.rdf_core.specs.Run.{Drifts}
use Rattle.rdf_core.specs.Sound.{NoneHasFallen}
use Rattle.rdf_core.specs.State.{State}
use Rattle.rdf_core.specs.Step.{Step}
use Rattle.rdf_system.specs.declared.fault.StepFault.{StepFault}
use Rattle.rdf_system.specs.declared.session.SessionState.{SessionState}
use Rattle.rdf_system.specs.declared.system.System.{System}
use Rattle.rdf_system.specs.Place.{AtEach, IfUsed, is_used}
use Rattle.rdf_system.specs.Stances.{Stances, fresh}
use Rattle.rdf_system.specs.States.{disk_of, layout_of, IsAtState, DisksStandFor}
use Rattle.rdf_system.specs.Sessions.{node_of, used_by}
use Rattle.rdf_system.specs.Lines.{Follows, Leaves, Performs, ReplyCaused, IsFused, stops_in, counts_stop}
use Rattle.rdf_system.specs.Closing.{AreLeft}
use Rattle.rdf_run.specs.Rising.{fuses_given, CountsRose, sum_below, disks_many, sums_of}
use Rattle.rdf_run.specs.Going.{Went, RanTo, BrokeIn, Counted}
use Rattle.rdf_run.specs.Judging.{Anyhow}
use Rattle.rdf_run.specs.Replies.{MayGet}
use Rattle.rdf_run.specs.StopsTold.{uses_of, LineTold}
use Rattle.rdf_run.proofs.Replying.{all_get_on}
use Rattle.rdf_run.proofs.Told.{told_on, told_some}
use Rattle.rdf_run.proofs.Judged.{JudgesOn, judged_on, judged_anyhow}
use Rattle.rdf_run.proofs.Rises.{counts_then, fuses_given-snoc, sum_below-add}
use Rattle.rdf_run.proofs.Places.{at_each_then, if_used_then}
use Rattle.rdf_system.specs.AllowedLaws.{line_allowed}
use Rattle.rdf_run.proofs.Runs.{RunLaws, runs_on}
use Rattle.rdf_run.proofs.LineCounts.{given, Each, Rises, rose_of, fuses_rise, fuses_stay, fuses_kept, rises_by, each_rises, LineStops, line_stops}

one_longer : (replies : List Reply) (lines : List Line) (reply : Reply) (l : Line) → length replies ≡ length lines → length (replies ++ reply ∷ []) ≡ length (lines ++ l ∷ [])
one_longer replies lines reply l e = omega (arith, e, length-append replies (reply ∷ []), length-append lines (l ∷ []))

-- the stops that are counted are those of the disks
counted_on : (stopped : Bool) (n rise before later : ℕ) → before ≡ count_u64 n → later ≡ (if stopped then count_u64 (before + rise) else before) → later ≡ count_u64 (n + (if stopped then rise else 0))
counted_on true n rise before later e h = h ∙ ap (λ x. count_u64 (x + rise)) e ∙ counted_more n rise
counted_on false n rise before later e h = h ∙ e ∙ ap count_u64 (sym (add-zero n))

-- the counts of one change more, behind lines that went so, however they ended
module _ {D : Type 0} {d : Ghosts D} (tells : Type 0) (counts : D → Counts) (layout : Layout) (lines : List Line) (replies : List Reply) (start : Node → ℕ → Option D) (old new : System D d)
    (laid : layout_of old ≡ layout) (all : Bool) (E : (Node → ℕ) → Type 0) (Was : Stances → Type 0) (went : Went all tells counts layout lines replies start (disk_of old) E Was) where
  abbrev Rose : (Node → ℕ → ℕ) → (Node → ℕ → ℕ) → Node → ℕ → D → D → Type 0
  Rose fuses stops node i a b = CountsRose (fuses node i) (stops node i) (counts a) (counts b)

  pub disks_on : (fuses f : Node → ℕ → ℕ) (stops : Node → ℕ → ℕ) → ((node : Node) (i : ℕ) → fuses_given node i lines replies + f node i ≡ fuses node i) →
      Each counts (layout_of old) (disk_of old) (disk_of new) (Rose f stops) → AtEach (λ node i a b. IfUsed (is_used layout node i) (λ p q. Rose fuses (λ m k. went.stops m k + stops m k) node i p q) a b) start (disk_of new)
  disks_on fuses f stops e h = at_each_then
      (λ node i a b. IfUsed (is_used layout node i) (λ p q. Rose (λ m k. fuses_given m k lines replies) went.stops node i p q) a b)
      (λ node i a b. IfUsed (is_used layout node i) (λ p q. Rose f stops node i p q) a b)
      (λ node i a b. IfUsed (is_used layout node i) (λ p q. Rose fuses (λ m k. went.stops m k + stops m k) node i p q) a b)
      start (disk_of old) (disk_of new)
      (λ node i a b c. if_used_then (is_used layout node i) (λ p q. Rose (λ m k. fuses_given m k lines replies) went.stops node i p q) (λ p q. Rose f stops node i p q) (λ p q. Rose fuses (λ m k. went.stops m k + stops m k) node i p q) a b c
      (λ p q. subst (λ n. CountsRose n (went.stops node i + stops node i) (counts a) (counts c)) (e node i) (counts_then (fuses_given node i lines replies) (went.stops node i) (f node i) (stops node i) (counts a) (counts b) (counts c) p q)))
      went.disks
      (subst (λ (of : Layout). Each counts of (disk_of old) (disk_of new) (Rose f stops)) laid h)

  pub sums_on : (more : Node → ℕ → ℕ) (node : Node) → sums_of layout (λ m k. went.stops m k + more m k) node ≡ sums_of layout went.stops node + sum_below (disks_many layout node) (more node)
  sums_on more node = sum_below-add (disks_many layout node) (went.stops node) (more node)

  -- a change that gives no fuse
  pub disks_kept : (result : Result Reply StepFault) (l : Line) → is_fuse l ≡ false → IsFused counts l result old new → (stops : Node → ℕ → ℕ) → Each counts (layout_of old) (disk_of old) (disk_of new) (Rises counts (layout_of old) (disk_of old) (disk_of new) stops) →
      AtEach (λ node i a b. IfUsed (is_used layout node i) (λ p q. Rose (λ m k. fuses_given m k lines replies) (λ m k. went.stops m k + stops m k) node i p q) a b) start (disk_of new)
  disks_kept result l none fused stops rises = disks_on (λ node i. fuses_given node i lines replies) (λ node i. 0) stops (λ node i. add-zero (fuses_given node i lines replies))
      (rose_of counts (layout_of old) (disk_of old) (disk_of new) (λ node i. 0) stops
      (fuses_kept counts (layout_of old) (disk_of old) (disk_of new) l result none fused) rises)

-- a line behind others, from the states of which that is known
module _ {D : Type 0} {d : Ghosts D} (laws : RunLaws) (tells : Type 0) (files : D → Disk) (counts : D → Counts) (layout : Layout) (lines : List Line) (replies : List Reply) (l : Line) (start : Node → ℕ → Option D) (old new : System D d)
    (laid : layout_of old ≡ layout) (used : Option Node) (WasAt : State → Type 0) (Was : Stances → Type 0) (went : Went true tells counts layout lines replies start (disk_of old) (RanTo layout lines replies WasAt) Was) where
  module _ (reply : Reply) (performs : tells → (s : State) (rise : ℕ) → 0 < rise → NoneHasFallen layout s s.session → WasAt s → Follows files layout s used l rise reply new)
      (ls : LineStops counts (layout_of old) (disk_of old) (disk_of new) used l reply) (fused : IsFused counts l (Ok reply) old new) where
    pub follows : (t : tells) → Follows files layout (went.run t).state used l ls.rise reply new
    follows t = performs t (went.run t).state ls.rise ls.some (laws.falls layout lines replies (went.run t).state (went.run t).run) (went.run t).at

    abbrev is_counted : Node → Bool
    is_counted node = counts_stop used node reply

    line_sum : (t : tells) (node : Node) → sum_below (disks_many layout node) (ls.more node) ≡ (if is_counted node then ls.rise else 0)
    line_sum t node = subst (λ (of : Layout). sum_below (disks_many of node) (ls.more node) ≡ (if is_counted node then ls.rise else 0)) laid (ls.sums (follows t).told node)

    pub stops_on : (t : tells) → Counted (follows t).next (sums_of layout (λ m k. went.stops m k + ls.more m k))
    stops_on t = λ node.
        counted_on (is_counted node) (sums_of layout went.stops node) ls.rise (stops_in (went.run t).state node) (stops_in (follows t).next node) ((went.run t).stops_are node) ((follows t).stops node)
        ∙ ap count_u64 (ap (λ n. sums_of layout went.stops node + n) (sym (line_sum t node)) ∙ sym (sums_on tells counts layout lines replies start old new laid true (RanTo layout lines replies WasAt) Was went ls.more node))

    -- the line was answered
    pub went_on : MayGet (session_behind None lines) l reply → (NowAt : State → Type 0) → (tells → (s mid next : State) → WasAt s → Drifts layout s mid → Step layout mid l reply next → IsAtState files layout next new → NowAt next) →
        (Now : Stances → Type 0) → JudgesOn layout l reply Was Now → Went true tells counts layout (lines ++ l ∷ []) (replies ++ reply ∷ []) start (disk_of new) (RanTo layout (lines ++ l ∷ []) (replies ++ reply ∷ []) NowAt) Now
    went_on kind NowAt at_now Now judges = record {
      many = one_longer replies lines reply l went.many;
      kinds = all_get_on None lines replies l reply went.kinds kind;
      judged = judged_on layout (fresh layout) lines replies l reply Was Now judges went.judged;
      stops = λ m k. went.stops m k + ls.more m k;
      told = told_on layout lines replies l reply went.stops ls.more went.told (subst (λ (of : Layout). LineTold of l reply ls.more) laid ls.told);
      disks = disks_on tells counts layout lines replies start old new laid true (RanTo layout lines replies WasAt) Was went (λ node i. fuses_given node i (lines ++ l ∷ []) (replies ++ reply ∷ [])) (λ node i. given node i l reply) ls.more
          (λ node i. sym (fuses_given-snoc node i lines replies l reply went.many))
          (rose_of counts (layout_of old) (disk_of old) (disk_of new) (λ node i. given node i l reply) ls.more
          (fuses_rise counts (layout_of old) (disk_of old) (disk_of new) l reply fused) ls.disks);
      run = λ t. record {
        state = (follows t).next;
        run = runs_on laws layout lines replies (went.run t).state (follows t).mid (follows t).next l reply (went.run t).run (follows t).drifts (follows t).step;
        stops_are = stops_on t;
        at = at_now t (went.run t).state (follows t).mid (follows t).next (went.run t).at (follows t).drifts (follows t).step (follows t).at;
      };
    }

    -- the line was performed, and there was no memory for its reply: the disks of what stands then are left so, behind what rose since
    pub broke_after : (behind : System D d) → layout_of new ≡ layout_of old → has_names (layout_of old) l ≡ true → fits_session (node_of old.session) l ≡ true → (tells → (s : State) → WasAt s → IsAtState files layout s old) → reply ≢ Done →
        (more : Node → ℕ → ℕ) → AtEach (λ node i a b. IfUsed (is_used layout node i) (λ p q. CountsRose 0 (more node i) (counts p) (counts q)) a b) (disk_of new) (disk_of behind) →
        ((t : tells) → Leaves files layout (went.run t).state l (follows t).next (sums_of layout more) behind) →
        Went false tells counts layout lines replies start (disk_of behind) (BrokeIn layout lines replies l (λ s. DisksStandFor files layout s behind)) Anyhow
    broke_after behind same names fits was ne more rose left = record {
      many = went.many;
      kinds = went.kinds;
      judged = judged_anyhow layout (fresh layout) lines replies Was went.judged;
      stops = λ m k. first.stops m k + more m k;
      told = told_some layout lines replies went.stops (λ m k. went.stops m k + ls.more m k + more m k) (λ node i. omega arith) went.told;
      disks = disks_on tells counts layout lines replies start new behind (same ∙ laid) false (λ n. Unit {0}) Anyhow first (λ node i. fuses_given node i lines replies) (λ node i. 0) more (λ node i. add-zero (fuses_given node i lines replies))
          (subst (λ (of : Layout). Each counts of (disk_of new) (disk_of behind) (λ node i a b. CountsRose 0 (more node i) (counts a) (counts b))) (sym (same ∙ laid)) rose);
      run = λ t. record {
        state = (left t).mid;
        run = laws.drifts layout lines replies (went.run t).state (left t).mid (went.run t).run (left t).drifts;
        allowed = line_allowed layout (went.run t).state (left t).mid old.session l (subst (λ (of : Layout). has_names of l ≡ true) laid names) fits (was t (went.run t).state (went.run t).at).session (left t).drifts;
        left = (left t).left;
        leaves = (left t).leaves;
        stops_are = λ node. (left t).stops node (sums_of layout (λ m k. went.stops m k + ls.more m k) node) (stops_on t node)
            ∙ ap count_u64 (sym (sums_on tells counts layout lines replies start new behind (same ∙ laid) false (λ n. Unit {0}) Anyhow first more node));
        at = (left t).stands;
      };
    }
      where
        reply_is : (let result : Result Reply StepFault = Ok reply in result ≡ Ok Done) → reply ≡ Done
        reply_is e = cc

        -- the counts up to the line's answer
        first : Went false tells counts layout lines replies start (disk_of new) (λ n. Unit {0}) Anyhow
        first = record {
          many = went.many;
          kinds = went.kinds;
          judged = judged_anyhow layout (fresh layout) lines replies Was went.judged;
          stops = λ m k. went.stops m k + ls.more m k;
          told = told_some layout lines replies went.stops (λ m k. went.stops m k + ls.more m k) (λ node i. omega arith) went.told;
          disks = disks_on tells counts layout lines replies start old new laid true (RanTo layout lines replies WasAt) Was went (λ node i. fuses_given node i lines replies) (λ node i. 0) ls.more (λ node i. add-zero (fuses_given node i lines replies))
              (rose_of counts (layout_of old) (disk_of old) (disk_of new) (λ node i. 0) ls.more
              (fuses_stay counts (layout_of old) (disk_of old) (disk_of new) l (Ok reply) (λ e. ne (reply_is e)) fused) ls.disks);
          run = λ t. tt;
        }

  module _ (ends : Node → ℕ → Ending) (each : Each counts (layout_of old) (disk_of old) (disk_of new) (λ node i a b. Tells (ends node i) (counts a) (counts b))) where
    -- by how much the stops of each disk rose, and those of each node's
    abbrev pub rises : Node → ℕ → ℕ
    rises = rises_by counts (layout_of old) (disk_of old) (disk_of new) ends

    -- the line was broken off
    pub broke_off : (result : Result Reply StepFault) → result ≢ Ok Done → IsFused counts l result old new → has_names (layout_of old) l ≡ true → fits_session (node_of old.session) l ≡ true → (tells → (s : State) → WasAt s → IsAtState files layout s old) →
        (tells → (s : State) → NoneHasFallen layout s s.session → WasAt s → Leaves files layout s l s (sums_of layout rises) new) →
        Went false tells counts layout lines replies start (disk_of new) (BrokeIn layout lines replies l (λ s. DisksStandFor files layout s new)) Anyhow
    broke_off result ne fused names fits was leaves = record {
      many = went.many;
      kinds = went.kinds;
      judged = judged_anyhow layout (fresh layout) lines replies Was went.judged;
      stops = λ m k. went.stops m k + rises m k;
      told = told_some layout lines replies went.stops (λ m k. went.stops m k + rises m k) (λ node i. omega arith) went.told;
      disks = disks_on tells counts layout lines replies start old new laid true (RanTo layout lines replies WasAt) Was went (λ node i. fuses_given node i lines replies) (λ node i. 0) rises (λ node i. add-zero (fuses_given node i lines replies))
          (rose_of counts (layout_of old) (disk_of old) (disk_of new) (λ node i. 0) rises
          (fuses_stay counts (layout_of old) (disk_of old) (disk_of new) l result ne fused)
          (each_rises counts (layout_of old) (disk_of old) (disk_of new) ends each));
      run = λ t. record {
        state = (left t).mid;
        run = laws.drifts layout lines replies (went.run t).state (left t).mid (went.run t).run (left t).drifts;
        allowed = line_allowed layout (went.run t).state (left t).mid old.session l (subst (λ (of : Layout). has_names of l ≡ true) laid names) fits (was t (went.run t).state (went.run t).at).session (left t).drifts;
        left = (left t).left;
        leaves = (left t).leaves;
        stops_are = λ node. (left t).stops node (sums_of layout went.stops node) ((went.run t).stops_are node) ∙ ap count_u64 (sym (sums_on tells counts layout lines replies start old new laid true (RanTo layout lines replies WasAt) Was went rises node));
        at = (left t).stands;
      };
    }
      where
        left : (t : tells) → Leaves files layout (went.run t).state l (went.run t).state (sums_of layout rises) new
        left t = leaves t (went.run t).state (laws.falls layout lines replies (went.run t).state (went.run t).run) (went.run t).at

    -- no line more: the disks are left so, behind what rose since
    pub went_off : (behind : System D d) (result : Result Reply StepFault) → is_fuse l ≡ false → IsFused counts l result old new → (tells → (s : State) → WasAt s → AreLeft files layout s (sums_of layout rises) behind) →
        Went false tells counts layout lines replies start (disk_of new) (RanTo layout lines replies (λ s. DisksStandFor files layout s behind)) Anyhow
    went_off behind result none fused left = record {
      many = went.many;
      kinds = went.kinds;
      judged = judged_anyhow layout (fresh layout) lines replies Was went.judged;
      stops = λ m k. went.stops m k + rises m k;
      told = told_some layout lines replies went.stops (λ m k. went.stops m k + rises m k) (λ node i. omega arith) went.told;
      disks = disks_kept tells counts layout lines replies start old new laid true (RanTo layout lines replies WasAt) Was went result l none fused rises
          (each_rises counts (layout_of old) (disk_of old) (disk_of new) ends each);
      run = λ t.
          let at = left t (went.run t).state (went.run t).at in
          record {
            state = at.mid;
            run = laws.drifts layout lines replies (went.run t).state at.mid (went.run t).run at.drifts;
            stops_are = λ node. at.stops node (sums_of layout went.stops node) ((went.run t).stops_are node) ∙ ap count_u64 (sym (sums_on tells counts layout lines replies start old new laid true (RanTo layout lines replies WasAt) Was went rises node));
            at = at.stands;
          };
    }

-- a line of the system, from each state that it was at
abbrev pub FollowsFrom : {D : Type 0} {d : Ghosts D} → Type 0 → (D → Disk) → Layout → Line → Reply → System D d → System D d → Type 0
FollowsFrom tells files layout l reply old new = tells → (s : State) (rise : ℕ) → 0 < rise → NoneHasFallen layout s s.session → IsAtState files layout s old → Follows files layout s (used_by old.session l) l rise reply new

pub performed_from : {D : Type 0} {d : Ghosts D} (tells : Type 0) (files : D → Disk) (layout : Layout) (l : Line) (reply : Reply) (old new : System D d) → (tells → Performs files l (Ok reply) old new) → FollowsFrom tells files layout l reply old new
performed_from tells files layout l reply old new performs = λ t s rise some falls at. performs t layout s rise some falls at

-- the node whose disks a line uses, in whatever session
uses_disks : (session : SessionState) (l : Line) (node : Node) → uses_of l ≡ Some node → used_by session l ≡ Some node
uses_disks session line.End node e = absurd (none-some node e)
uses_disks session _ node e = e

-- the stops of an answer, by its cause
pub stops_of : {D : Type 0} {d : Ghosts D} (counts : D → Counts) (old new : System D d) (l : Line) (reply : Reply) → ReplyCaused counts l reply old new → LineStops counts (layout_of old) (disk_of old) (disk_of new) (used_by old.session l) l reply
stops_of counts old new l reply h = line_stops counts (layout_of old) (disk_of old) (disk_of new) (used_by old.session l) l reply (uses_disks old.session l) h
