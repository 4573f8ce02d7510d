-- How a run goes on behind a session that was driven and closed.
use Rattle.std.proofs.Common.{◌≡◌, ◌≢◌, ℕ, zero, suc, ◌+◌, ◌<◌, Bool, true, false, List, [], ◌∷◌, ◌++◌, length, take, drop, get_or, Option, Some, None, refl, sym, ap, ◌∙◌, subst, append_assoc, add-one, arith}
use Rattle.std.specs.List.{AllPass, list_all}
use Rattle.std.proofs.lemmas.Bool.{true≢false, and_parts}
use Rattle.std.proofs.lemmas.List.{take-append-drop, take_more}
use Rattle.std.proofs.lemmas.List.Sums.{list_all-from_AllPass}
use Rattle.rdf_types.specs.declared.layout.Layout.{Layout}
use Rattle.rdf_types.specs.declared.records.Node.{Node}
use Rattle.rdf_disk.specs.Files.{Disk}
use Rattle.rdf_disk.specs.Counts.{Counts}
use Rattle.rdf_disk.specs.declared.disk.Disk.{Ghosts}
use Rattle.plan_lang.specs.declared.lines.Line.{Line}
use Rattle.plan_lang.specs.declared.lines.Line.TheVariants as line
use Rattle.plan_lang.specs.Sessions.{goes_in, session_after, session_behind, KeepSessions}
use Rattle.node_faults.specs.declared.NodeFault.{NodeFault}
use Rattle.node_faults.specs.declared.NodeFault.TheVariants as fault
use Rattle.rdf_core.specs.Allowed.{has_names}
use Rattle.rdf_core.specs.State.{State}
use Rattle.rdf_monitor.specs.Output.{Output}
use Rattle.rdf_system.specs.declared.system.System.{System}
use Rattle.rdf_system.specs.Closing.{BeginsIn}
use Rattle.rdf_system.specs.Opened.{OpenView, shown}
use Rattle.rdf_system.specs.OpenLines.{HasDrifted, MeetsOpen}
use Rattle.rdf_system.specs.Place.{AtEach, IfUsed, is_used}
use Rattle.rdf_system.specs.Stances.{Stances, StandsAs}
use Rattle.rdf_system.specs.States.{disk_of, layout_of, IsAtState}
use Rattle.rdf_run.specs.Going.{ByStatus, Completes, StopsAt, StopsWriting, BreaksOff, RanTo, BrokeIn, Went}
use Rattle.rdf_run.specs.Judging.{Anyhow}
use Rattle.rdf_run.specs.Returned.{NoneFailed}
use Rattle.rdf_run.specs.RunFaults.{fault_at_node, status_of_run}
use Rattle.rdf_run.specs.Stretches.{IsShownAt, NextIs}
use Rattle.rdf_run.specs.declared.status.Status.{Status}
use Rattle.rdf_run.proofs.Along.{SameRises, Kept, kept_same, completes_along, spared_along}
use Rattle.rdf_run.proofs.Judged.{stands_too}
use Rattle.rdf_run.proofs.Places.{at_each_so, if_used_so}
use Rattle.rdf_run.proofs.Runs.{RunLaws}

-- ---- lines of a session

-- of lines from some number on there is a next one: that one, and those behind it
pub next_parts : (P : Line → Type 0) (lines : List Line) (n : ℕ) → NextIs P (drop n lines) → (l : Line) × ((behind : List Line) × ((drop n lines ≡ l ∷ behind) × P l))
next_parts P lines n h = by_rest (drop n lines) refl h
  where
    by_rest : (rest : List Line) → drop n lines ≡ rest → NextIs P rest → (l : Line) × ((behind : List Line) × ((drop n lines ≡ l ∷ behind) × P l))
    by_rest [] e h = absurd h
    by_rest (l ∷ behind) e h = (l, (behind, (e, h)))

-- so the lines are those before it, that one, and those behind it
pub parted : (lines : List Line) (n : ℕ) (l : Line) (behind : List Line) → drop n lines ≡ l ∷ behind → lines ≡ take n lines ++ l ∷ behind
parted lines n l behind e = sym (take-append-drop n lines) ∙ ap (λ (rest : List Line). take n lines ++ rest) e

-- where they are, that one is there, and so are those behind it
pub below_next : (lines : List Line) (n : ℕ) (l : Line) (behind : List Line) → drop n lines ≡ l ∷ behind → n < length lines
below_next [] zero l behind e = absurd cc
below_next [] (suc n) l behind e = absurd cc
below_next (k ∷ lines) zero l behind e = omega arith
below_next (k ∷ lines) (suc n) l behind e = omega (arith, below_next lines n l behind e)

pub next_at : (lines : List Line) (n : ℕ) (d l : Line) (behind : List Line) → drop n lines ≡ l ∷ behind → get_or lines n d ≡ l
next_at [] zero d l behind e = absurd cc
next_at [] (suc n) d l behind e = absurd cc
next_at (k ∷ lines) zero d l behind e = cc
next_at (k ∷ lines) (suc n) d l behind e = next_at lines n d l behind e

drop_next : (lines : List Line) (n : ℕ) (l : Line) (behind : List Line) → drop n lines ≡ l ∷ behind → drop (suc n) lines ≡ behind
drop_next [] zero l behind e = absurd cc
drop_next [] (suc n) l behind e = absurd cc
drop_next (k ∷ lines) zero l behind e = cc
drop_next (k ∷ lines) (suc n) l behind e = drop_next lines n l behind e

pub behind_next : (lines : List Line) (n : ℕ) (l : Line) (behind : List Line) → drop n lines ≡ l ∷ behind → drop (n + 1) lines ≡ behind
behind_next lines n l behind e = ap (λ (k : ℕ). drop k lines) (add-one n) ∙ drop_next lines n l behind e

pub take_next : (lines : List Line) (n : ℕ) (l : Line) (behind : List Line) → drop n lines ≡ l ∷ behind → take (n + 1) lines ≡ take n lines ++ l ∷ []
take_next lines n l behind e = take_more lines n l (below_next lines n l behind e) ∙ ap (λ (k : Line). take n lines ++ k ∷ []) (next_at lines n l l behind e)

pub session_joins : (of : Option Node) (xs ys : List Line) → session_behind of (xs ++ ys) ≡ session_behind (session_behind of xs) ys
session_joins of [] ys = refl
session_joins of (l ∷ xs) ys = session_joins (session_after of l) xs ys

pub inside_on : (xs ys : List Line) (node : Node) → session_behind None xs ≡ Some node → session_behind (Some node) ys ≡ Some node → session_behind None (xs ++ ys) ≡ Some node
inside_on xs ys node e f = session_joins None xs ys ∙ ap (λ (of : Option Node). session_behind of ys) e ∙ f

-- lines that keep to sessions do so behind each of them
pub kept_behind : (of : Option Node) (xs ys : List Line) → KeepSessions of (xs ++ ys) → KeepSessions (session_behind of xs) ys
kept_behind of [] ys h = h
kept_behind of (l ∷ xs) ys h = kept_behind (session_after of l) xs ys h.1

-- a line of a session that does not end it leaves it open
pub stays_in : (node : Node) (l : Line) → goes_in node l ≡ true → l ≢ line.End → session_after (Some node) l ≡ Some node
stays_in node (line.Session of) fits ne = absurd (true≢false (sym fits))
stays_in node line.End fits ne = absurd (ne refl)
stays_in node _ fits ne = refl

-- each of some lines has what all have
pub passes_at : (p : Line → Bool) (before : List Line) (l : Line) (behind : List Line) → list_all p (before ++ l ∷ behind) ≡ true → p l ≡ true
passes_at p [] l behind e = (and_parts (p l) (list_all p behind) e).0
passes_at p (k ∷ before) l behind e = passes_at p before l behind (and_parts (p k) (list_all p (before ++ l ∷ behind)) e).1

-- the next line of a session may stand in it, and is named
pub next_fits : (layout : Layout) (node : Node) (lines : List Line) (n : ℕ) (l : Line) (behind : List Line) → AllPass (has_names layout) lines → KeepSessions (Some node) lines → session_behind (Some node) (take n lines) ≡ Some node → drop n lines ≡ l ∷ behind →
    (has_names layout l ≡ true) × (goes_in node l ≡ true) × KeepSessions (session_after (Some node) l) behind
next_fits layout node lines n l behind names sessions kept e =
    let parts : lines ≡ take n lines ++ l ∷ behind = parted lines n l behind e in
    let named : has_names layout l ≡ true = passes_at (has_names layout) (take n lines) l behind (subst (λ (ls : List Line). list_all (has_names layout) ls ≡ true) parts (list_all-from_AllPass (has_names layout) lines names)) in
    let here : KeepSessions (session_behind (Some node) (take n lines)) (l ∷ behind) = kept_behind (Some node) (take n lines) (l ∷ behind) (subst (λ (ls : List Line). KeepSessions (Some node) ls) parts sessions) in
    let there : KeepSessions (Some node) (l ∷ behind) = subst (λ (of : Option Node). KeepSessions of (l ∷ behind)) kept here in
    (named, there.0, there.1)

-- ---- statuses

-- a run that ended by a fault of a node was broken off
pub broken_by : (named : Node) (why : NodeFault) (P Q R : Type 0) → R → ByStatus (status_of_run (fault_at_node named why)) P Q R
broken_by named (fault.Stopped disk) P Q R r = r
broken_by named (fault.Failed disk) P Q R r = r
broken_by named fault.NoMemory P Q R r = r
broken_by named (fault.Damaged disk file at) P Q R r = r

-- ---- runs, as the session shows them

module _ {D : Type 0} {d : Ghosts D} (out : Output) (tells : Type 0) (files : D → Disk) (counts : D → Counts) (layout : Layout) (lines : List Line) (start : Node → ℕ → Option D) where
  -- as the session was opened
  pub opened_so : (old : System D d) (opened : OpenView D d) → BeginsIn tells files counts old opened → Completes out tells counts layout lines start (disk_of old) (λ s. IsAtState files layout s old) (StandsAs old) →
      Completes out tells counts layout lines start (disk_of (shown opened)) (IsShownAt files layout opened) (StandsAs (shown opened))
  opened_so old opened h c = completes_along tells counts layout start start (disk_of old) (disk_of (shown opened)) (kept_same tells counts layout start start (λ node i. refl))
      (at_each_so (λ node i x y. y ≡ x) (λ node i a b. IfUsed (is_used layout node i) (λ p q. SameRises (counts p) (counts q)) a b) (disk_of old) (disk_of (shown opened)) (λ node i a b e. same_used (is_used layout node i) a b e) h.disks)
      (λ s. IsAtState files layout s old) (IsShownAt files layout opened) (λ t s at. h.at t layout s at) (StandsAs old) (StandsAs (shown opened)) (stands_too old (shown opened) h.stands) out lines c
    where
      same_used : (u : Bool) (a b : D) → b ≡ a → IfUsed u (λ p q. SameRises (counts p) (counts q)) a b
      same_used true a b e = record { faults = ap (λ x. (counts x).faults) e; stops = ap (λ x. (counts x).stops) e; fuses = ap (λ x. (counts x).fuses) e }
      same_used false a b e = e

  -- a line of the session's node that met something leaves the counts of what is shown
  pub met_kept : (why : NodeFault) (l : Line) (old new : OpenView D d) → layout_of old.system ≡ layout → MeetsOpen tells files counts why l old new → Kept tells counts layout (disk_of (shown old)) (disk_of (shown new))
  met_kept why l old new laid h = at_each_so (λ node i a b. IfUsed (is_used layout node i) (λ p q. counts q ≡ counts p) a b) (λ node i a b. IfUsed (is_used layout node i) (λ p q. SameRises (counts p) (counts q)) a b) (disk_of (shown old)) (disk_of (shown new))
      (λ node i a b. if_used_so (is_used layout node i) (λ p q. counts q ≡ counts p) (λ p q. SameRises (counts p) (counts q)) a b (λ is. record { faults = ap (λ c. c.faults) is; stops = ap (λ c. c.stops) is; fuses = ap (λ c. c.fuses) is }))
      (subst (λ (of : Layout). AtEach (λ node i a b. IfUsed (is_used of node i) (λ p q. counts q ≡ counts p) a b) (disk_of (shown old)) (disk_of (shown new))) laid h.disks)

  -- so a run led to what is shown then, by what may happen between two lines
  pub met_so : RunLaws → (why : NodeFault) (l : Line) (old new : OpenView D d) → layout_of old.system ≡ layout → MeetsOpen tells files counts why l old new → Completes out tells counts layout lines start (disk_of (shown old)) (IsShownAt files layout old) (StandsAs (shown old)) →
      Completes out tells counts layout lines start (disk_of (shown new)) (IsShownAt files layout new) (StandsAs (shown new))
  met_so laws why l old new laid h c = drifted (completes_along tells counts layout start start (disk_of (shown old)) (disk_of (shown new)) (kept_same tells counts layout start start (λ node i. refl)) (met_kept why l old new laid h)
      (IsShownAt files layout old) (λ s. HasDrifted files layout s new) (λ t s at. h.drifted t layout s at.0 at.1) (StandsAs (shown old)) (StandsAs (shown new)) (stands_too (shown old) (shown new) h.stands) out lines c)
    where
      drifted : Completes out tells counts layout lines start (disk_of (shown new)) (λ s. HasDrifted files layout s new) (StandsAs (shown new)) → Completes out tells counts layout lines start (disk_of (shown new)) (IsShownAt files layout new) (StandsAs (shown new))
      drifted k = record {
        replies = k.replies;
        wrote = k.wrote;
        went = record {
          many = k.went.many;
          kinds = k.went.kinds;
          judged = k.went.judged;
          stops = k.went.stops;
          told = k.went.told;
          disks = k.went.disks;
          run = λ t. let r = k.went.run t in record {
            state = r.at.next;
            run = laws.drifts layout lines k.replies r.state r.at.next r.run r.at.drifts;
            stops_are = λ node. r.at.stops node ∙ r.stops_are node;
            at = (r.at.at, r.at.fed);
          };
        };
        spared = k.spared;
      }

  -- and no more of them failed
  pub met_spared : (why : NodeFault) (l : Line) (old new : OpenView D d) → layout_of old.system ≡ layout → MeetsOpen tells files counts why l old new → NoneFailed counts start (disk_of (shown old)) → NoneFailed counts start (disk_of (shown new))
  met_spared why l old new laid h fine = spared_along tells counts layout start start (disk_of (shown old)) (disk_of (shown new)) (kept_same tells counts layout start start (λ node i. refl)) (met_kept why l old new laid h) fine

module _ {D : Type 0} (out : Output) (tells : Type 0) (counts : D → Counts) (layout : Layout) (before lines : List Line) (n : ℕ) (l : Line) (behind : List Line) (is : drop n lines ≡ l ∷ behind) (start new : Node → ℕ → Option D) where
  -- all lines, cut at the next one
  all_parts : before ++ lines ≡ before ++ take n lines ++ l ∷ behind
  all_parts = ap (λ (ls : List Line). before ++ ls) (parted lines n l behind is) ∙ sym (append_assoc before (take n lines) (l ∷ behind))

  -- a session is open before it
  module _ {node : Node} (inside : session_behind None (before ++ take n lines) ≡ Some node) where
    not_outside : {X : Type 0} → session_behind None (before ++ take n lines) ≡ None → X
    not_outside outside = absurd (some_none (sym inside ∙ outside))
      where
        some_none : (let o : Option Node = Some node in o ≡ None) → ⊥
        some_none e = cc

    -- the next line was broken off
    pub breaks_next : (s : Status) (was : Node → ℕ → Option D) (WasAt IsAt : State → Type 0) (Stood : Stances → Type 0) (c : Completes out tells counts layout (before ++ take n lines) start was WasAt Stood) →
        Went false tells counts layout (before ++ take n lines) c.replies start new (BrokeIn layout (before ++ take n lines) c.replies l IsAt) Anyhow → BreaksOff s out tells counts layout (before ++ lines) start new IsAt
    breaks_next s was WasAt IsAt Stood c went = record {
      before = before ++ take n lines;
      line = l;
      behind = behind;
      parts = all_parts;
      replies = c.replies;
      wrote = c.wrote;
      went = went;
      returned = not_outside;
    }

    -- its reply was not written whole
    pub stops_next : (was : Node → ℕ → Option D) (WasAt IsAt : State → Type 0) (s : StopsAt out tells counts layout (before ++ take n lines) l start was WasAt) →
        Went false tells counts layout (before ++ take n lines ++ l ∷ []) (s.replies ++ s.reply ∷ []) start new (RanTo layout (before ++ take n lines ++ l ∷ []) (s.replies ++ s.reply ∷ []) IsAt) Anyhow → StopsWriting out tells counts layout (before ++ lines) start new IsAt
    stops_next was WasAt IsAt s went = record {
      before = before ++ take n lines;
      line = l;
      behind = behind;
      parts = all_parts;
      replies = s.replies;
      reply = s.reply;
      wrote = s.wrote;
      went = went;
      spared = not_outside;
    }
