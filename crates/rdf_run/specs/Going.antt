-- How far the lines of a plan went over the disks, which are given by their places.
use Rattle.std.specs.Prelude.{◌≡◌, ℕ, ◌≤◌, Bool, true, false, List, [], ◌∷◌, ◌++◌, length, take, drop, Option, None, Result}
use Rattle.rdf_types.specs.declared.layout.Layout.{Layout}
use Rattle.rdf_types.specs.declared.records.Node.{Node}
use Rattle.rdf_disk.specs.Files.{Disk}
use Rattle.rdf_disk.specs.Counts.{Counts}
use Rattle.rdf_disk.specs.declared.disk.Disk.{Ghosts}
use Rattle.plan_lang.specs.declared.lines.Line.{Line}
use Rattle.rdf_core.specs.declared.replies.Reply.{Reply}
use Rattle.std.specs.List.{AllPass}
use Rattle.rdf_core.specs.Allowed.{allowed, has_names}
use Rattle.rdf_core.specs.Effects.{count_u64}
use Rattle.rdf_core.specs.State.{State}
use Rattle.rdf_core.specs.Run.{Run}
use Rattle.rdf_system.specs.Place.{AtEach, IfUsed, is_used}
use Rattle.rdf_system.specs.Lines.{MayLeave, stops_in}
use Rattle.rdf_system.specs.Stances.{Stances, fresh}
use Rattle.rdf_system.specs.States.{disk_of, layout_of, MayServe}
use Rattle.rdf_system.specs.declared.system.System.{System}
use Rattle.plan_lang.specs.Sessions.{session_behind, KeepSessions}
use Rattle.rdf_run.specs.RunFaults.{status_in, Spares}
use Rattle.rdf_run.specs.Statuses.{SinkAfter, IsSound, NamesUsedDisk}
use Rattle.rdf_run.specs.Returned.{ReturnIn, NoneFailed, AllReturn}
use Rattle.rdf_run.specs.Replies.{AllGet}
use Rattle.rdf_run.specs.Judging.{AreJudged, Anyhow}
use Rattle.rdf_run.specs.Rising.{fuses_given, CountsRose, sums_of}
use Rattle.rdf_run.specs.StopsTold.{AreToldOf}
use Rattle.rdf_monitor.specs.Output.{Output}
use Rattle.rdf_run.specs.declared.run_fault.RunFault.{RunFault}
use Rattle.rdf_run.specs.declared.status.Status.{Status}
use Rattle.rdf_run.specs.declared.status.Status.TheVariants.{Done, BadWords, ReadFault, WriteFault, DeviceFault, NoMemory, Damaged, NotBlank, TooLong, StoppedEarly, BadPlan}

-- the state counts so many stops of each node's disks
abbrev pub Counted : State → (Node → ℕ) → Type 0
Counted s stops = (node : Node) → stops_in s node ≡ count_u64 (stops node)

-- The lines may have these replies, and what stands is at the state that they leave, which counts so many stops of each node's disks.
pub record RanTo (layout : Layout) (lines : List Line) (replies : List Reply) (IsAt : State → Type 0) (stops : Node → ℕ) : Type 0 where
  pub state : State
  pub run : Run layout lines replies state
  pub stops_are : Counted state stops
  pub at : IsAt state

-- The lines may have these replies, the next line may stand behind them, and what stands is at a state that it may leave where it is broken off: the one before it, or one that a stop in it may leave.
-- Volumes of an open session may have risen before that, and a disk of one of them may have stopped.
pub record BrokeIn (layout : Layout) (lines : List Line) (replies : List Reply) (l : Line) (IsAt : State → Type 0) (stops : Node → ℕ) : Type 0 where
  pub state : State
  pub run : Run layout lines replies state
  pub allowed : allowed layout state.session l ≡ true
  pub left : State
  pub leaves : MayLeave layout state l left
  pub stops_are : Counted left stops
  pub at : IsAt left

-- These lines were answered so, each as it may be. The counts of each used disk rose by the fuses that the lines gave it, and by so many stops; any other disk is as it was. The replies tell of all of these stops, line by line, or of some of them.
-- Over any disks each reply is what the line is answered for how the nodes stand, and that holds of how they stand now.
-- Where the disks tell, the run ends so with the numbers of these stops, taken together for each node.
pub record Went {D : Type 0} (all : Bool) (tells : Type 0) (counts : D → Counts) (layout : Layout) (lines : List Line) (replies : List Reply) (old new : Node → ℕ → Option D) (Ends : (Node → ℕ) → Type 0) (Now : Stances → Type 0) : Type 0 where
  pub many : length replies ≡ length lines
  pub kinds : AllGet None lines replies
  pub judged : AreJudged layout (fresh layout) lines replies Now
  pub stops : Node → ℕ → ℕ
  pub told : AreToldOf all layout lines replies stops
  pub disks : AtEach (λ node i x y. IfUsed (is_used layout node i) (λ a b. CountsRose (fuses_given node i lines replies) (stops node i) (counts a) (counts b)) x y) old new
  pub run : tells → Ends (sums_of layout stops)

-- all lines were answered so, the replies are out, and that holds of how the nodes stand; no disk failed
pub record Completes {D : Type 0} (out : Output) (tells : Type 0) (counts : D → Counts) (layout : Layout) (lines : List Line) (old new : Node → ℕ → Option D) (IsAt : State → Type 0) (Now : Stances → Type 0) : Type 0 where
  pub replies : List Reply
  pub wrote : out.whole lines replies
  pub went : Went true tells counts layout lines replies old new (RanTo layout lines replies IsAt) Now
  pub spared : NoneFailed counts old new

-- the lines up to one were answered so, and a first part of the last reply is out; outside of sessions no disk failed
pub record StopsWriting {D : Type 0} (out : Output) (tells : Type 0) (counts : D → Counts) (layout : Layout) (lines : List Line) (old new : Node → ℕ → Option D) (IsAt : State → Type 0) : Type 0 where
  pub before : List Line
  pub line : Line
  pub behind : List Line
  pub parts : lines ≡ before ++ line ∷ behind
  pub replies : List Reply
  pub reply : Reply
  pub wrote : out.part before replies line reply
  pub went : Went false tells counts layout (before ++ line ∷ []) (replies ++ reply ∷ []) old new (RanTo layout (before ++ line ∷ []) (replies ++ reply ∷ []) IsAt) Anyhow
  pub spared : session_behind None before ≡ None → NoneFailed counts old new

-- these lines and the one behind them were answered so, and a first part of its reply is out
pub record StopsAt {D : Type 0} (out : Output) (tells : Type 0) (counts : D → Counts) (layout : Layout) (lines : List Line) (l : Line) (old new : Node → ℕ → Option D) (IsAt : State → Type 0) : Type 0 where
  pub replies : List Reply
  pub reply : Reply
  pub wrote : out.part lines replies l reply
  pub went : Went true tells counts layout (lines ++ l ∷ []) (replies ++ reply ∷ []) old new (RanTo layout (lines ++ l ∷ []) (replies ++ reply ∷ []) IsAt) Anyhow

-- the lines before one were answered so, the replies are out, and that line was broken off; outside of sessions the disks come back by this status alone
pub record BreaksOff {D : Type 0} (status : Status) (out : Output) (tells : Type 0) (counts : D → Counts) (layout : Layout) (lines : List Line) (old new : Node → ℕ → Option D) (IsAt : State → Type 0) : Type 0 where
  pub before : List Line
  pub line : Line
  pub behind : List Line
  pub parts : lines ≡ before ++ line ∷ behind
  pub replies : List Reply
  pub wrote : out.whole before replies
  pub went : Went false tells counts layout before replies old new (BrokeIn layout before replies line IsAt) Anyhow
  pub returned : session_behind None before ≡ None → ReturnIn counts None status old new

-- of a run over lines: all were answered, a reply was not written whole, or a line was broken off
abbrev pub ByStatus : Status → Type 0 → Type 0 → Type 0 → Type 0
ByStatus Done completes stops breaks = completes
ByStatus WriteFault completes stops breaks = stops
ByStatus (DeviceFault node disk) completes stops breaks = breaks
ByStatus NoMemory completes stops breaks = breaks
ByStatus (Damaged node disk file at) completes stops breaks = breaks
ByStatus BadWords completes stops breaks = ⊥
ByStatus ReadFault completes stops breaks = ⊥
ByStatus (NotBlank node disk) completes stops breaks = ⊥
ByStatus TooLong completes stops breaks = ⊥
ByStatus (StoppedEarly node disk) completes stops breaks = ⊥
ByStatus (BadPlan line why) completes stops breaks = ⊥

-- how the lines ended; where they did not all complete, the disks are yet to be closed or cut
abbrev pub RunEnds : {D : Type 0} → Status → Output → Type 0 → (D → Counts) → Layout → List Line → (Node → ℕ → Option D) → (Node → ℕ → Option D) → (State → Type 0) → (State → Type 0) → (Stances → Type 0) → Type 0
RunEnds status out tells counts layout lines old new IsAt IsCutAt Now = ByStatus status
    (Completes out tells counts layout lines old new IsAt Now)
    (StopsWriting out tells counts layout lines old new IsCutAt)
    (BreaksOff status out tells counts layout lines old new IsCutAt)

-- how far a run went over lines behind others: so many were answered, or the run ended; over disks that tell, nothing is damaged
abbrev pub RunGoes : {D : Type 0} → Status → Output → Type 0 → (D → Counts) → Layout → List Line → List Line → ℕ → (Node → ℕ → Option D) → (Node → ℕ → Option D) → (State → Type 0) → (State → Type 0) → (Stances → Type 0) → Type 0
RunGoes status out tells counts layout before lines answered old new IsAt IsCutAt Now = (tells → IsSound status) × ByStatus status
    (Completes out tells counts layout (before ++ take answered lines) old new IsAt Now)
    (StopsWriting out tells counts layout (before ++ lines) old new IsCutAt)
    (BreaksOff status out tells counts layout (before ++ lines) old new IsCutAt)

-- lines of a plan, of which so many are behind where the session of this node is open, or none
pub record FitFrom (layout : Layout) (of : Option Node) (lines : List Line) (answered : ℕ) : Type 0 where
  pub within : answered ≤ length lines
  pub names : AllPass (has_names layout) lines
  pub behind : session_behind None (take answered lines) ≡ of
  pub sessions : KeepSessions of (drop answered lines)

-- the line behind these was answered, its reply is out, and that holds of how the nodes stand
pub record Answered {D : Type 0} (out : Output) (tells : Type 0) (counts : D → Counts) (layout : Layout) (lines : List Line) (replies : List Reply) (l : Line) (old new : Node → ℕ → Option D) (IsAt : State → Type 0) (Now : Stances → Type 0) : Type 0 where
  pub reply : Reply
  pub wrote : out.whole (l ∷ []) (reply ∷ [])
  pub went : Went true tells counts layout (lines ++ l ∷ []) (replies ++ reply ∷ []) old new (RanTo layout (lines ++ l ∷ []) (replies ++ reply ∷ []) IsAt) Now

-- the line behind these was answered, and a first part of its reply is out
pub record HalfAnswered {D : Type 0} (out : Output) (tells : Type 0) (counts : D → Counts) (layout : Layout) (lines : List Line) (replies : List Reply) (l : Line) (old new : Node → ℕ → Option D) (IsAt : State → Type 0) : Type 0 where
  pub reply : Reply
  pub wrote : out.part [] [] l reply
  pub went : Went true tells counts layout (lines ++ l ∷ []) (replies ++ reply ∷ []) old new (RanTo layout (lines ++ l ∷ []) (replies ++ reply ∷ []) IsAt) Anyhow

-- the line behind these was broken off
pub record NotAnswered {D : Type 0} (out : Output) (tells : Type 0) (counts : D → Counts) (layout : Layout) (lines : List Line) (replies : List Reply) (l : Line) (old new : Node → ℕ → Option D) (IsAt : State → Type 0) : Type 0 where
  pub wrote : out.none
  pub went : Went false tells counts layout lines replies old new (BrokeIn layout lines replies l IsAt) Anyhow

-- how the line behind these ended
abbrev pub LineEnds : {D : Type 0} → Status → Output → Type 0 → (D → Counts) → Layout → List Line → List Reply → Line → (Node → ℕ → Option D) → (Node → ℕ → Option D) → (State → Type 0) → (State → Type 0) → (Stances → Type 0) → Type 0
LineEnds status out tells counts layout lines replies l old new IsAt IsCutAt Now = ByStatus status
    (Answered out tells counts layout lines replies l old new IsAt Now)
    (HalfAnswered out tells counts layout lines replies l old new IsAt)
    (NotAnswered out tells counts layout lines replies l old new IsCutAt)

-- lines leave a system that may be used, of the same layout, and the sink's count of faults rose exactly where the status says that it failed
pub record Keeps {D : Type 0} {d : Ghosts D} (tells : Type 0) (files : D → Disk) (counts : D → Counts) (status : Status) (faults now_faults : ℕ) (old new : System D d) : Type 0 where
  pub serves : MayServe tells files counts new
  pub laid : layout_of new ≡ layout_of old
  pub sink : SinkAfter status faults now_faults

-- Lines that ended so leave this besides: a disk that the status names is a used one, each disk comes back with the cause in its counts, and none failed where the sink failed and nothing was met.
pub record LinesLeave {D : Type 0} {d : Ghosts D} (tells : Type 0) (files : D → Disk) (counts : D → Counts) (ended : Result (Unit {0}) RunFault) (faults now_faults : ℕ) (old new : System D d) : Type 0 where
  pub keeps : Keeps tells files counts (status_in ended) faults now_faults old new
  pub named : NamesUsedDisk (layout_of old) (status_in ended)
  pub disks : AllReturn counts (status_in ended) (disk_of old) (disk_of new)
  pub spared : Spares counts ended (disk_of old) (disk_of new)
