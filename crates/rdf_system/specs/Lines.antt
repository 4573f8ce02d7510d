-- What the system does for a line, and the causes of its answers.
use Rattle.std.specs.Prelude.{◌≡◌, ◌≢◌, ◌⊎◌, ℕ, suc, ◌+◌, ◌<◌, ◌≤◌, length, ◌==◌, ◌&&◌, if◌then◌else◌, Bool, true, false, Option, Some, None, Result, Ok, Err, IsTrue}
use Rattle.rdf_types.specs.declared.layout.Layout.{Layout}
use Rattle.rdf_types.specs.declared.records.Node.{Node}
use Rattle.by_node.specs.Each.{at}
use Rattle.rdf_disk.specs.Files.{Disk}
use Rattle.rdf_disk.specs.Counts.{Counts, Ending, fused}
use Rattle.rdf_disk.specs.Counts.Ending.{Fine}
use Rattle.rdf_disk.specs.declared.disk.Disk.{Ghosts}
use Rattle.plan_lang.specs.declared.lines.Line.{Line}
use Rattle.plan_lang.specs.declared.lines.Line.TheVariants as line
use Rattle.node_faults.specs.declared.NodeFault.{NodeFault}
use Rattle.node_faults.specs.declared.NodeFault.TheVariants as fault
use Rattle.node_faults.specs.Faults.{is_damage, IsNamed}
use Rattle.rdf_backup.specs.Beside.{is_beside, MayEnd}
use Rattle.node_disks.specs.Counting.{Tells, is_fuse}
use Rattle.rdf_core.specs.declared.replies.Reply.{Reply}
use Rattle.rdf_core.specs.declared.replies.Reply.TheVariants.{Done, Stopped}
use Rattle.rdf_core.specs.Allowed.{has_names, is_node}
use Rattle.rdf_core.specs.Effects.{after_parts, reaches_disks, count_u64}
use Rattle.plan_lang.specs.LineText.{same_node}
use Rattle.rdf_core.specs.Sessions.{is_backup_node}
use Rattle.rdf_core.specs.State.{State, fallen, by_node}
use Rattle.rdf_core.specs.Lines.{refusal}
use Rattle.rdf_core.specs.Happens.{parts_of}
use Rattle.rdf_core.specs.Run.{Drifts}
use Rattle.rdf_core.specs.Sound.{NoneHasFallen}
use Rattle.rdf_core.specs.Step.{Step, disks_of}
use Rattle.plan_lang.specs.Sessions.{fits_session}
use Rattle.rdf_system.specs.Noting.{is_stop_of}
use Rattle.rdf_system.specs.Sessions.{node_of, used_by, running_in}
use Rattle.rdf_system.specs.declared.fault.StepFault.{StepFault}
use Rattle.rdf_system.specs.declared.system.System.{System}
use Rattle.rdf_system.specs.Kinds.{IsReplied}
use Rattle.rdf_system.specs.Place.{AtEach, is_used, IfUsed}
use Rattle.rdf_system.specs.States.{disk_of, layout_of, MayServe, IsAtState, IsStood, DisksStandFor}
use Rattle.rdf_system.specs.Stances.{IsHeld, IsJudged, IsMoved, stances_of}

-- how often disks of the node stopped
abbrev pub stops_in : State → Node → ℕ
stops_in s node = by_node node s.primary.stops (at s.backups node).stops

-- a disk of the node stopped in a line that uses disks of this one, or of none
abbrev pub counts_stop : Option Node → Node → Reply → Bool
counts_stop None node reply = false
counts_stop (Some used) node reply = same_node used node && is_stop_of node reply

-- of a node that the reply says has stopped in the line, so many stops are counted, and else none
abbrev pub CountsStops : Option Node → Reply → ℕ → State → State → Type 0
CountsStops used reply rise s next = (node : Node) → stops_in next node ≡ (if counts_stop used node reply then count_u64 (stops_in s node + rise) else stops_in s node)

-- What a line that was broken off may leave: the state before it, or, where no state or phase of a node refuses it, what a stop of its node leaves, with some first ones of its durable parts.
pub data MayLeave (layout : Layout) (old : State) (l : Line) (left : State) : Type 0 where
  Before : (is : left ≡ old) → MayLeave layout old l left
  Within : (node : Node) (of : disks_of l ≡ Some node) (reaches : IsTrue (reaches_disks (refusal layout old l))) (done : ℕ) (few : done ≤ length (parts_of layout old l)) (rise : ℕ)
      (is : left ≡ fallen node rise (after_parts old (parts_of layout old l) done)) → MayLeave layout old l left

-- so many more stops of each node's disks are counted
abbrev pub CountsMore : (Node → ℕ) → State → State → Type 0
CountsMore more s left = (node : Node) (n : ℕ) → stops_in s node ≡ count_u64 n → stops_in left node ≡ count_u64 (n + more node)

-- the disks stand for what the line may leave where it is broken off, behind what may happen before it, with the stops of that state and so many more
pub record Leaves {D : Type 0} {d : Ghosts D} (files : D → Disk) (layout : Layout) (s : State) (l : Line) (counted : State) (more : Node → ℕ) (new : System D d) : Type 0 where
  pub mid : State
  pub drifts : Drifts layout s mid
  pub left : State
  pub leaves : MayLeave layout mid l left
  pub stands : DisksStandFor files layout left new
  pub stops : CountsMore more counted left

-- the line works the volumes of this node beside each other, which is a backup's
abbrev pub is_beside_at : Node → Line → Bool
is_beside_at node l = is_backup_node node && is_beside l

-- no stop more is counted, or, in a line that works volumes beside each other and was broken off by a fault of this node, some of its disks
abbrev pub MayCount : Line → Node → (Node → ℕ) → Type 0
MayCount l named more = (node : Node) → (more node ≡ 0) ⊎ ((node ≡ named) × (is_beside_at named l ≡ true))

-- The system is at the state that a step of the machine leaves, behind what may happen before it; so many stops are counted where the reply is that a node stopped in the line.
-- A reply that a node stopped is of the one whose disks the line uses, but at the end of a session.
-- Where the reply needs memory to be written, the disks also stand for what a stop in the line may leave.
pub record Follows {D : Type 0} {d : Ghosts D} (files : D → Disk) (layout : Layout) (s : State) (used : Option Node) (l : Line) (rise : ℕ) (reply : Reply) (new : System D d) : Type 0 where
  pub mid : State
  pub drifts : Drifts layout s mid
  pub next : State
  pub step : Step layout mid l reply next
  pub at : IsAtState files layout next new
  pub stops : CountsStops used reply rise s next
  pub told : (node : Node) → reply ≡ Stopped node → (used ≡ Some node) ⊎ (l ≡ line.End)
  pub leaves : reply ≢ Done → Leaves files layout s l next (λ node. 0) new

-- how a line ends, where so many stops are counted; where a fault broke it off, whatever number of stops of the fault's node may be counted besides
abbrev pub Ends : {D : Type 0} {d : Ghosts D} → (D → Disk) → Layout → State → Option Node → Line → ℕ → Result Reply StepFault → System D d → Type 0
Ends files layout s used l rise (Ok reply) new = Follows files layout s used l rise reply new
Ends files layout s used l rise (Err why) new = (more : Node → ℕ) → MayCount l why.node more → Leaves files layout s l s more new

-- the same from each state that the system was at, in whose session no point has fallen, whatever number of stops is counted
abbrev pub Performs : {D : Type 0} {d : Ghosts D} → (D → Disk) → Line → Result Reply StepFault → System D d → System D d → Type 0
Performs files l result old new = (layout : Layout) (s : State) (rise : ℕ) → 0 < rise → NoneHasFallen layout s s.session → IsAtState files layout s old →
    Ends files layout s (used_by old.session l) l rise result new

-- how a line that ended so for the disks of that node ended for the disk at a place
abbrev pub ends_on : Node → (ℕ → Ending) → Node → ℕ → Ending
ends_on named ends node i = if same_node named node then ends i else Fine

-- each used disk is so related to itself before, and any other is as it was
abbrev pub EachUsed : {D : Type 0} {d : Ghosts D} → (Node → ℕ → D → D → Type 0) → System D d → System D d → Type 0
EachUsed R old new = AtEach (λ node i x y. IfUsed (is_used (layout_of old) node i) (λ a b. R node i a b) x y) (disk_of old) (disk_of new)

-- no disk failed or stopped
abbrev pub NoneFails : {D : Type 0} {d : Ghosts D} → (D → Counts) → System D d → System D d → Type 0
NoneFails counts old new = EachUsed (λ node i x y. Tells Fine (counts x) (counts y)) old new

-- That fault of the node has its cause in the counts of the disk that it names, which is one of the used ones, and no other disk failed or stopped. In a line that works volumes beside each other several of that node may have, and the fault is the first of these.
abbrev pub FailsBy : {D : Type 0} {d : Ghosts D} → (D → Counts) → Line → Node → NodeFault → System D d → System D d → Type 0
FailsBy counts l named why old new = (is_node (layout_of old) named ≡ true) × IsNamed (suc (layout_of old).volumes) why
    × ((ends : ℕ → Ending) × (MayEnd (is_beside_at named l) why ends × EachUsed (λ node i x y. Tells (ends_on named ends node i) (counts x) (counts y)) old new))

-- A reply that a node stopped in the line has its cause in the counts of a disk of it. At any other reply none failed or stopped; the end of a session in which a disk stopped before tells that again.
abbrev pub ReplyCaused : {D : Type 0} {d : Ghosts D} → (D → Counts) → Line → Reply → System D d → System D d → Type 0
ReplyCaused counts l reply old new = (NoneFails counts old new × ((node : Node) → used_by old.session l ≡ Some node → reply ≢ Stopped node))
    ⊎ ((node : Node) × ((l ≡ line.End → used_by old.session l ≡ Some node) × ((reply ≡ Stopped node) × ((disk : ℕ) × FailsBy counts l node (fault.Stopped disk) old new))))

-- every answer has its cause, and no fault is that a disk stopped: that is a reply
abbrev pub IsCaused : {D : Type 0} {d : Ghosts D} → (D → Counts) → Line → Result Reply StepFault → System D d → System D d → Type 0
IsCaused counts l (Ok reply) old new = ReplyCaused counts l reply old new
IsCaused counts l (Err why) old new = FailsBy counts l why.node why.fault old new × ((disk : ℕ) → why.fault ≢ fault.Stopped disk)

-- no fault tells of damage
abbrev pub IsSound : Result Reply StepFault → Type 0
IsSound (Ok reply) = Unit {0}
IsSound (Err why) = is_damage why.fault ≡ false

-- nothing is damaged where the system is at a state
abbrev pub IsSoundAt : {D : Type 0} {d : Ghosts D} → (D → Disk) → Result Reply StepFault → System D d → Type 0
IsSoundAt files result old = (layout : Layout) (s : State) → IsAtState files layout s old → IsSound result

-- the number of fuses of the disk at a place after a line that gives a disk a fuse
abbrev pub fuses_of : Line → Node → ℕ → Counts → ℕ
fuses_of (line.Fuse named disk calls tear) node i c = if same_node named node && i == disk then (fused c).fuses else c.fuses
fuses_of _ node i c = c.fuses

-- the answer is that the line is done
abbrev pub is_done : Result Reply StepFault → Bool
is_done (Ok Done) = true
is_done (Ok _) = false
is_done (Err why) = false

-- a fuse that is done raises the number of fuses of its disk, and nothing else raises any
abbrev pub IsFused : {D : Type 0} {d : Ghosts D} → (D → Counts) → Line → Result Reply StepFault → System D d → System D d → Type 0
IsFused counts l result old new = (EachUsed (λ node i x y. (counts y).fuses ≡ (counts x).fuses) old new × ((is_fuse l && is_done result) ≡ false))
    ⊎ ((result ≡ Ok Done) × EachUsed (λ node i x y. (counts y).fuses ≡ fuses_of l node i (counts x)) old new)

-- a disk that is not used is as it was
abbrev pub LeavesUnused : {D : Type 0} {d : Ghosts D} → System D d → System D d → Type 0
LeavesUnused old new = (node : Node) (i : ℕ) → is_used (layout_of old) node i ≡ false → disk_of new node i ≡ disk_of old node i

-- The system may do the line: the layout has the nodes that it names, it fits the session, and each node may serve. No session is open whose lines go over threads: the backup of one that was not refused is down. Over disks that tell, the system is where some run leads.
pub record MayDo {D : Type 0} {d : Ghosts D} (tells : Type 0) (files : D → Disk) (counts : D → Counts) (l : Line) (sys : System D d) : Type 0 where
  pub names : has_names (layout_of sys) l ≡ true
  pub fits : fits_session (node_of sys.session) l ≡ true
  pub serves : MayServe tells files counts sys
  pub idle : running_in sys.session ≡ None
  pub held : IsHeld (stances_of sys)
  pub stood : tells → IsStood files sys

-- What the system keeps in a line, whatever it answers, where this is the cause of the answer: it may be used again, of the same layout, and the counts of its disks show which fuses were given. Over any disks the reply follows from how the nodes stand, or is of the line's own kind, and how they stand behind the line, with the session that is open then, follows from the reply.
pub record Keeps {D : Type 0} {d : Ghosts D} (tells : Type 0) (files : D → Disk) (counts : D → Counts) (Cause : Type 0) (l : Line) (result : Result Reply StepFault) (old new : System D d) : Type 0 where
  pub serves : MayServe tells files counts new
  pub laid : layout_of new ≡ layout_of old
  pub cause : Cause
  pub sound : tells → IsSoundAt files result old
  pub fuses : IsFused counts l result old new
  pub unused : LeavesUnused old new
  pub kinds : IsReplied l result old new
  pub judged : IsJudged l result old
  pub moved : IsMoved l result old new

-- what the system does for a line, whatever it answers, and the causes of that
pub record Does {D : Type 0} {d : Ghosts D} (tells : Type 0) (files : D → Disk) (counts : D → Counts) (l : Line) (result : Result Reply StepFault) (old new : System D d) : Type 0 where
  pub performs : tells → Performs files l result old new
  pub keeps : Keeps tells files counts (IsCaused counts l result old new) l result old new
  pub open keeps use *
