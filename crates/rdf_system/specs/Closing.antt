-- How a session over threads begins and ends in the system.
use Rattle.std.specs.Prelude.{◌≡◌, ◌≢◌, ◌⊎◌, ℕ, suc, ◌<◌, true, nat_lt, if◌then◌else◌, Option, None, Result, Ok, Err, IfOk, IfErr, IsTrue}
use Rattle.rdf_types.specs.declared.layout.Layout.{Layout}
use Rattle.rdf_types.specs.declared.records.Node.{Node}
use Rattle.rdf_types.specs.declared.records.Node.TheVariants.{A}
use Rattle.rdf_disk.specs.Files.{Disk}
use Rattle.rdf_disk.specs.Counts.{Counts, Ending}
use Rattle.rdf_disk.specs.Counts.Ending.{Fine}
use Rattle.rdf_disk.specs.declared.disk.Disk.{Ghosts}
use Rattle.plan_lang.specs.LineText.{same_node}
use Rattle.plan_lang.specs.declared.lines.Line.{Line}
use Rattle.plan_lang.specs.declared.lines.Line.TheVariants as line
use Rattle.node_faults.specs.declared.NodeFault.{NodeFault}
use Rattle.node_faults.specs.declared.NodeFault.TheVariants as fault
use Rattle.node_faults.specs.Faults.{ending_for, IsNamed}
use Rattle.node_disks.specs.Counting.{Tells}
use Rattle.rdf_backup.specs.Beside.{EndsBeside}
use Rattle.rdf_backup.specs.FirstFaults.{rank}
use Rattle.rdf_backup.specs.Rising.{is_of_protected}
use Rattle.rdf_backup.specs.Sessions.{HasCome}
use Rattle.rdf_core.specs.declared.replies.Reply.{Reply}
use Rattle.rdf_core.specs.declared.replies.Reply.TheVariants.{Done, Number, Stopped}
use Rattle.rdf_core.specs.Allowed.{is_node}
use Rattle.rdf_core.specs.Layouts.{protects}
use Rattle.rdf_core.specs.Run.{Drifts}
use Rattle.rdf_core.specs.Sound.{NoneHasFallen}
use Rattle.rdf_core.specs.Step.{is_of_session}
use Rattle.rdf_core.specs.State.{State}
use Rattle.rdf_system.specs.declared.fault.StepFault.{StepFault}
use Rattle.rdf_system.specs.declared.session.SessionState.{SessionState}
use Rattle.rdf_system.specs.declared.system.System.{System}
use Rattle.rdf_system.specs.Lines.{EachUsed, Follows, Leaves, CountsMore, Keeps, LeavesUnused}
use Rattle.rdf_system.specs.NodeLines.{is_on_primary, is_of_sender}
use Rattle.rdf_system.specs.Noting.{behind}
use Rattle.rdf_system.specs.OpenLines.{IsOpenLine, AnswersOpen, FailsOpen, MetOpen, LeftOpen}
use Rattle.rdf_system.specs.Opened.{OpenView, shown, IsOpenAt, IsFedAt}
use Rattle.rdf_system.specs.Place.{AtEach}
use Rattle.rdf_system.specs.Sessions.{used_by}
use Rattle.rdf_system.specs.Stances.{stances_of}
use Rattle.rdf_system.specs.States.{disk_of, layout_of, MayServe, IsAtState, DisksStandFor}

-- ---- which fault is told

-- Of a fault that a line met and of what is told at the end of its session on that node, the first: a disk that failed, then damage, then want of memory; among equals the line's.
abbrev pub first_of_both : StepFault → Node → Result Reply NodeFault → StepFault
first_of_both why name (Ok reply) = why
first_of_both why name (Err told) = if nat_lt (rank told) (rank why.fault) then record { node = name; fault = told } else why

-- what is told by a node, as the system's answer
abbrev pub told_by : Node → Result Reply NodeFault → Result Reply StepFault
told_by name (Ok reply) = Ok reply
told_by name (Err why) = Err (record { node = name; fault = why })

-- ---- what the disks count

-- how the disk at a place ended, where the primary's disks ended by this answer, and those of the session's node so
abbrev pub ends_of_both : Node → Result (Unit {0}) NodeFault → (ℕ → Ending) → Node → ℕ → Ending
ends_of_both name line ends node i = if same_node name node then ends i else (if same_node A node then ending_for i line else Fine)

-- a line that met this, or nothing, at the primary, and a session whose disks met that, come to this answer
abbrev pub Answers : Node → Result (Unit {0}) NodeFault → Result (Unit {0}) NodeFault → Result Reply StepFault → Type 0
Answers name (Ok x) (Ok y) (Ok reply) = reply ≢ Stopped name
Answers name (Ok x) (Err why) (Ok reply) = (reply ≡ Stopped name) × ((disk : ℕ) × (why ≡ fault.Stopped disk))
Answers name (Err why) met (Ok reply) = ⊥
Answers name (Ok x) (Ok y) (Err told) = ⊥
Answers name (Ok x) (Err why) (Err told) = (told ≡ record { node = name; fault = why }) × ((disk : ℕ) → why ≢ fault.Stopped disk)
Answers name (Err why) (Ok x) (Err told) = told ≡ record { node = A; fault = why }
Answers name (Err why) (Err met) (Err told) = told ≡ first_of_both (record { node = A; fault = why }) name (Err met)

-- The answer has its cause in the counts of the disks: of the primary's one disk at most failed in the line, and of the session's node several may have failed or stopped, of which the first is told. These are disks of protected volumes; disk 0 may be one of them where the line works the image trails.
pub record IsCausedInSession {D : Type 0} {d : Ghosts D} (counts : D → Counts) (name : Node) (l : Line) (result : Result Reply StepFault) (old new : System D d) : Type 0 where
  pub line : Result (Unit {0}) NodeFault
  pub met : Result (Unit {0}) NodeFault
  pub answers : Answers name line met result
  pub named : IfErr result (λ why. (is_node (layout_of old) why.node ≡ true) × IsNamed (suc (layout_of old).volumes) why.fault)
  pub line_unstopped : IfErr line (λ why. (disk : ℕ) → why ≢ fault.Stopped disk)
  pub met_named : IfErr met (λ why. IsNamed (suc (layout_of old).volumes) why)
  pub ends : ℕ → Ending
  pub beside : EndsBeside met ends
  pub volumes : (i : ℕ) → ends i ≢ Fine → (is_of_session l ≡ true) ⊎ (is_of_protected (layout_of old) i ≡ true)
  pub each : EachUsed (λ node i x y. Tells (ends_of_both name line ends node i) (counts x) (counts y)) old new

-- ---- what a session comes to

-- no stop more is counted, or some of the session's node, where the line works its image trails or it has a protected volume
abbrev pub MayCountIn : Layout → Node → Line → (Node → ℕ) → Type 0
MayCountIn layout name l more = (node : Node) → (more node ≡ 0) ⊎ ((node ≡ name) × ((is_of_session l ≡ true) ⊎ ((vol : ℕ) × IsTrue (protects layout vol))))

-- how a line ends that is answered at the end of its session
abbrev pub EndsInSession : {D : Type 0} {d : Ghosts D} → (D → Disk) → Layout → State → Node → Option Node → Line → ℕ → Result Reply StepFault → System D d → Type 0
EndsInSession files layout s name used l rise (Ok reply) new = Follows files layout s used l rise reply new
EndsInSession files layout s name used l rise (Err why) new = (more : Node → ℕ) → MayCountIn layout name l more → Leaves files layout s l s more new

abbrev pub PerformsInSession : {D : Type 0} {d : Ghosts D} → (D → Disk) → Line → Result Reply StepFault → OpenView D d → System D d → Type 0
PerformsInSession files l result old new = (layout : Layout) (s : State) (rise : ℕ) → 0 < rise → NoneHasFallen layout s s.session → IsFedAt s old → IsAtState files layout s (shown old) →
    EndsInSession files layout s old.node.name (used_by old.system.session l) l rise result new

-- what the system does for a line that is answered at the end of its session, from the session as that line found it
pub record DoesInSession {D : Type 0} {d : Ghosts D} (tells : Type 0) (files : D → Disk) (counts : D → Counts) (l : Line) (result : Result Reply StepFault) (old : OpenView D d) (new : System D d) : Type 0 where
  pub performs : tells → PerformsInSession files l result old new
  pub keeps : Keeps tells files counts (IsCausedInSession counts old.node.name l result (shown old) new) l result (shown old) new
  pub open keeps use *

-- the session behind a line that is answered at its end
abbrev pub behind_told : SessionState → Line → Result Reply NodeFault → SessionState
behind_told session l (Ok reply) = behind session l reply
behind_told session l (Err why) = session

abbrev pub told_in : {D : Type 0} {d : Ghosts D} → Line → Result Reply NodeFault → System D d → System D d
told_in l told sys = record sys { session = behind_told sys.session l told }

-- the disks stand for a state that may be between two lines, with so many stops more, whatever the nodes are at
pub record AreLeft {D : Type 0} {d : Ghosts D} (files : D → Disk) (layout : Layout) (s : State) (more : Node → ℕ) (new : System D d) : Type 0 where
  pub mid : State
  pub drifts : Drifts layout s mid
  pub stands : DisksStandFor files layout mid new
  pub stops : CountsMore more s mid

-- How an open session was closed that came to this. The session's line, or the one that was broken off, is answered by what is told; where a line of the primary or the sender's side was broken off, by the first of its fault and of what is told.
-- Where no line is to be answered any more, the disks stand for what may be behind the last one; where the reply to the last one found no memory, for what that line may leave.
pub record HasClosed {D : Type 0} {d : Ghosts D} (tells : Type 0) (files : D → Disk) (counts : D → Counts) (closed : OpenView D d) (told : Result Reply NodeFault) (new : System D d) : Type 0 where
  pub session_is : new.session ≡ closed.system.session
  pub unmet : closed.session.met ≡ None → DoesInSession tells files counts line.End (told_by closed.node.name told) closed (told_in line.End told new)
  pub left : tells → closed.session.met ≡ None → (layout : Layout) (s : State) (more : Node → ℕ) → IsFedAt s closed → IsAtState files layout s (shown closed) → MayCountIn layout closed.node.name line.End more → AreLeft files layout s more new
  pub failed : closed.session.met ≡ None → (before : OpenView D d) (l : Line) (why : StepFault) → before.node ≡ closed.node → (is_on_primary l ≡ true) ⊎ (is_of_sender l ≡ true) → IsOpenAt tells files counts before →
      FailsOpen tells files counts l why before closed → DoesInSession tells files counts l (Err (first_of_both why closed.node.name told)) before new
  pub unsaid : tells → closed.session.met ≡ None → (before : OpenView D d) (l : Line) (reply : Reply) → before.node ≡ closed.node → IsOpenLine before.node before.system l → reply ≢ Done → ((n : ℕ) → reply ≢ Number n) →
      AnswersOpen tells files counts l reply before closed → (layout : Layout) (s : State) (rise : ℕ) → NoneHasFallen layout s s.session → IsFedAt s before → IsAtState files layout s (shown before) →
      (f : Follows files layout s (used_by before.system.session l) l rise reply (shown closed)) (more : Node → ℕ) → MayCountIn layout closed.node.name line.End more → Leaves files layout s l f.next more new
  pub broken : (why : NodeFault) (l : Line) → MetOpen why l closed → (tells → (layout : Layout) (s : State) → IsAtState files layout s (shown closed) → LeftOpen files l closed layout s) →
      DoesInSession tells files counts l (told_by closed.node.name told) closed (told_in l told new)
  pub stopped : closed.session.met ≢ None → IfOk told (λ reply. reply ≡ Stopped closed.node.name)

-- ---- a whole session

-- the session shows the system as it was
pub record BeginsIn {D : Type 0} {d : Ghosts D} (tells : Type 0) (files : D → Disk) (counts : D → Counts) (old : System D d) (opened : OpenView D d) : Type 0 where
  pub at : tells → (layout : Layout) (s : State) → IsAtState files layout s old → IsAtState files layout s (shown opened) × IsFedAt s opened
  pub disks : AtEach (λ node i x y. y ≡ x) (disk_of old) (disk_of (shown opened))
  pub is_open : IsOpenAt tells files counts opened
  pub unmet : opened.session.met ≡ None
  pub laid : layout_of opened.system ≡ layout_of old
  pub session_is : opened.system.session ≡ old.session
  pub stands : stances_of (shown opened) ≡ stances_of old

-- A session was driven and closed, and this was told: that relation holds of the system as the session was opened, of what came out, and of the system as the session was left.
pub record HasRunIn {D O : Type 0} {d : Ghosts D} (tells : Type 0) (files : D → Disk) (counts : D → Counts) (drives : OpenView D d → O → OpenView D d → Type 0) (out : O) (told : Result Reply NodeFault) (old new : System D d) : Type 0 where
  pub opened : OpenView D d
  pub closed : OpenView D d
  pub begins : BeginsIn tells files counts old opened
  pub driven : drives opened out closed
  pub lent : closed.node ≡ opened.node
  pub comes : HasCome counts opened.session.shown closed.session
  pub closes : IsOpenAt tells files counts closed → HasClosed tells files counts closed told new

-- no session was begun: the system is as it was, but for where volumes stand in memory
pub record IsUnbegunIn {D : Type 0} {d : Ghosts D} (tells : Type 0) (files : D → Disk) (counts : D → Counts) (old new : System D d) : Type 0 where
  pub at : tells → (layout : Layout) (s : State) → IsAtState files layout s old → IsAtState files layout s new
  pub serves : MayServe tells files counts new
  pub laid : layout_of new ≡ layout_of old
  pub session_is : new.session ≡ old.session
  pub counts_are : AtEach (λ node i x y. counts y ≡ counts x) (disk_of old) (disk_of new)
  pub unused : LeavesUnused old new
