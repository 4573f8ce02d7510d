-- What a line of an open session does.
use Rattle.std.specs.Prelude.{◌≡◌, ◌≢◌, ◌⊎◌, ℕ, ◌<◌, true, List, Option, None, Some, Result, Ok, Err, IsTrue}
use Rattle.rdf_types.specs.declared.layout.Layout.{Layout}
use Rattle.rdf_types.specs.declared.records.Node.{Node}
use Rattle.rdf_types.specs.declared.records.Node.TheVariants.{A}
use Rattle.rdf_disk.specs.Files.{Disk}
use Rattle.rdf_disk.specs.Counts.{Counts}
use Rattle.rdf_disk.specs.declared.disk.Disk.{Ghosts}
use Rattle.plan_lang.specs.declared.lines.Line.{Line}
use Rattle.plan_lang.specs.declared.lines.Line.TheVariants as line
use Rattle.plan_lang.specs.Sessions.{goes_in}
use Rattle.node_faults.specs.declared.NodeFault.{NodeFault}
use Rattle.rdf_core.specs.declared.replies.Reply.{Reply}
use Rattle.rdf_core.specs.Allowed.{has_names}
use Rattle.rdf_core.specs.Layouts.{protects}
use Rattle.rdf_core.specs.Run.{Drifts}
use Rattle.rdf_core.specs.Sound.{NoneHasFallen}
use Rattle.rdf_core.specs.State.{State}
use Rattle.rdf_core.specs.Step.{Step, disks_of, is_of_session, is_for_primary}
use Rattle.rdf_backup.specs.declared.backup.Backup.{Backup}
use Rattle.rdf_backup.specs.declared.session.Met.TheVariants as met
use Rattle.rdf_backup.specs.Replies.{BreaksTrails}
use Rattle.rdf_backup.specs.Sessions.{Open, IsFed, HasCome}
use Rattle.backup_node.specs.declared.node.BackupNode.{BackupNode}
use Rattle.backup_node.specs.Nodes.{MayServe as NodeMayServe}
use Rattle.backup_node.specs.Open.{in_open, ByMessage, MeetsTrails, MeetsPurge, MeetsVolume, Runs}
use Rattle.rdf_system.specs.declared.fault.StepFault.{StepFault}
use Rattle.rdf_system.specs.declared.opened.Broken.{Broken}
use Rattle.rdf_system.specs.declared.opened.Broken.TheVariants as broken
use Rattle.rdf_system.specs.declared.system.System.{System}
use Rattle.rdf_system.specs.Lines.{Ends, EachUsed, IsCaused, Keeps, stops_in}
use Rattle.rdf_system.specs.NodeLines.{about, is_of_sender}
use Rattle.rdf_system.specs.Opened.{OpenView, shown, MayLend, IsOpenAt, IsFedAt}
use Rattle.rdf_system.specs.Sessions.{node_of, used_by}
use Rattle.rdf_system.specs.Stances.{stances_of}
use Rattle.rdf_system.specs.States.{layout_of, IsAtState}

-- a line that may stand in a session of the node, but its end
pub record IsOpenLine {D : Type 0} {d : Ghosts D} (n : BackupNode D d) (sys : System D d) (l : Line) : Type 0 where
  pub names : has_names (layout_of sys) l ≡ true
  pub fits : goes_in n.name l ≡ true
  pub unended : l ≢ line.End

-- how a line goes from each state that the system was at, in whose session no point has fallen, and with whose trail the updaters were fed, whatever number of stops is counted
abbrev pub PerformsFed : {D : Type 0} {d : Ghosts D} → (D → Disk) → Open D d → Line → Result Reply StepFault → System D d → System D d → Type 0
PerformsFed files o l result old new = (layout : Layout) (s : State) (rise : ℕ) → 0 < rise → NoneHasFallen layout s s.session → IsFed s.primary.trail o → IsAtState files layout s old →
    Ends files layout s (used_by old.session l) l rise result new

-- what the system as it is shown does for a line, and the causes of that
pub record DoesOpen {D : Type 0} {d : Ghosts D} (tells : Type 0) (files : D → Disk) (counts : D → Counts) (l : Line) (result : Result Reply StepFault) (old new : OpenView D d) : Type 0 where
  pub performs : tells → PerformsFed files old.session l result (shown old) (shown new)
  pub keeps : Keeps tells files counts (IsCaused counts l result (shown old) (shown new)) l result (shown old) (shown new)
  pub open keeps use *

-- the updaters are fed on, with the trail of the state behind the line
abbrev pub FeedsOn : {D : Type 0} {d : Ghosts D} → (D → Disk) → Line → Reply → OpenView D d → OpenView D d → Type 0
FeedsOn files l reply old new = (layout : Layout) (s mid next : State) → IsAtState files layout s (shown old) → IsFedAt s old → Drifts layout s mid → Step layout mid l reply next → IsAtState files layout next (shown new) → IsFedAt next new

-- the line was answered
pub record AnswersOpen {D : Type 0} {d : Ghosts D} (tells : Type 0) (files : D → Disk) (counts : D → Counts) (l : Line) (reply : Reply) (old new : OpenView D d) : Type 0 where
  pub does : DoesOpen tells files counts l (Ok reply) old new
  pub feeds : tells → FeedsOn files l reply old new
  pub unmet : new.session.met ≡ None

-- a line on the primary or on the sender's side
abbrev pub IsSideLine : Line → Type 0
IsSideLine l = (is_for_primary l ≡ true) ⊎ (is_of_sender l ≡ true)

-- such a line was broken off, and the session is as it was
pub record FailsOpen {D : Type 0} {d : Ghosts D} (tells : Type 0) (files : D → Disk) (counts : D → Counts) (l : Line) (why : StepFault) (old new : OpenView D d) : Type 0 where
  pub does : DoesOpen tells files counts l (Err why) old new
  pub side : IsSideLine l
  pub node_is : why.node ≡ A
  pub still : new.session ≡ old.session

-- what a line on the session's node met: a delivery or a purge the image trails' fault, and a read that of a volume
abbrev pub MetOpen : {D : Type 0} {d : Ghosts D} → NodeFault → Line → OpenView D d → Type 0
MetOpen why (line.Read node key) new = (node ≡ new.node.name) × (new.session.met ≡ Some met.Volume)
MetOpen why l new = (is_of_session l ≡ true) × (disks_of l ≡ Some new.node.name) × (new.session.met ≡ Some (met.Trails why))

-- what is left of it then: some first ones of the line's durable parts on the image trails' disk; of a read, the volume is a protected one
abbrev pub LeftOpen : {D : Type 0} {d : Ghosts D} → (D → Disk) → Line → OpenView D d → Layout → State → Type 0
LeftOpen files (line.Read node key) x layout s = IsTrue (protects layout key.vol)
LeftOpen files l x layout s = BreaksTrails files (about layout s l) l x.session.shown x.session.disk

-- what is shown is at a state that may follow between two lines, in which no more stops are counted, and its updaters are fed on
pub record HasDrifted {D : Type 0} {d : Ghosts D} (files : D → Disk) (layout : Layout) (s : State) (new : OpenView D d) : Type 0 where
  pub next : State
  pub drifts : Drifts layout s next
  pub stops : (node : Node) → stops_in next node ≡ stops_in s node
  pub at : IsAtState files layout next (shown new)
  pub fed : IsFedAt next new

-- a purge shows the volumes as they have risen; any other line leaves what is shown
abbrev pub ShowsOn : {D : Type 0} {d : Ghosts D} → Line → Open D d → Open D d → Type 0
ShowsOn (line.Purge node) old new = Unit {0}
ShowsOn l old new = new.shown ≡ old.shown

-- A line on the session's node met a fault: what is shown has come so far as it may between two lines, the counts of the used disks stay, and the others, and so does the rest of the system.
pub record MeetsOpen {D : Type 0} {d : Ghosts D} (tells : Type 0) (files : D → Disk) (counts : D → Counts) (why : NodeFault) (l : Line) (old new : OpenView D d) : Type 0 where
  pub shows : ShowsOn l old.session new.session
  pub drifted : tells → (layout : Layout) (s : State) → IsAtState files layout s (shown old) → IsFedAt s old → HasDrifted files layout s new
  pub disks : EachUsed (λ node i x y. counts y ≡ counts x) (shown old) (shown new)
  pub rest : new.system ≡ old.system
  pub stands : stances_of (shown new) ≡ stances_of (shown old)
  pub met : MetOpen why l new
  pub left : tells → (layout : Layout) (s : State) → IsAtState files layout s (shown new) → LeftOpen files l new layout s

abbrev pub EndsOpen : {D : Type 0} {d : Ghosts D} → Type 0 → (D → Disk) → (D → Counts) → Line → Result Reply Broken → OpenView D d → OpenView D d → Type 0
EndsOpen tells files counts l (Ok reply) old new = AnswersOpen tells files counts l reply old new
EndsOpen tells files counts l (Err (broken.Line why)) old new = FailsOpen tells files counts l why old new
EndsOpen tells files counts l (Err (broken.Own why)) old new = MeetsOpen tells files counts why l old new

-- what a line of an open session does: where nothing was met before, it ends so, and the session is open on
pub record OpenDoes {D : Type 0} {d : Ghosts D} (tells : Type 0) (files : D → Disk) (counts : D → Counts) (l : Line) (result : Result Reply Broken) (old new : OpenView D d) : Type 0 where
  pub ends : EndsOpen tells files counts l result old new
  pub still_open : IsOpenAt tells files counts new

-- What a line of an open session keeps, whatever was met before. The disks tell of what was met, from each backup that the session came from.
pub record KeepsLent {D : Type 0} {d : Ghosts D} (tells : Type 0) (files : D → Disk) (counts : D → Counts) (old new : OpenView D d) : Type 0 where
  pub lends : MayLend tells files counts new.node new.system
  pub lent : new.node ≡ old.node
  pub laid : layout_of new.system ≡ layout_of old.system
  pub placed : node_of new.system.session ≡ node_of old.system.session
  pub comes : (first : Backup D d) → HasCome counts first old.session → HasCome counts first new.session

-- a line that the session's node does
abbrev pub IsOwnLine : Line → Type 0
IsOwnLine (line.Deliver node k) = Unit {0}
IsOwnLine (line.Read node key) = Unit {0}
IsOwnLine (line.Purge node) = Unit {0}
IsOwnLine _ = ⊥

-- what the session's node does for it, with that message
abbrev pub MeetsFor : {D : Type 0} {d : Ghosts D} → Type 0 → (D → Disk) → (D → Counts) → Option (List ℕ) → Line → Result Reply NodeFault → BackupNode D d → Open D d → Open D d → Type 0
MeetsFor tells files counts message (line.Deliver node k) result n old new = node ≡ n.name → MeetsTrails tells files counts (ByMessage message) (line.Deliver node k) result n old new
MeetsFor tells files counts message (line.Read node key) result n old new = node ≡ n.name → MeetsVolume tells files counts key result n old new
MeetsFor tells files counts message (line.Purge node) result n old new = node ≡ n.name → MeetsPurge tells files counts result n old new
MeetsFor tells files counts message _ result n old new = ⊥

abbrev pub MeetsLine : {D : Type 0} {d : Ghosts D} → Type 0 → (D → Disk) → (D → Counts) → Option (List ℕ) → Line → Result Reply NodeFault → Open D d → Open D d → Type 0
MeetsLine {D = D} {d = d} tells files counts message l result old new = old.met ≡ None → (n : BackupNode D d) → NodeMayServe tells files counts (in_open old n) → Runs (in_open old n) → MeetsFor tells files counts message l result n old new
