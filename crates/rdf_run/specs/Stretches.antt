-- What comes of the lines of an open session, behind whatever lines were answered before.
use Rattle.std.specs.Prelude.{◌≡◌, ◌≢◌, ◌⊎◌, ℕ, Bool, true, false, List, [], ◌∷◌, ◌++◌, take, drop, Option, Some, None, Result, Err}
use Rattle.std.specs.List.{AllPass}
use Rattle.rdf_types.specs.declared.layout.Layout.{Layout}
use Rattle.rdf_types.specs.declared.records.Node.{Node}
use Rattle.rdf_disk.specs.Files.{Disk}
use Rattle.rdf_disk.specs.Counts.{Counts}
use Rattle.rdf_disk.specs.declared.disk.Disk.{Ghosts}
use Rattle.rdf_ports.specs.Counts.{Faulted}
use Rattle.plan_lang.specs.declared.lines.Line.{Line}
use Rattle.plan_lang.specs.declared.lines.Line.TheVariants as line
use Rattle.plan_lang.specs.Sessions.{KeepSessions, session_behind}
use Rattle.rdf_core.specs.declared.replies.Reply.{Reply}
use Rattle.rdf_core.specs.declared.replies.Reply.TheVariants.{Done, Number}
use Rattle.rdf_core.specs.Allowed.{has_names}
use Rattle.rdf_core.specs.State.{State}
use Rattle.rdf_monitor.specs.declared.fault.AnswerFault.TheVariants as answer
use Rattle.rdf_monitor.specs.Output.{Output}
use Rattle.node_faults.specs.declared.NodeFault.{NodeFault}
use Rattle.rdf_system.specs.declared.system.System.{System}
use Rattle.rdf_system.specs.Closing.{BeginsIn, HasClosed, IsUnbegunIn}
use Rattle.rdf_system.specs.Opened.{OpenView, shown, IsOpenAt, IsFedAt}
use Rattle.rdf_system.specs.OpenLines.{AnswersOpen, EndsOpen}
use Rattle.rdf_system.specs.Stances.{StandsAs}
use Rattle.rdf_system.specs.States.{disk_of, layout_of, IsAtState}
use Rattle.rdf_run.specs.Going.{Completes, StopsAt}
use Rattle.rdf_run.specs.Returned.{NoneFailed}
use Rattle.rdf_run.specs.declared.session_lines.Met.{Met}
use Rattle.rdf_run.specs.declared.session_lines.Met.TheVariants as met

abbrev pub is_end : Line → Bool
is_end line.End = true
is_end _ = false

-- lines that may stand in a session of the node, up to its end
pub record AreInSession (layout : Layout) (node : Node) (lines : List Line) : Type 0 where
  pub names : AllPass (has_names layout) lines
  pub sessions : KeepSessions (Some node) lines

-- the session shows the system at that state, and its updaters are fed with the trail of it
abbrev pub IsShownAt : {D : Type 0} {d : Ghosts D} → (D → Disk) → Layout → OpenView D d → State → Type 0
IsShownAt files layout x s = IsAtState files layout s (shown x) × IsFedAt s x

-- whatever was answered before, these lines were answered too, and their replies are out
abbrev pub CompletesMore : {D O : Type 0} {d : Ghosts D} → (O → O → Output) → Type 0 → (D → Disk) → (D → Counts) → List Line → O → O → OpenView D d → OpenView D d → Type 0
CompletesMore {D = D} {O = O} given tells files counts lines out now_out old new = (layout : Layout) (from : O) (before : List Line) (start : Node → ℕ → Option D) → layout_of old.system ≡ layout →
    Completes (given from out) tells counts layout before start (disk_of (shown old)) (IsShownAt files layout old) (StandsAs (shown old)) →
    Completes (given from now_out) tells counts layout (before ++ lines) start (disk_of (shown new)) (IsShownAt files layout new) (StandsAs (shown new))

-- whatever was answered before, these lines were answered too, and behind them that one, of whose reply a first part is out
abbrev pub StopsMore : {D O : Type 0} {d : Ghosts D} → (O → O → Output) → Type 0 → (D → Disk) → (D → Counts) → List Line → Line → O → O → OpenView D d → OpenView D d → Type 0
StopsMore {D = D} {O = O} given tells files counts lines l out now_out old new = (layout : Layout) (from : O) (before : List Line) (start : Node → ℕ → Option D) → layout_of old.system ≡ layout →
    Completes (given from out) tells counts layout before start (disk_of (shown old)) (IsShownAt files layout old) (StandsAs (shown old)) →
    StopsAt (given from now_out) tells counts layout (before ++ lines) l start (disk_of (shown new)) (IsShownAt files layout new)

-- the session is open on: nothing was met, and no disk failed
pub record IsOpenOn {D : Type 0} {d : Ghosts D} (tells : Type 0) (files : D → Disk) (counts : D → Counts) (old new : OpenView D d) : Type 0 where
  pub is_open : IsOpenAt tells files counts new
  pub unmet : new.session.met ≡ None
  pub laid : layout_of new.system ≡ layout_of old.system
  pub lent : new.node ≡ old.node
  pub disks : NoneFailed counts (disk_of (shown old)) (disk_of (shown new))

-- there is a line, of which that holds
abbrev pub NextIs : (Line → Type 0) → List Line → Type 0
NextIs P [] = ⊥
NextIs P (l ∷ lines) = P l

-- the line was answered, and there was no memory for the text of its reply
pub record IsUnsaid {D : Type 0} {d : Ghosts D} (tells : Type 0) (files : D → Disk) (counts : D → Counts) (l : Line) (old new : OpenView D d) : Type 0 where
  pub reply : Reply
  pub answers : AnswersOpen tells files counts l reply old new
  pub unended : l ≢ line.End
  pub undone : reply ≢ Done
  pub unnumbered : (n : ℕ) → reply ≢ Number n

-- the line was answered, and its reply was not written whole
pub record IsAnsweredLast {D : Type 0} {d : Ghosts D} (tells : Type 0) (files : D → Disk) (counts : D → Counts) (l : Line) (old new : OpenView D d) : Type 0 where
  pub reply : Reply
  pub answers : AnswersOpen tells files counts l reply old new
  pub unended : l ≢ line.End

-- how the line behind those that were answered ended the lines of the session
abbrev pub EndsStretch : {D O : Type 0} {d : Ghosts D} → (O → O → Output) → Type 0 → (D → Disk) → (D → Counts) → Met → List Line → Line → O → O → OpenView D d → OpenView D d → OpenView D d → Type 0
EndsStretch given tells files counts met.End lines l out now_out opened before closed = CompletesMore given tells files counts lines out now_out opened closed × (l ≡ line.End) × (closed ≡ before)
EndsStretch given tells files counts (met.Broken why) lines l out now_out opened before closed = CompletesMore given tells files counts lines out now_out opened before × (l ≢ line.End) × EndsOpen tells files counts l (Err why) before closed
EndsStretch given tells files counts (met.Unwritten answer.Write) lines l out now_out opened before closed = StopsMore given tells files counts lines l out now_out opened closed × IsAnsweredLast tells files counts l before closed
EndsStretch given tells files counts (met.Unwritten answer.NoMemory) lines l out now_out opened before closed = CompletesMore given tells files counts lines out now_out opened before × IsUnsaid tells files counts l before closed
EndsStretch given tells files counts met.Unbegun lines l out now_out opened before closed = ⊥

-- the sink failed just where a reply was not written whole
abbrev pub SinkMet : Met → ℕ → ℕ → Type 0
SinkMet (met.Unwritten answer.Write) old new = Faulted old new
SinkMet _ old new = new ≡ old

-- so many lines of the session were answered, and the next one ended it so
pub record Drove {D O : Type 0} {d : Ghosts D} (given : O → O → Output) (faults : O → ℕ) (tells : Type 0) (files : D → Disk) (counts : D → Counts) (lines : List Line) (answered : ℕ) (met : Met) (out now_out : O) (opened closed : OpenView D d) : Type 0 where
  pub before : OpenView D d
  pub still_open : IsOpenAt tells files counts closed
  pub goes : IsOpenOn tells files counts opened before
  pub kept : session_behind (Some opened.node.name) (take answered lines) ≡ Some opened.node.name
  pub next : NextIs (λ l. EndsStretch given tells files counts met (take answered lines) l out now_out opened before closed) (drop answered lines)
  pub sink : SinkMet met (faults out) (faults now_out)

-- the lines were driven in a session of the node that was then closed, and this was told
pub record HasDriven {D O : Type 0} {d : Ghosts D} (given : O → O → Output) (faults : O → ℕ) (tells : Type 0) (files : D → Disk) (counts : D → Counts) (node : Node) (lines : List Line) (answered : ℕ) (met : Met) (told : Result Reply NodeFault) (out now_out : O) (old new : System D d) : Type 0 where
  pub opened : OpenView D d
  pub closed : OpenView D d
  pub begins : BeginsIn tells files counts old opened
  pub named : closed.node.name ≡ node
  pub lent : closed.node ≡ opened.node
  pub drove : Drove given faults tells files counts lines answered met out now_out opened closed
  pub closes : HasClosed tells files counts closed told new

-- no session was begun
pub record IsNotBegun {D O : Type 0} {d : Ghosts D} (tells : Type 0) (files : D → Disk) (counts : D → Counts) (answered : ℕ) (ended : Met) (out now_out : O) (old new : System D d) : Type 0 where
  pub met_is : ended ≡ met.Unbegun
  pub none : answered ≡ 0
  pub out_is : now_out ≡ out
  pub unbegun : IsUnbegunIn tells files counts old new

-- what came of lines that were to be driven in a session
abbrev pub ComesOfSession : {D O : Type 0} {d : Ghosts D} → (O → O → Output) → (O → ℕ) → Type 0 → (D → Disk) → (D → Counts) → Node → List Line → ℕ → Met → Result Reply NodeFault → O → O → System D d → System D d → Type 0
ComesOfSession given faults tells files counts node lines answered met told out now_out old new =
    HasDriven given faults tells files counts node lines answered met told out now_out old new ⊎ IsNotBegun tells files counts answered met out now_out old new
