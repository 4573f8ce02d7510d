-- What a line is answered for how the nodes stand, whatever their disks tell, and how lines move that.
use Rattle.std.specs.Prelude.{◌≡◌, Bool, true, false, not, [], ◌∷◌, if◌then◌else◌, is_some, Option, Some, None, Result, IfOk}
use Rattle.rdf_types.specs.declared.layout.Layout.{Layout}
use Rattle.rdf_types.specs.declared.records.Node.{Node}
use Rattle.rdf_types.specs.declared.records.Node.TheVariants.{A, B, C}
use Rattle.rdf_types.specs.declared.records.Phase.{Phase}
use Rattle.rdf_types.specs.declared.records.Phase.TheVariants.{Running, Taking, Taken}
use Rattle.rdf_disk.specs.declared.disk.Disk.{Ghosts}
use Rattle.by_node.specs.Each.{Each, at, map_each}
use Rattle.plan_lang.specs.declared.lines.Line.{Line}
use Rattle.plan_lang.specs.declared.lines.Line.TheVariants as line
use Rattle.rdf_core.specs.declared.events.Standing.{Standing}
use Rattle.rdf_core.specs.declared.events.Standing.TheVariants.{Up, Down, Lost}
use Rattle.rdf_core.specs.declared.replies.NoWhy.{NoWhy}
use Rattle.rdf_core.specs.declared.replies.NoWhy.TheVariants as no
use Rattle.rdf_core.specs.declared.replies.Reply.{Reply}
use Rattle.rdf_core.specs.declared.replies.Reply.TheVariants.{PrimaryUp, BackupUp, NodeDown, NodeLost, No}
use Rattle.rdf_core.specs.Allowed.{is_backup}
use Rattle.rdf_core.specs.Effects.{when, first}
use Rattle.rdf_core.specs.Primary.{is_lost, is_up}
use Rattle.rdf_backup.specs.Copying.{not_taken}
use Rattle.rdf_backup.specs.Replies.{not_running}
use Rattle.primary_node.specs.Moves.{standing_at}
use Rattle.backup_node.specs.Kinds.{IsSaid}
use Rattle.rdf_system.specs.declared.fault.StepFault.{StepFault}
use Rattle.rdf_system.specs.declared.session.SessionState.{SessionState}
use Rattle.rdf_system.specs.declared.session.SessionState.TheVariants as system
use Rattle.rdf_system.specs.declared.system.System.{System}
use Rattle.rdf_system.specs.Moves.{phase_in, primary_behind, MovesAt}
use Rattle.rdf_system.specs.Noting.{behind}
use Rattle.rdf_system.specs.Sessions.{why_of}

-- ---- how the nodes stand

-- how the primary's node stands, the phase of each backup that is up, and the open session
pub record Stances : Type 0 where
  pub primary : Standing
  pub phases : Each (Option Phase)
  pub session : SessionState

-- why the open session was refused, where it was
abbrev pub bar_in : SessionState → Option NoWhy
bar_in system.Closed = None
bar_in (system.Refused node bar) = Some (why_of bar)
bar_in (system.Open node stopped) = None

abbrev pub stances_of : {D : Type 0} {d : Ghosts D} → System D d → Stances
stances_of sys = record { primary = standing_at sys.primary; phases = map_each (λ site. phase_in site.node) sys.sites; session = sys.session }

-- the phase of a backup of a new system: it runs, where the layout has it
abbrev pub fresh_at : Layout → Node → Option Phase
fresh_at layout node = if is_backup layout node then Some Running else None

-- the nodes of a new system: all of them are up, and each backup runs
abbrev pub fresh : Layout → Stances
fresh layout = record { primary = Up; phases = record { a = fresh_at layout A; b = fresh_at layout B; c = fresh_at layout C }; session = system.Closed }

-- the phase of the backup of a session that was not refused: it runs until a disk of it stopped, and is down from then on
abbrev pub phase_while : Bool → Option Phase
phase_while false = Some Running
phase_while true = None

-- so it stands in the session that is open
abbrev pub IsHeldBy : Each (Option Phase) → SessionState → Type 0
IsHeldBy phases (system.Open of stopped) = at phases of ≡ phase_while stopped
IsHeldBy phases _ = Unit {0}

abbrev pub IsHeld : Stances → Type 0
IsHeld s = IsHeldBy s.phases s.session

-- ---- what is refused for that

-- why a primary that is not up refuses a line that needs it up
abbrev pub off_by : Standing → Option NoWhy
off_by Up = None
off_by Down = Some no.Down
off_by Lost = Some no.Lost

-- why a backup refuses a line that needs it up; up and not in the midst of a takeover; running; or taken over
abbrev pub down_by : Option Phase → Option NoWhy
down_by None = Some no.Down
down_by (Some phase) = None

abbrev pub taking_by : Option Phase → Option NoWhy
taking_by None = Some no.Down
taking_by (Some Running) = None
taking_by (Some Taking) = Some no.Taking
taking_by (Some (Taken upto)) = None

abbrev pub running_by : Option Phase → Option NoWhy
running_by None = Some no.Down
running_by (Some phase) = not_running phase

abbrev pub taken_by : Option Phase → Option NoWhy
taken_by None = Some no.Down
taken_by (Some phase) = not_taken phase

-- the refusal that a line gets for how the nodes stand, as its row has it; any other stands behind these
abbrev pub refusal_for : Stances → Line → Option NoWhy
refusal_for s line.Lose = when (is_lost s.primary) no.Lost
refusal_for s (line.List A vol) = off_by s.primary
refusal_for s (line.List node vol) = taking_by (at s.phases node)
refusal_for s (line.Status node) = None
refusal_for s (line.Fuse A disk calls tear) = when (is_lost s.primary) no.Lost
refusal_for s (line.Fuse node disk calls tear) = None
refusal_for s (line.Cut A) = off_by s.primary
refusal_for s (line.Cut node) = down_by (at s.phases node)
refusal_for s (line.Restart A) = first (when (is_lost s.primary) no.Lost ∷ when (is_up s.primary) no.Up ∷ [])
refusal_for s (line.Restart node) = when (is_some (at s.phases node)) no.Up
refusal_for s (line.Ack node) = first (off_by s.primary ∷ down_by (at s.phases node) ∷ [])
refusal_for s (line.Deliver node k) = running_by (at s.phases node)
refusal_for s (line.Takeover node) = first (down_by (at s.phases node) ∷ when (not (is_lost s.primary)) no.PrimaryUp ∷ [])
refusal_for s (line.Purge node) = taking_by (at s.phases node)
refusal_for s (line.Info node) = taking_by (at s.phases node)
refusal_for s (line.CopyAudit node from) = first (down_by (at s.phases node) ∷ down_by (at s.phases from) ∷ taken_by (at s.phases node) ∷ taken_by (at s.phases from) ∷ [])
refusal_for s (line.Session node) = running_by (at s.phases node)
refusal_for s (line.Read node key) = first (down_by (at s.phases node) ∷ bar_in s.session ∷ [])
refusal_for s line.End = bar_in s.session
refusal_for s _ = off_by s.primary

-- a refusal for how a node stands
abbrev pub is_by_stance : NoWhy → Bool
is_by_stance no.Lost = true
is_by_stance no.Down = true
is_by_stance no.Up = true
is_by_stance no.PrimaryUp = true
is_by_stance no.Running = true
is_by_stance no.Taking = true
is_by_stance no.Taken = true
is_by_stance _ = false

-- the reply is no refusal for that
abbrev pub IsUnbarred : Reply → Type 0
IsUnbarred (No why) = is_by_stance why ≡ false
IsUnbarred _ = Unit {0}

-- the reply to `status` tells how the primary's node stands, or a backup's
abbrev pub TellsStanding : Standing → Reply → Type 0
TellsStanding Up (PrimaryUp len active) = Unit {0}
TellsStanding Down NodeDown = Unit {0}
TellsStanding Lost NodeLost = Unit {0}
TellsStanding _ _ = ⊥

abbrev pub TellsPhase : Option Phase → Reply → Type 0
TellsPhase (Some phase) (BackupUp told received kept generations unended) = told ≡ phase
TellsPhase None NodeDown = Unit {0}
TellsPhase _ _ = ⊥

-- what is said of a reply to a line that is not refused for how the nodes stand: it is no such refusal, and `status` tells how its node stands
abbrev pub IsFree : Stances → Line → Reply → Type 0
IsFree s (line.Status A) reply = TellsStanding s.primary reply
IsFree s (line.Status node) reply = TellsPhase (at s.phases node) reply
IsFree s l reply = IsUnbarred reply

-- a line gets the refusal that it has for how the nodes stand, and where it has none this is said of its reply
abbrev pub IsJudgedBy : Stances → Line → Reply → Type 0
IsJudgedBy s l reply = IsSaid (refusal_for s l) (IsFree s l) reply

-- ---- how lines move that

-- so a line with that reply moved the nodes
pub record MovesTo (layout : Layout) (l : Line) (reply : Reply) (old new : Stances) : Type 0 where
  pub primary : new.primary ≡ primary_behind l reply old.primary
  pub phases : (name : Node) → is_backup layout name ≡ true → MovesAt name l reply (at old.phases name) (at new.phases name)
  pub session : new.session ≡ behind old.session l reply

-- what a line was answered is so for how the nodes of that system stood
abbrev pub IsJudged : {D : Type 0} {d : Ghosts D} → Line → Result Reply StepFault → System D d → Type 0
IsJudged l result old = IfOk result (λ reply. IsJudgedBy (stances_of old) l reply)

-- and so a line that was answered moved them
abbrev pub IsMoved : {D : Type 0} {d : Ghosts D} → Line → Result Reply StepFault → System D d → System D d → Type 0
IsMoved l result old new = IfOk result (λ reply. MovesTo old.layout l reply (stances_of old) (stances_of new))

-- the nodes of that system stand so
abbrev pub StandsAs : {D : Type 0} {d : Ghosts D} → System D d → Stances → Type 0
StandsAs sys s = s ≡ stances_of sys
