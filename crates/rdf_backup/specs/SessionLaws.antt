-- Laws of sessions that ended by a fault: what their disks stand for then.
use Rattle.std.specs.Prelude.{◌≡◌, ℕ, suc, ◌≤◌, true, List, length, None, Result, IfErr}
use Rattle.rdf_types.specs.declared.layout.Layout.{Layout}
use Rattle.rdf_types.specs.declared.records.Record.{Record}
use Rattle.rdf_disk.specs.Files.{Disk, Contents}
use Rattle.rdf_disk.specs.Counts.{Counts}
use Rattle.rdf_disk.specs.declared.disk.Disk.{Ghosts}
use Rattle.plan_lang.specs.declared.lines.Line.{Line}
use Rattle.plan_lang.specs.declared.lines.Line.TheVariants as line
use Rattle.node_faults.specs.declared.NodeFault.{NodeFault}
use Rattle.rdf_core.specs.declared.replies.Reply.{Reply}
use Rattle.rdf_core.specs.Effects.{after_parts}
use Rattle.rdf_core.specs.Backup.{Backup as State, Around, points_in, backup_refusal, backup_fallen}
use Rattle.rdf_core.specs.Rising.{HasRisen}
use Rattle.rdf_core.specs.Step.{is_of_session}
use Rattle.rdf_backup.specs.declared.backup.Backup.{Backup}
use Rattle.rdf_backup.specs.Replies.{parts_of, BreaksTrails}
use Rattle.rdf_backup.specs.Rising.{SomeRisen}
use Rattle.rdf_backup.specs.Sessions.{Open, LeavesTrails, IsGoing, IsFed, SessionEnds}
use Rattle.rdf_backup.specs.Standing.{MayBe, ContentsStandFor}
use Rattle.rdf_backup.specs.States.{layout_of, state_of, disks_in, Serves}

-- the things around a line, where a purge goes by the present restart points of that backup
abbrev pub around_now : Layout → Around → State → Around
around_now layout w b = record w { points = points_in layout w.trail b.volumes }

-- a purge goes by the restart points of that backup
abbrev pub GoesBy : Layout → Around → State → Line → Type 0
GoesBy layout w b (line.Purge node) = w.points ≡ points_in layout w.trail b.volumes
GoesBy layout w b _ = Unit {0}

-- These contents of disks stand for what so many first ones of a line's durable parts leave of a backup whose volumes had risen before the line, whatever number of stops is counted. Nothing refuses the line there.
pub record AreBrokenAt (layout : Layout) (w : Around) (l : Line) (b : State) (held : ℕ → Contents) : Type 0 where
  pub next : State
  pub rise_is : HasRisen layout b next
  pub unrefused : backup_refusal layout (around_now layout w next) next l ≡ None
  pub done : ℕ
  pub few : done ≤ length (parts_of layout (around_now layout w next) next l)
  pub stands : (rise : ℕ) → ContentsStandFor layout w.trail (backup_fallen rise (after_parts next (parts_of layout (around_now layout w next) next l) done)) held

-- whatever stops leave of the disks stands for the backup with its volumes risen, and with some first ones of the line's durable parts then
pub record SomeBroken {D : Type 0} (files : D → Disk) (layout : Layout) (w : Around) (l : Line) (b : State) (disks : List D) : Type 0 where
  pub count : length disks ≡ suc layout.volumes
  pub some : (held : ℕ → Contents) → MayBe files disks held → AreBrokenAt layout w l b held

-- Where a session ended by a fault and its image trails' disk met nothing, the disks stand for the backup as it was shown, with its volumes risen.
abbrev pub EndsRisen : {D : Type 0} → Ghosts D → Type 0 → (D → Disk) → (D → Counts) → Type 0
EndsRisen {D = D} d tells files counts = (trail : List Record) (closed : Open D d) (end : Result Reply NodeFault) (new : Backup D d) → tells → IsGoing tells files closed → SessionEnds tells files counts closed end new →
    Serves files trail closed.shown → IsFed trail closed → LeavesTrails closed.met → IfErr end (λ why. (stops : ℕ) → SomeRisen files (layout_of closed.shown) trail (state_of stops closed.shown) (disks_in new))

-- Where a delivery or a purge of it was broken off, they stand for that backup with its volumes risen, and with some first ones of the line's durable parts then.
abbrev pub EndsBroken : {D : Type 0} → Ghosts D → Type 0 → (D → Disk) → (D → Counts) → Type 0
EndsBroken {D = D} d tells files counts = (w : Around) (l : Line) (closed : Open D d) (end : Result Reply NodeFault) (new : Backup D d) → tells → IsGoing tells files closed → SessionEnds tells files counts closed end new →
    Serves files w.trail closed.shown → IsFed w.trail closed → is_of_session l ≡ true → GoesBy (layout_of closed.shown) w (state_of 0 closed.shown) l → BreaksTrails files w l closed.shown closed.disk →
    IfErr end (λ why. (stops : ℕ) → SomeBroken files (layout_of closed.shown) w l (state_of stops closed.shown) (disks_in new))
