-- How lines end on a backup, and what they leave.
use Rattle.std.specs.Prelude.{◌≡◌, ℕ, ◌≤◌, ◌==◌, if◌then◌else◌, List, [], ◌∷◌, length, get_or, slice_get, Option, Some, None, Result, Ok, Err}
use Rattle.std.specs.Int.{w64, from_be_bytes}
use Rattle.rdf_types.specs.declared.layout.Layout.{Layout}
use Rattle.rdf_types.specs.declared.records.Record.{Record}
use Rattle.rdf_disk.specs.Files.{Disk, Contents}
use Rattle.rdf_disk.specs.Outcomes.{Durably}
use Rattle.rdf_disk.specs.Counts.{Counts, Causes, fused}
use Rattle.rdf_disk.specs.declared.disk.Disk.{Ghosts}
use Rattle.rdf_codec.specs.declared.ships.Ship.{Ship}
use Rattle.plan_lang.specs.declared.lines.Line.{Line}
use Rattle.node_faults.specs.declared.NodeFault.{NodeFault}
use Rattle.node_faults.specs.Faults.{ending_for}
use Rattle.image_disks.specs.Held.{IsPartOf}
use Rattle.image_disks.specs.Values.{Value, received}
use Rattle.image_trails.specs.Memory.{plan_of, shipment}
use Rattle.rdf_types.specs.declared.records.Phase.{Phase}
use Rattle.rdf_types.specs.declared.records.Phase.TheVariants as phase
use Rattle.rdf_core.specs.declared.replies.NoWhy.{NoWhy}
use Rattle.rdf_core.specs.declared.replies.NoWhy.TheVariants as no
use Rattle.rdf_core.specs.declared.replies.Reply.{Reply}
use Rattle.rdf_core.specs.declared.replies.Reply.TheVariants.{Number}
use Rattle.image_trails.specs.declared.trails.ImageTrails.{ImageTrails}
use Rattle.image_trails.specs.Trails.{trails_disk}
use Rattle.rdf_core.specs.PartLaws.{Every}
use Rattle.rdf_core.specs.Sound.{IsSound}
use Rattle.rdf_core.specs.Effects.{IsDone, after_parts, parts_unless}
use Rattle.rdf_core.specs.Backup.{Backup as State, Around, backup_refusal, backup_parts, backup_after, backup_says, backup_fallen}
use Rattle.rdf_backup.specs.declared.backup.Backup.{Backup}
use Rattle.rdf_backup.specs.States.{layout_of, state_of, disks_in, Serves, Stands}
use Rattle.rdf_backup.specs.Standing.{SomeStandsFor, TrailsStandFor}

-- the number in the eight bytes behind the first one
abbrev pub eight_behind : List ℕ → ℕ
eight_behind bytes = from_be_bytes w64 (get_or bytes 1 0 ∷ get_or bytes 2 0 ∷ get_or bytes 3 0 ∷ get_or bytes 4 0 ∷ get_or bytes 5 0 ∷ get_or bytes 6 0 ∷ get_or bytes 7 0 ∷ get_or bytes 8 0 ∷ [])

-- the message that the line names is this shipment, which is the trail's part on its range
pub record Brings (layout : Layout) (w : Around) (ship : Ship) : Type 0 where
  pub range : w.message ≡ Some (ship.from, ship.to)
  pub part : IsPartOf (plan_of layout) w.trail (shipment ship)

-- the line is refused and changes nothing, or it is done
abbrev pub Answers : {D : Type 0} {d : Ghosts D} → Around → Line → Reply → Backup D d → Backup D d → Type 0
Answers w l reply old new = (stops : ℕ) →
    IsDone (backup_refusal (layout_of old) w (state_of stops old) l) (λ _. state_of stops old) (backup_after (layout_of old) w (state_of stops old) l) (backup_says (layout_of old) w (state_of stops old) l) reply (state_of stops new)

-- the durable parts of the line, none where it is refused
abbrev pub parts_of : Layout → Around → State → Line → List State
parts_of layout w b l = parts_unless (backup_refusal layout w b l) (backup_parts layout w b l)

-- nothing refuses the line, and whatever stops leave of the disks stands for what some first ones of its durable parts leave; the backup is down
pub record Breaks {D : Type 0} {d : Ghosts D} (files : D → Disk) (w : Around) (l : Line) (old new : Backup D d) : Type 0 where
  pub unrefused : (stops : ℕ) → backup_refusal (layout_of old) w (state_of stops old) l ≡ None
  pub stands : (stops rise : ℕ) → SomeStandsFor files (layout_of old) w.trail (length (parts_of (layout_of old) w (state_of stops old) l))
      (λ n. backup_fallen rise (after_parts (state_of stops old) (parts_of (layout_of old) w (state_of stops old) l) n)) (disks_in new)

-- the contents of disk 0 stand for what so many first ones of the parts leave
abbrev pub TellsSome : Layout → List Record → State → List State → ℕ → Contents → Type 0
TellsSome layout trail b parts rise c = (n : ℕ) × ((n ≤ length parts) × TrailsStandFor layout trail (backup_fallen rise (after_parts b parts n)) c)

-- Nothing refuses the line, which leaves the volumes, and whatever stops leave of the image trails' disk stands for what some first ones of its durable parts leave.
pub record BreaksTrails {D : Type 0} {d : Ghosts D} (files : D → Disk) (w : Around) (l : Line) (shown : Backup D d) (disk : D) : Type 0 where
  pub unrefused : (stops : ℕ) → backup_refusal (layout_of shown) w (state_of stops shown) l ≡ None
  pub keep : (stops : ℕ) → Every (λ x. (x.volumes ≡ (state_of stops shown).volumes) × IsSound (layout_of shown) w.trail x) (parts_of (layout_of shown) w (state_of stops shown) l)
  pub stands : (stops rise : ℕ) → Durably (files disk) (TellsSome (layout_of shown) w.trail (state_of stops shown) (parts_of (layout_of shown) w (state_of stops shown) l) rise)

-- a line that is done, or is refused: its answer, and that the backup serves on, and its disks stand for it
pub record Goes {D : Type 0} {d : Ghosts D} (files : D → Disk) (w : Around) (l : Line) (reply : Reply) (old new : Backup D d) : Type 0 where
  pub answers : Answers w l reply old new
  pub laid : layout_of new ≡ layout_of old
  pub serves : Serves files w.trail new
  pub stands : Stands files w.trail new

-- what the image trails tell has come to a position, and tells of the same phase
pub record HasMoved (to : ℕ) (old new : Value) : Type 0 where
  pub received_is : received new ≡ to
  pub phase_is : new.phase ≡ old.phase

-- how a line ends that works the image trails and the open transactions of a backup alone: with these it is done, whatever backup has them, or it is broken off
abbrev pub EndsTrails : {D : Type 0} {d : Ghosts D} → (D → Disk) → Around → Line → Result ℕ NodeFault → Backup D d → ImageTrails D → List (ℕ × ℕ) → Type 0
EndsTrails {D = D} {d = d} files w l (Ok n) old trails txns = (new : Backup D d) → new.trails ≡ trails → new.txns ≡ txns → new.volumes ≡ old.volumes → Goes files w l (Number n) old new
EndsTrails files w l (Err why) old trails txns = BreaksTrails files w l old (trails_disk trails)

-- how a line ends
abbrev pub Ends : {D : Type 0} {d : Ghosts D} → (D → Disk) → Around → Line → Result Reply NodeFault → Backup D d → Backup D d → Type 0
Ends files w l (Ok reply) old new = Goes files w l reply old new
Ends files w l (Err fault) old new = Breaks files w l old new

-- both are there and are so related, or none is
abbrev pub IfBoth : {X : Type 0} → (X → X → Type 0) → Option X → Option X → Type 0
IfBoth R None None = Unit {0}
IfBoth R None (Some y) = ⊥
IfBoth R (Some x) None = ⊥
IfBoth R (Some x) (Some y) = R x y

-- a fault of a disk has its cause in the counts of that disk, and the counts of each other disk stay; as many disks are there as before
abbrev pub CausedBy : {D T : Type 0} {d : Ghosts D} → (D → Counts) → Result T NodeFault → Backup D d → Backup D d → Type 0
CausedBy counts result old new = (i : ℕ) → IfBoth (λ x y. Causes (ending_for i result) (counts x) (counts y)) (slice_get (disks_in old) i) (slice_get (disks_in new) i)

-- one disk was given a fuse, and the counts of each other disk stay
abbrev pub FusedAt : {D : Type 0} {d : Ghosts D} → (D → Counts) → ℕ → Backup D d → Backup D d → Type 0
FusedAt counts disk old new = (i : ℕ) → IfBoth (λ x y. counts y ≡ (if i == disk then fused (counts x) else counts x)) (slice_get (disks_in old) i) (slice_get (disks_in new) i)

-- why a backup of that phase takes no deliveries
abbrev pub not_running : Phase → Option NoWhy
not_running phase.Running = None
not_running phase.Taking = Some no.Taking
not_running (phase.Taken upto) = Some no.Taken
