-- One step of the system, with all that may happen in it.
use Rattle.std.specs.Prelude.{◌≡◌, ℕ, ◌+◌, ◌≤◌, max, Bool, true, false, List, length, slice_set, Option, Some, None, IsTrue}
use Rattle.rdf_types.specs.declared.layout.Layout.{Layout}
use Rattle.rdf_types.specs.declared.records.Node.{Node}
use Rattle.rdf_types.specs.declared.records.Node.TheVariants.{A}
use Rattle.rdf_types.specs.declared.records.Record.{Record}
use Rattle.plan_lang.specs.declared.lines.Line.{Line}
use Rattle.plan_lang.specs.declared.lines.Line.TheVariants as line
use Rattle.by_node.specs.Each.{at}
use Rattle.rdf_core.specs.declared.replies.Reply.{Reply}
use Rattle.rdf_core.specs.Effects.{Ends, count_u64}
use Rattle.rdf_core.specs.Layouts.{protects, point_of}
use Rattle.rdf_core.specs.Primary.{Primary, primary_refusal, primary_parts, primary_after, primary_says, primary_fallen}
use Rattle.rdf_core.specs.Backup.{Backup, Volumes, Running, Taking, Taken, Around, points_in, backup_refusal, backup_parts, backup_after, backup_says, backup_fallen}
use Rattle.rdf_core.specs.Sessions.{Session, Closed, Refused, Open, Opened, has_halted, is_backup_node, with_halt}
use Rattle.plan_lang.specs.LineText.{same_node}
use Rattle.rdf_core.specs.State.{State, with_backup, with_session, fallen}
use Rattle.rdf_core.specs.Lines.{refusal, kept, parts, after, says}
use Rattle.rdf_core.specs.Allowed.{allowed}

-- the present restart points of a backup
abbrev pub points_now : Layout → State → Node → List ℕ
points_now layout s node = points_in layout s.primary.trail (at s.backups node).volumes

-- for each protected volume a number from the greater of its point at the `session` line and the last one read, up to the present one
pub record AreLearned (layout : Layout) (o : Opened) (now points : List ℕ) : Type 0 where
  pub whole : length points ≡ length now
  pub low : (v : ℕ) → IsTrue (protects layout v) → max (point_of o.began v) (point_of o.seen v) ≤ point_of points v
  pub high : (v : ℕ) → IsTrue (protects layout v) → point_of points v ≤ point_of now v

-- in a session the volumes run, and their points are known as they were learned
abbrev pub MayLearn : Layout → List Record → Opened → Volumes → List ℕ → Type 0
MayLearn layout trail o (Running now) points = AreLearned layout o now points
MayLearn layout trail o Taking points = points ≡ points_in layout trail Taking
MayLearn layout trail o (Taken upto) points = points ≡ points_in layout trail (Taken upto)

-- the same, where the session is the node's or not
abbrev pub MayUseOf : Layout → List Record → Bool → Opened → Volumes → List ℕ → Type 0
MayUseOf layout trail true o volumes points = MayLearn layout trail o volumes points
MayUseOf layout trail false o volumes points = points ≡ points_in layout trail volumes

-- outside a session of the node the present points are known
abbrev pub MayUse : Layout → List Record → Session → Node → Volumes → List ℕ → Type 0
MayUse layout trail Closed node volumes points = points ≡ points_in layout trail volumes
MayUse layout trail (Refused of why) node volumes points = points ≡ points_in layout trail volumes
MayUse layout trail (Open o) node volumes points = MayUseOf layout trail (same_node o.node node) o volumes points

-- the restart points that a line may go by: only a purge needs them
abbrev pub Goes : Layout → State → Line → List ℕ → Type 0
Goes layout s (line.Purge node) points = MayUse layout s.primary.trail s.session node (at s.backups node).volumes points
Goes layout s _ points = Unit {0}

-- the node whose disk may stop in the line
abbrev pub disks_of : Line → Option Node
disks_of (line.Insert t k value) = Some A
disks_of (line.Update t k value) = Some A
disks_of (line.Delete t k) = Some A
disks_of (line.Get t k) = Some A
disks_of (line.Commit t) = Some A
disks_of (line.Abort t) = Some A
disks_of (line.Deliver node k) = Some node
disks_of (line.Purge node) = Some node
disks_of (line.List node vol) = Some node
disks_of (line.Takeover node) = Some node
disks_of (line.CopyAudit node from) = Some node
disks_of (line.Restart node) = Some node
disks_of _ = None

-- in a session of its node the line still uses disk 0 of it
abbrev pub is_of_session : Line → Bool
is_of_session (line.Deliver node k) = true
is_of_session (line.Purge node) = true
is_of_session _ = false

-- the same of one part alone: what the node that has it is to do

-- a line on the primary
abbrev pub PrimaryStep : Layout → Primary → Line → Reply → Primary → Type 0
PrimaryStep layout old l reply new =
    Ends (disks_of l) (λ node. primary_fallen) old (primary_refusal layout old l) (λ why. old) (primary_parts old l) (primary_after old l) (primary_says old l) reply new

-- a line on a backup
abbrev pub BackupStep : Layout → Around → Backup → Line → Reply → Backup → Type 0
BackupStep layout w old l reply new =
    Ends (disks_of l) (λ node. backup_fallen) old (backup_refusal layout w old l) (λ why. old) (backup_parts layout w old l) (backup_after layout w old l) (backup_says layout w old l) reply new

-- the line changes the primary alone
abbrev pub is_for_primary : Line → Bool
is_for_primary (line.Begin t) = true
is_for_primary (line.Insert t k value) = true
is_for_primary (line.Update t k value) = true
is_for_primary (line.Delete t k) = true
is_for_primary (line.Get t k) = true
is_for_primary (line.Commit t) = true
is_for_primary (line.Abort t) = true
is_for_primary line.Lose = true
is_for_primary (line.List A vol) = true
is_for_primary (line.Status A) = true
is_for_primary (line.Fuse A disk calls tear) = true
is_for_primary (line.Cut A) = true
is_for_primary _ = false

-- the line changes this backup alone
abbrev pub is_for_backup : Node → Line → Bool
is_for_backup of (line.Deliver node k) = same_node of node
is_for_backup of (line.Purge node) = same_node of node
is_for_backup of (line.Takeover node) = same_node of node
is_for_backup of (line.CopyAudit node from) = same_node of node
is_for_backup of (line.List node vol) = same_node of node
is_for_backup of (line.Info node) = same_node of node
is_for_backup of (line.Status node) = same_node of node
is_for_backup of (line.Fuse node disk calls tear) = same_node of node
is_for_backup of (line.Cut node) = same_node of node
is_for_backup of (line.Restart node) = same_node of node
is_for_backup of _ = false

-- a line on the whole, by restart points that it may go by
abbrev pub StepEnds : Layout → State → Line → Reply → State → Type 0
StepEnds layout old l reply new = (points : List ℕ) × Goes layout old l points
    × Ends (disks_of l) fallen old (refusal layout old l) (kept old l) (parts layout points old l) (after layout points old l) (says layout points old l) reply new

-- a plan may have the line here, and it ends so
abbrev pub Step : Layout → State → Line → Reply → State → Type 0
Step layout old l reply new = IsTrue (allowed layout old.session l) × StepEnds layout old l reply new

-- a volume of the open session moves up to a position, or its disk stops

-- a volume that runs stands at the position
abbrev pub with_point : Volumes → ℕ → ℕ → Volumes
with_point (Running points) vol upto = Running (slice_set points vol upto)
with_point Taking vol upto = Taking
with_point (Taken s) vol upto = Taken s

-- the backup after that
abbrev pub moved_backup : Backup → ℕ → ℕ → Backup
moved_backup b vol upto = record b { volumes = with_point b.volumes vol upto }

-- the backup after so many stops of a volume's disk
abbrev pub halted_backup : ℕ → Backup → Backup
halted_backup rise b = record b { stops = count_u64 (b.stops + rise) }

-- an updater may bring its volume up to the position
pub record MayApply (layout : Layout) (s : State) (o : Opened) (vol upto : ℕ) : Type 0 where
  pub protected : IsTrue (protects layout vol)
  pub runs : has_halted o vol ≡ false
  pub rises : point_of (points_now layout s o.node) vol ≤ upto
  pub within : upto ≤ (at s.backups o.node).received

-- in a session that serves
abbrev pub CanApply : Layout → State → Session → ℕ → ℕ → Type 0
CanApply layout s Closed vol upto = ⊥
CanApply layout s (Refused of why) vol upto = ⊥
CanApply layout s (Open o) vol upto = MayApply layout s o vol upto

-- the disk of one of its volumes may stop, in a session of a backup
abbrev pub CanHalt : Layout → Session → ℕ → Type 0
CanHalt layout Closed vol = ⊥
CanHalt layout (Refused of why) vol = ⊥
CanHalt layout (Open o) vol = IsTrue (protects layout vol) × (has_halted o vol ≡ false) × (is_backup_node o.node ≡ true)

-- the state after the one
abbrev pub after_apply : State → Session → ℕ → ℕ → State
after_apply s Closed vol upto = s
after_apply s (Refused of why) vol upto = s
after_apply s (Open o) vol upto = with_backup s o.node (moved_backup (at s.backups o.node) vol upto)

-- and after so many stops of the other
abbrev pub after_halt : ℕ → State → Session → ℕ → State
after_halt rise s Closed vol = s
after_halt rise s (Refused of why) vol = s
after_halt rise s (Open o) vol = with_session (with_backup s o.node (halted_backup rise (at s.backups o.node))) (Open (with_halt o vol))
