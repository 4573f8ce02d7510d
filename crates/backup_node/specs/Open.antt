-- An open session on the node that lent its backup to it, and what its lines do there.
use Rattle.std.specs.Prelude.{◌≡◌, ◌<◌, ℕ, List, Some, None, Option, Result, Ok, IfOk, IfErr, IsTrue, MatchOption}
use Rattle.rdf_types.specs.declared.layout.Layout.{Layout}
use Rattle.rdf_types.specs.declared.records.Node.{Node}
use Rattle.rdf_types.specs.declared.records.Phase.TheVariants as phase
use Rattle.rdf_types.specs.declared.records.RecKey.{RecKey}
use Rattle.rdf_types.specs.declared.records.Record.{Record}
use Rattle.rdf_disk.specs.Files.{Disk}
use Rattle.rdf_disk.specs.Counts.{Counts}
use Rattle.rdf_disk.specs.declared.disk.Disk.{Ghosts}
use Rattle.plan_lang.specs.declared.lines.Line.{Line}
use Rattle.plan_lang.specs.declared.lines.Line.TheVariants as line
use Rattle.node_faults.specs.declared.NodeFault.{NodeFault}
use Rattle.rdf_core.specs.declared.replies.Reply.{Reply}
use Rattle.rdf_core.specs.Backup.{Backup as State, Around, points_in}
use Rattle.rdf_core.specs.Layouts.{protects}
use Rattle.rdf_core.specs.Rising.{HasRisen}
use Rattle.rdf_backup.specs.declared.backup.Backup.{Backup}
use Rattle.rdf_backup.specs.declared.session.Met.{Met}
use Rattle.rdf_backup.specs.declared.session.Met.TheVariants as met
use Rattle.rdf_backup.specs.Replies.{BreaksTrails}
use Rattle.rdf_backup.specs.Sessions.{Open, IsFed, IsShut, HasCome, HasMet, HasRisenOpen}
use Rattle.rdf_backup.specs.States.{layout_of, value_of, Serves}
use Rattle.node_disks.specs.Cuts.{Each}
use Rattle.backup_node.specs.declared.node.BackupNode.{BackupNode}
use Rattle.backup_node.specs.Nodes.{disks_at, IsAt, MayServe}
use Rattle.backup_node.specs.Lines.{Follows, PerformsWhere, WithPoints, Names, DoesAt}
use Rattle.backup_node.specs.Rising.{ReadEnds}

-- the node with the backup that the session shows, in the place of the one that it lent
abbrev pub in_open : {D : Type 0} {d : Ghosts D} → Open D d → BackupNode D d → BackupNode D d
in_open o n = record n { backup = Some o.shown }

-- the node is up, and its backup runs
abbrev pub Runs : {D : Type 0} {d : Ghosts D} → BackupNode D d → Type 0
Runs n = MatchOption n.backup ⊥ (λ b. (value_of b).phase ≡ phase.Running)

-- the message that the line names, in any state
abbrev pub ByMessage : Option (List ℕ) → Layout → Around → State → Type 0
ByMessage message layout w b = Names message layout w

-- nothing around the node matters, in any state
abbrev pub Anywhere : Layout → Around → State → Type 0
Anywhere layout w b = Unit {0}

-- a read of the session, from each state that the node was at, over each trail that its updaters are fed with, whatever number of stops is counted
abbrev pub ReadsIn : {D : Type 0} {d : Ghosts D} → (D → Disk) → RecKey → Open D d → Result Reply NodeFault → BackupNode D d → BackupNode D d → Type 0
ReadsIn files key o result old new = (layout : Layout) (trail : List Record) (b : State) (rise : ℕ) → 0 < rise → IsFed trail o → IsAt files layout trail b old → ReadEnds files layout trail key old.name b rise result new

-- What a line leaves of its session, on whatever node: the session goes on where the line was answered; once something was met it does nothing any more, and answers that the node is down. The disks tell of what was met in it, from each backup that it came from, as from the one that it shows.
pub record StaysOpen {D : Type 0} {d : Ghosts D} (counts : D → Counts) (result : Result Reply NodeFault) (old new : Open D d) : Type 0 where
  pub unmet : old.met ≡ None → IfOk result (λ reply. new.met ≡ None)
  pub shut : IsShut result old new
  pub comes : (first : Backup D d) → HasCome counts first old → HasCome counts first new
  pub since : old.met ≡ None → HasCome counts new.shown new

-- What a line of a session does on its node. Where it is answered the node does it as its own line, from the backup that was shown to the one that is; else this was met, and that is left of it. The updaters are fed on.
pub record MeetsAt {D : Type 0} {d : Ghosts D} (tells : Type 0) (files : D → Disk) (counts : D → Counts) (meets : NodeFault → Met) (Holds : Layout → Around → State → Type 0) (Goes : Line → Result Reply NodeFault → BackupNode D d → BackupNode D d → Type 0) (Leaves : Layout → Around → Type 0)
    (l : Line) (result : Result Reply NodeFault) (n : BackupNode D d) (old new : Open D d) : Type 0 where
  pub answered : IfOk result (λ reply. DoesAt tells files counts Goes l (Ok reply) (in_open old n) (in_open new n))
  pub broken : IfErr result (λ why. HasMet counts (meets why) old new)
  pub left : tells → IfErr result (λ why. (layout : Layout) (w : Around) (b : State) → Holds layout w b → IsAt files layout w.trail b (in_open old n) → Leaves layout w)
  pub fed : tells → (layout : Layout) (w : Around) (b : State) → Holds layout w b → IsAt files layout w.trail b (in_open old n) → IsFed w.trail old → IsFed w.trail new

-- a line that works the image trails: where it is broken off their disk durably stands for some first ones of its durable parts
abbrev pub MeetsTrails : {D : Type 0} {d : Ghosts D} → Type 0 → (D → Disk) → (D → Counts) → (Layout → Around → State → Type 0) → Line → Result Reply NodeFault → BackupNode D d → Open D d → Open D d → Type 0
MeetsTrails tells files counts Holds l result n old new = MeetsAt tells files counts (λ why. met.Trails why) Holds (PerformsWhere files Holds) (λ layout w. BreaksTrails files w l old.shown new.disk) l result n old new

-- a purge was answered by the restart points of a backup whose volumes had risen
pub record PurgedAt {D : Type 0} {d : Ghosts D} (files : D → Disk) (layout : Layout) (w : Around) (name : Node) (b : State) (rise : ℕ) (reply : Reply) (new : BackupNode D d) : Type 0 where
  pub next : State
  pub rise_is : HasRisen layout b next
  pub follows : Follows files layout (record w { points = points_in layout w.trail next.volumes }) name next (line.Purge name) rise reply new

-- a purge of the session, from each state that the node was at, over each trail that its updaters are fed with, whatever number of stops is counted
abbrev pub PurgesIn : {D : Type 0} {d : Ghosts D} → (D → Disk) → Open D d → Reply → BackupNode D d → BackupNode D d → Type 0
PurgesIn files o reply old new = (layout : Layout) (w : Around) (b : State) (rise : ℕ) → 0 < rise → IsFed w.trail o → IsAt files layout w.trail b old → PurgedAt files layout w old.name b rise reply new

-- volumes of a session have risen, and the counts of all disks that it shows are as they were
pub record IsRisen {D : Type 0} {d : Ghosts D} (tells : Type 0) (files : D → Disk) (counts : D → Counts) (n : BackupNode D d) (old new : Open D d) : Type 0 where
  pub serves : MayServe tells files counts (in_open new n)
  pub laid : layout_of new.shown ≡ layout_of old.shown
  pub counts_are : Each (λ i x y. counts y ≡ counts x) (disks_at (in_open old n)) (disks_at (in_open new n))
  pub risen : tells → (trail : List Record) → Serves files trail old.shown → IsFed trail old → HasRisenOpen files trail old new

-- What a purge of a session does on its node. Where it is answered the node does it as its own line, behind what the volumes rose. Where it is broken off they have risen too, and the image trails' disk durably stands for some first ones of its durable parts then. The updaters are fed on.
pub record MeetsPurge {D : Type 0} {d : Ghosts D} (tells : Type 0) (files : D → Disk) (counts : D → Counts) (result : Result Reply NodeFault) (n : BackupNode D d) (old new : Open D d) : Type 0 where
  pub answered : IfOk result (λ reply. DoesAt tells files counts (λ l r. PurgesIn files old reply) (line.Purge n.name) (Ok reply) (in_open old n) (in_open new n))
  pub risen : IfErr result (λ why. IsRisen tells files counts n old new)
  pub met : IfErr result (λ why. new.met ≡ Some (met.Trails why))
  pub left : tells → IfErr result (λ why. (layout : Layout) (w : Around) (b : State) → WithPoints layout w b → IsAt files layout w.trail b (in_open new n) → BreaksTrails files w (line.Purge n.name) new.shown new.disk)
  pub fed : tells → (layout : Layout) (w : Around) (b : State) → IsAt files layout w.trail b (in_open old n) → IsFed w.trail old → IsFed w.trail new

-- a read: where it is broken off, by a fault that a volume's seat keeps, that volume is protected
abbrev pub MeetsVolume : {D : Type 0} {d : Ghosts D} → Type 0 → (D → Disk) → (D → Counts) → RecKey → Result Reply NodeFault → BackupNode D d → Open D d → Open D d → Type 0
MeetsVolume tells files counts key result n old new =
    MeetsAt tells files counts (λ why. met.Volume) Anywhere (λ l. ReadsIn files key old) (λ layout w. IsTrue (protects layout key.vol)) (line.Read n.name key) result n old new
