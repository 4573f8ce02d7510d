-- What a node does for a line, and the causes of its answers.
use Rattle.std.specs.Prelude.{◌≡◌, ◌≢◌, ◌⊎◌, ℕ, ◌+◌, ◌<◌, ◌≤◌, ◌&&◌, Bool, true, false, List, length, Option, Some, None, Result, Ok, Err}
use Rattle.rdf_types.specs.declared.layout.Layout.{Layout}
use Rattle.rdf_types.specs.declared.records.Node.{Node}
use Rattle.rdf_types.specs.declared.records.Phase.{Phase}
use Rattle.rdf_types.specs.declared.records.Phase.TheVariants as phase
use Rattle.rdf_types.specs.declared.records.Record.{Record}
use Rattle.rdf_disk.specs.Files.{Disk}
use Rattle.rdf_disk.specs.Counts.{Counts, Ending}
use Rattle.rdf_disk.specs.Counts.Ending.{Fine}
use Rattle.rdf_disk.specs.declared.disk.Disk.{Ghosts}
use Rattle.rdf_codec.specs.declared.ships.Ship.{Ship}
use Rattle.plan_lang.specs.declared.lines.Line.{Line}
use Rattle.node_faults.specs.declared.NodeFault.{NodeFault}
use Rattle.node_faults.specs.declared.NodeFault.TheVariants as fault
use Rattle.node_faults.specs.Faults.{IsSound, IsNamed}
use Rattle.rdf_core.specs.declared.replies.NoWhy.TheVariants as no
use Rattle.rdf_core.specs.declared.replies.Reply.{Reply}
use Rattle.rdf_core.specs.declared.replies.Reply.TheVariants.{No, Number, Done, Stopped}
use Rattle.rdf_core.specs.Effects.{after_parts, count_u64}
use Rattle.rdf_core.specs.Backup.{Backup as State, Around, points_in, backup_refusal, backup_fallen}
use Rattle.rdf_core.specs.Step.{BackupStep, disks_of}
use Rattle.rdf_backup.specs.declared.backup.Backup.{Backup}
use Rattle.rdf_backup.specs.States.{disks_in}
use Rattle.rdf_backup.specs.Replies.{Brings, parts_of}
use Rattle.rdf_wire.specs.Shipping.{IsSent}
use Rattle.rdf_backup.specs.Beside.{is_beside, MayEnd}
use Rattle.rdf_backup.specs.Refusals.{IsRefusal}
use Rattle.rdf_backup.specs.Standing.{BackupStandsFor}
use Rattle.node_disks.specs.Cuts.{Each, AreCut}
use Rattle.node_disks.specs.Counting.{Tells, fuses_of, is_fuse, is_done}
use Rattle.backup_node.specs.declared.node.BackupNode.{BackupNode}
use Rattle.backup_node.specs.Nodes.{disks_at, IsAt, IsLaid, MayServe}
use Rattle.backup_node.specs.Kinds.{IsReplied, IsKept}
use Rattle.backup_node.specs.Moves.{IsMoved}

-- a fault of the node as an answer: that a disk stopped is a reply
abbrev pub stop_told : Node → NodeFault → Result Reply NodeFault
stop_told name (fault.Stopped disk) = Ok (Stopped name)
stop_told name (fault.Failed disk) = Err (fault.Failed disk)
stop_told name fault.NoMemory = Err fault.NoMemory
stop_told name (fault.Damaged disk file at) = Err (fault.Damaged disk file at)

-- what a backup that is up answers to `session`, by its phase and by what it has received
abbrev pub begun : Phase → ℕ → Reply
begun phase.Running received = Number received
begun phase.Taking received = No no.Taking
begun (phase.Taken upto) received = No no.Taken

-- where the answer is that the node stopped, so many stops are counted, and else none
abbrev pub CountsStops : Node → Reply → ℕ → State → State → Type 0
CountsStops name reply rise a b = ((reply ≢ Stopped name) × (b.stops ≡ a.stops)) ⊎ ((reply ≡ Stopped name) × (b.stops ≡ count_u64 (a.stops + rise)))

-- the node is at the state that a step of the machine leaves
pub record Follows {D : Type 0} {d : Ghosts D} (files : D → Disk) (layout : Layout) (w : Around) (name : Node) (b : State) (l : Line) (rise : ℕ) (reply : Reply) (new : BackupNode D d) : Type 0 where
  pub next : State
  pub step : BackupStep layout w b l reply next
  pub at : IsAt files layout w.trail next new
  pub stops : CountsStops name reply rise b next

-- the node is down, and stands for what some first ones of the line's durable parts leave, however many stops are counted; where the line uses no disk, the disks stand for what they stood for, and where it works volumes beside each other, nothing refused it
pub record Breaks {D : Type 0} {d : Ghosts D} (files : D → Disk) (layout : Layout) (w : Around) (b : State) (l : Line) (new : BackupNode D d) : Type 0 where
  pub done : ℕ
  pub few : done ≤ length (parts_of layout w b l)
  pub at : (rise : ℕ) → IsAt files layout w.trail (backup_fallen rise (after_parts b (parts_of layout w b l) done)) new
  pub before : disks_of l ≡ None → BackupStandsFor files layout w.trail b (disks_at new)
  pub unrefused : is_beside l ≡ true → backup_refusal layout w b l ≡ None

-- how a line ends, where so many stops are counted
abbrev pub Ends : {D : Type 0} {d : Ghosts D} → (D → Disk) → Layout → Around → Node → State → Line → ℕ → Result Reply NodeFault → BackupNode D d → Type 0
Ends files layout w name b l rise (Ok reply) new = Follows files layout w name b l rise reply new
Ends files layout w name b l rise (Err why) new = Breaks files layout w b l new

-- the same from each state that the node was at, over each trail, with these things around it, whatever number of stops is counted
abbrev pub Performs : {D : Type 0} {d : Ghosts D} → (D → Disk) → (Layout → Around → Type 0) → Line → Result Reply NodeFault → BackupNode D d → BackupNode D d → Type 0
Performs files Holds l result old new = (layout : Layout) (w : Around) (b : State) (rise : ℕ) → 0 < rise → Holds layout w → IsAt files layout w.trail b old → Ends files layout w old.name b l rise result new

-- the same where this holds of the things around it and of its state
abbrev pub PerformsWhere : {D : Type 0} {d : Ghosts D} → (D → Disk) → (Layout → Around → State → Type 0) → Line → Result Reply NodeFault → BackupNode D d → BackupNode D d → Type 0
PerformsWhere files Holds l result old new = (layout : Layout) (w : Around) (b : State) (rise : ℕ) → 0 < rise → Holds layout w b → IsAt files layout w.trail b old → Ends files layout w old.name b l rise result new

-- the layout is this one
abbrev pub Of : Layout → Layout → Around → Type 0
Of own layout w = layout ≡ own

-- the restart points that a purge goes by are the present ones
abbrev pub WithPoints : Layout → Around → State → Type 0
WithPoints layout w b = w.points ≡ points_in layout w.trail b.volumes

-- nothing around the node matters
abbrev pub Any : Layout → Around → Type 0
Any layout w = Unit {0}

-- the primary is lost, or is not
abbrev pub WhereLost : Bool → Layout → Around → Type 0
WhereLost lost layout w = w.lost ≡ lost

-- the copy comes from this node
abbrev pub FromLead : {D : Type 0} {d : Ghosts D} → (D → Disk) → BackupNode D d → Layout → Around → Type 0
FromLead files lead layout w = IsAt files layout w.trail w.lead lead

-- the message that the line names is these bytes, a shipment that is the trail's part on its range, or there is none
abbrev pub Names : Option (List ℕ) → Layout → Around → Type 0
Names None layout w = w.message ≡ None
Names (Some bytes) layout w = (ship : Ship) × IsSent bytes ship × Brings layout w ship

-- no disk failed or stopped
abbrev pub NoneFails : {D : Type 0} {d : Ghosts D} → (D → Counts) → BackupNode D d → BackupNode D d → Type 0
NoneFails counts old new = Each (λ i x y. Tells Fine (counts x) (counts y)) (disks_at old) (disks_at new)

-- That fault has its cause in the counts of the disk that it names, which is one of the node's, and no other disk failed or stopped. In a line that works volumes beside each other several may have, and the fault is the first of these.
abbrev pub FailsBy : {D : Type 0} {d : Ghosts D} → (D → Counts) → Line → NodeFault → BackupNode D d → BackupNode D d → Type 0
FailsBy counts l why old new = IsNamed (length (disks_at old)) why × ((ends : ℕ → Ending) × (MayEnd (is_beside l) why ends × Each (λ i x y. Tells (ends i) (counts x) (counts y)) (disks_at old) (disks_at new)))

-- A reply that the node stopped has its cause in the counts of a disk. At any other reply none failed or stopped.
abbrev pub ReplyCaused : {D : Type 0} {d : Ghosts D} → (D → Counts) → Line → Reply → BackupNode D d → BackupNode D d → Type 0
ReplyCaused counts l reply old new = (NoneFails counts old new × (reply ≢ Stopped old.name)) ⊎ ((reply ≡ Stopped old.name) × ((disk : ℕ) × FailsBy counts l (fault.Stopped disk) old new))

-- every answer has its cause, and no fault is that a disk stopped: that is a reply
abbrev pub IsCaused : {D : Type 0} {d : Ghosts D} → (D → Counts) → Line → Result Reply NodeFault → BackupNode D d → BackupNode D d → Type 0
IsCaused counts l (Ok reply) old new = ReplyCaused counts l reply old new
IsCaused counts l (Err why) old new = FailsBy counts l why old new × ((disk : ℕ) → why ≢ fault.Stopped disk)

-- nothing is damaged on disks that stand for a state
abbrev pub IsSoundAt : {D : Type 0} {d : Ghosts D} → (D → Disk) → Result Reply NodeFault → BackupNode D d → Type 0
IsSoundAt files result old = (layout : Layout) (trail : List Record) (b : State) → IsAt files layout trail b old → IsSound result

-- a fuse that is done raises the number of fuses of its disk, and nothing else raises any
abbrev pub IsFused : {D : Type 0} {d : Ghosts D} → (D → Counts) → Line → Result Reply NodeFault → BackupNode D d → BackupNode D d → Type 0
IsFused counts l result old new = (Each (λ i x y. (counts y).fuses ≡ (counts x).fuses) (disks_at old) (disks_at new) × ((is_fuse l && is_done result) ≡ false))
    ⊎ ((result ≡ Ok Done) × Each (λ i x y. (counts y).fuses ≡ fuses_of l i (counts x)) (disks_at old) (disks_at new))

-- what a line on a backup that was up came to: the backup is up, or a fault took it down, and its disks are cut
abbrev pub Settles : {D : Type 0} {d : Ghosts D} → Type 0 → (D → Disk) → (D → Counts) → Node → Backup D d → Result Reply NodeFault → Result Reply NodeFault → BackupNode D d → Type 0
Settles tells files counts name up (Ok reply) result new = (result ≡ Ok reply) × (new.backup ≡ Some up)
Settles tells files counts name up (Err why) result new = (result ≡ stop_told name why) × (new.backup ≡ None) × AreCut tells files counts (disks_in up) new.disks.items

-- what a node keeps at each line: it may be used again, it has as many volumes and its name, and the counts of its disks show the cause of the answer and which fuses were given; over any disks the reply follows from how the node stands, or is of the line's own kind, a refusal leaves what it found, and how the node stands behind the line follows from its reply
pub record Keeps {D : Type 0} {d : Ghosts D} (tells : Type 0) (files : D → Disk) (counts : D → Counts) (l : Line) (result : Result Reply NodeFault) (old new : BackupNode D d) : Type 0 where
  pub serves : MayServe tells files counts new
  pub sized : new.volumes ≡ old.volumes
  pub named : new.name ≡ old.name
  pub cause : IsCaused counts l result old new
  pub fuses : IsFused counts l result old new
  pub kinds : IsReplied l result old new
  pub kept : IsRefusal result → IsKept l old new
  pub moved : IsMoved l result old new

-- what a node does for a line: over disks that tell it goes so, and no damage is told; a node that is up keeps its layout, and a refusal leaves the node as it was
pub record Does {D : Type 0} {d : Ghosts D} (tells : Type 0) (files : D → Disk) (counts : D → Counts) (Goes : Line → Result Reply NodeFault → BackupNode D d → BackupNode D d → Type 0) (l : Line) (result : Result Reply NodeFault) (old new : BackupNode D d) : Type 0 where
  pub performs : tells → Goes l result old new
  pub keeps : Keeps tells files counts l result old new
  pub open keeps use *
  pub laid : (layout : Layout) → IsLaid layout old → IsLaid layout new
  pub sound : tells → IsSound result
  pub still : IsRefusal result → new ≡ old

-- the same where no damage is told of a node that is at some state
pub record DoesAt {D : Type 0} {d : Ghosts D} (tells : Type 0) (files : D → Disk) (counts : D → Counts) (Goes : Line → Result Reply NodeFault → BackupNode D d → BackupNode D d → Type 0) (l : Line) (result : Result Reply NodeFault) (old new : BackupNode D d) : Type 0 where
  pub performs : tells → Goes l result old new
  pub keeps : Keeps tells files counts l result old new
  pub open keeps use *
  pub laid : (layout : Layout) → IsLaid layout old → IsLaid layout new
  pub sound : tells → IsSoundAt files result old
