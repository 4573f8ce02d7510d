-- What a node does for a line, and the causes of its answers.
use Rattle.std.specs.Prelude.{◌≡◌, ◌≢◌, ◌⊎◌, ℕ, ◌+◌, ◌<◌, ◌≤◌, length, ◌&&◌, Bool, true, false, Some, None, Result, Ok, Err}
use Rattle.rdf_types.specs.declared.layout.Layout.{Layout}
use Rattle.rdf_types.specs.declared.records.Node.TheVariants.{A}
use Rattle.rdf_disk.specs.Files.{Disk}
use Rattle.rdf_disk.specs.Counts.{Counts}
use Rattle.rdf_disk.specs.Counts.Ending.{Fine}
use Rattle.rdf_disk.specs.declared.disk.Disk.{Ghosts}
use Rattle.plan_lang.specs.declared.lines.Line.{Line}
use Rattle.plan_lang.specs.declared.lines.Line.TheVariants as line
use Rattle.node_faults.specs.declared.NodeFault.{NodeFault}
use Rattle.node_faults.specs.declared.NodeFault.TheVariants as fault
use Rattle.node_faults.specs.Faults.{ending_at, IsNamed}
use Rattle.rdf_core.specs.declared.replies.NoWhy.{NoWhy}
use Rattle.rdf_core.specs.declared.replies.NoWhy.TheVariants as no
use Rattle.rdf_core.specs.declared.replies.Reply.{Reply}
use Rattle.rdf_core.specs.declared.replies.Reply.TheVariants.{Done, Stopped, NodeDown, NodeLost}
use Rattle.rdf_core.specs.Effects.{after_parts, count_u64}
use Rattle.rdf_core.specs.Primary.{Primary as State, primary_refusal, primary_fallen}
use Rattle.rdf_core.specs.Step.{PrimaryStep, disks_of}
use Rattle.tmf_core.specs.Answers.{IsLooked}
use Rattle.rdf_primary.specs.declared.primary.Primary.{Primary}
use Rattle.rdf_primary.specs.Replies.{primary_parts_of, NoneEarly}
use Rattle.rdf_primary.specs.Standing.{PrimaryStandsFor}
use Rattle.primary_node.specs.declared.node.PrimaryNode.{PrimaryNode}
use Rattle.primary_node.specs.Cuts.{Each}
pub use Rattle.node_disks.specs.Counting.{Tells, fuses_of, is_fuse, is_done}
use Rattle.primary_node.specs.Nodes.{disks_at, IsAt}

-- a line of a transaction, or the list of a volume: it needs a primary that is up
abbrev pub NeedsUp : Line → Type 0
NeedsUp (line.Begin t) = Unit {0}
NeedsUp (line.Insert t k value) = Unit {0}
NeedsUp (line.Update t k value) = Unit {0}
NeedsUp (line.Delete t k) = Unit {0}
NeedsUp (line.Get t k) = Unit {0}
NeedsUp (line.Commit t) = Unit {0}
NeedsUp (line.Abort t) = Unit {0}
NeedsUp (line.List node vol) = node ≡ A
NeedsUp _ = ⊥

-- why a node that is not up refuses such a line
abbrev pub why_off : Bool → NoWhy
why_off true = no.Lost
why_off false = no.Down

-- the status of such a node
abbrev pub status_off : Bool → Reply
status_off true = NodeLost
status_off false = NodeDown

-- a fault of the node as an answer: that a disk stopped is a reply
abbrev pub stop_told : NodeFault → Result Reply NodeFault
stop_told (fault.Stopped disk) = Ok (Stopped A)
stop_told (fault.Failed disk) = Err (fault.Failed disk)
stop_told fault.NoMemory = Err fault.NoMemory
stop_told (fault.Damaged disk file at) = Err (fault.Damaged disk file at)

-- where the answer is that the node stopped, so many stops are counted, and else none
abbrev pub CountsStops : Reply → ℕ → State → State → Type 0
CountsStops reply rise a b = ((reply ≢ Stopped A) × (b.stops ≡ a.stops)) ⊎ ((reply ≡ Stopped A) × (b.stops ≡ count_u64 (a.stops + rise)))

-- the node is at the state that a step of the machine leaves
pub record Follows {D : Type 0} {d : Ghosts D} (files : D → Disk) (layout : Layout) (a : State) (l : Line) (rise : ℕ) (reply : Reply) (new : PrimaryNode D d) : Type 0 where
  pub next : State
  pub step : PrimaryStep layout a l reply next
  pub at : IsAt files layout next new
  pub stops : CountsStops reply rise a next

-- Nothing that is judged in memory refuses the line. The node is down, and stands for what some first ones of its durable parts leave.
-- Where the line uses no disk, the disks stand for what they stood for.
pub record Breaks {D : Type 0} {d : Ghosts D} (files : D → Disk) (layout : Layout) (a : State) (l : Line) (new : PrimaryNode D d) : Type 0 where
  pub unrefused : NoneEarly (primary_refusal layout a l)
  pub done : ℕ
  pub few : done ≤ length (primary_parts_of layout a l)
  pub at : IsAt files layout (primary_fallen 0 (after_parts a (primary_parts_of layout a l) done)) new
  pub before : disks_of l ≡ None → PrimaryStandsFor files layout a (disks_at new)

-- how a line ends, where so many stops are counted
abbrev pub Ends : {D : Type 0} {d : Ghosts D} → (D → Disk) → Layout → State → Line → ℕ → Result Reply NodeFault → PrimaryNode D d → Type 0
Ends files layout a l rise (Ok reply) new = Follows files layout a l rise reply new
Ends files layout a l rise (Err why) new = Breaks files layout a l new

-- the same from each state that the node was at, whatever number of stops is counted
abbrev pub Performs : {D : Type 0} {d : Ghosts D} → (D → Disk) → Line → Result Reply NodeFault → PrimaryNode D d → PrimaryNode D d → Type 0
Performs files l result old new = (layout : Layout) (a : State) (rise : ℕ) → 0 < rise → IsAt files layout a old → Ends files layout a l rise result new

-- no disk failed or stopped
abbrev pub NoneFails : {D : Type 0} {d : Ghosts D} → (D → Counts) → PrimaryNode D d → PrimaryNode D d → Type 0
NoneFails counts old new = Each (λ i x y. Tells Fine (counts x) (counts y)) (disks_at old) (disks_at new)

-- that fault has its cause in the counts of the disk that it names, which is one of the node's, and no other disk failed or stopped
abbrev pub FailsBy : {D : Type 0} {d : Ghosts D} → (D → Counts) → NodeFault → PrimaryNode D d → PrimaryNode D d → Type 0
FailsBy counts why old new = IsNamed (length (disks_at old)) why × Each (λ i x y. Tells (ending_at i why) (counts x) (counts y)) (disks_at old) (disks_at new)

-- A reply that the node stopped has its cause in the counts of a disk. At any other reply none failed or stopped.
abbrev pub ReplyCaused : {D : Type 0} {d : Ghosts D} → (D → Counts) → Reply → PrimaryNode D d → PrimaryNode D d → Type 0
ReplyCaused counts reply old new = (NoneFails counts old new × (reply ≢ Stopped A)) ⊎ ((reply ≡ Stopped A) × ((disk : ℕ) × FailsBy counts (fault.Stopped disk) old new))

-- every answer has its cause, and no fault is that a disk stopped: that is a reply
abbrev pub IsCaused : {D : Type 0} {d : Ghosts D} → (D → Counts) → Result Reply NodeFault → PrimaryNode D d → PrimaryNode D d → Type 0
IsCaused counts (Ok reply) old new = ReplyCaused counts reply old new
IsCaused counts (Err why) old new = FailsBy counts why old new × ((disk : ℕ) → why ≢ fault.Stopped disk)

-- a volume of a node that is up was looked at: its trail and its transactions are as before, each of its volumes shows the same, and nothing else has changed
pub record WasLooked {D : Type 0} {d : Ghosts D} (old new : PrimaryNode D d) : Type 0 where
  pub was : Primary D d
  pub is : Primary D d
  pub was_up : old.primary ≡ Some was
  pub is_up : new.primary ≡ Some is
  pub looked : IsLooked was.tmf is.tmf
  pub rest : record new { primary = old.primary } ≡ old

-- a fuse that is done raises the number of fuses of its disk, and nothing else raises any
abbrev pub IsFused : {D : Type 0} {d : Ghosts D} → (D → Counts) → Line → Result Reply NodeFault → PrimaryNode D d → PrimaryNode D d → Type 0
IsFused counts l result old new = (Each (λ i x y. (counts y).fuses ≡ (counts x).fuses) (disks_at old) (disks_at new) × ((is_fuse l && is_done result) ≡ false))
    ⊎ ((result ≡ Ok Done) × Each (λ i x y. (counts y).fuses ≡ fuses_of l i (counts x)) (disks_at old) (disks_at new))
