-- Disks that come back, with the cause of how the run ended in their counts.
use Rattle.std.specs.Prelude.{◌≡◌, ◌≤◌, ℕ, Bool, true, false, not, ◌&&◌, ◌||◌, nat_lt, Option, Some, None}
use Rattle.rdf_types.specs.Counts.{Rose}
use Rattle.rdf_types.specs.declared.records.Node.{Node}
use Rattle.rdf_types.specs.declared.records.Node.TheVariants.{A}
use Rattle.rdf_disk.specs.Counts.{Counts, WasStopped, Ending, Fine, Stop, Fault}
use Rattle.rdf_run.specs.declared.status.Status.{Status}
use Rattle.rdf_run.specs.declared.status.Status.TheVariants.{DeviceFault, WriteFault}
use Rattle.plan_lang.specs.LineText.{same_node}
use Rattle.rdf_run.specs.Statuses.{ending_at}

-- the disk is one of this node
abbrev pub is_of : Option Node → Node → Bool
is_of None node = false
is_of (Some of) node = same_node of node

-- A disk behind the one that failed, on the same backup: in a line, or a session, that works volumes beside each other it may have failed as well.
abbrev pub is_behind : Status → Node → ℕ → Bool
is_behind (DeviceFault named disk) node i = not (same_node named A) && same_node named node && nat_lt disk i
is_behind _ node i = false

-- The run may end so whatever the disks of an open session met: the sink failed, or a disk of the primary.
abbrev pub hides_session : Status → Bool
hides_session (DeviceFault named disk) = same_node named A
hides_session WriteFault = true
hides_session _ = false

-- a disk that may have failed beside the one that the status names, where the session of that node was open as the run ended, or none
abbrev pub may_fail : Option Node → Status → Node → ℕ → Bool
may_fail None status node i = is_behind status node i
may_fail (Some of) status node i = (hides_session status && same_node of node) || is_behind status node i

-- the disk failed, or was off or stopped, where the ending says so, and else it has not failed, unless it may have as well
abbrev pub EndedSo : Bool → Ending → Counts → Counts → Type 0
EndedSo false Fine old new = new.faults ≡ old.faults
EndedSo true Fine old new = old.faults ≤ new.faults
EndedSo behind Stop old new = WasStopped old new
EndedSo behind Fault old new = (old.faults ≤ new.faults) × Rose old.faults new.faults

-- the disk of a place comes back in its place, with the cause of the ending in its counts
abbrev pub Returned : {D : Type 0} → (D → Counts) → Bool → Ending → Option D → Option D → Type 0
Returned counts behind ending (Some old) (Some new) = EndedSo behind ending (counts old) (counts new)
Returned counts behind ending None None = ending ≡ Fine
Returned counts behind ending (Some old) None = ⊥
Returned counts behind ending None (Some new) = ⊥

-- so does the disk of each place, where the run ended with this status, in the session of that node or in none
abbrev pub ReturnIn : {D : Type 0} → (D → Counts) → Option Node → Status → (Node → ℕ → Option D) → (Node → ℕ → Option D) → Type 0
ReturnIn counts of status old new = (node : Node) (i : ℕ) → Returned counts (may_fail of status node i) (ending_at status node i) (old node i) (new node i)

-- no disk failed
abbrev pub NoneFailed : {D : Type 0} → (D → Counts) → (Node → ℕ → Option D) → (Node → ℕ → Option D) → Type 0
NoneFailed counts old new = (node : Node) (i : ℕ) → Returned counts false Fine (old node i) (new node i)

-- every disk comes back in its place, with the cause of how the run ended, in a session of a backup or in none
pub record AllReturn {D : Type 0} (counts : D → Counts) (status : Status) (old new : Node → ℕ → Option D) : Type 0 where
  pub session : Option Node
  pub of_backup : is_of session A ≡ false
  pub each : ReturnIn counts session status old new
