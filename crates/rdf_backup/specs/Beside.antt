-- How a call ends that works several volumes of a backup beside each other: the disks of several of them may stop or fail in it.
use Rattle.std.specs.Prelude.{◌≡◌, ◌≢◌, ◌⊎◌, ℕ, ◌<◌, Bool, true, false, slice_get, Result, Ok, Err}
use Rattle.rdf_disk.specs.Counts.{Counts, Ending, Causes}
use Rattle.rdf_disk.specs.Counts.Ending.{Fine, Stop, Fault}
use Rattle.rdf_disk.specs.declared.disk.Disk.{Ghosts}
use Rattle.plan_lang.specs.declared.lines.Line.{Line}
use Rattle.plan_lang.specs.declared.lines.Line.TheVariants as line
use Rattle.node_faults.specs.declared.NodeFault.{NodeFault}
use Rattle.node_faults.specs.declared.NodeFault.TheVariants as fault
use Rattle.node_faults.specs.Faults.{ending_at}
use Rattle.rdf_backup.specs.declared.backup.Backup.{Backup}
use Rattle.rdf_backup.specs.States.{disks_in}
use Rattle.rdf_backup.specs.Replies.{IfBoth}

-- the line works the volumes of its node beside each other
abbrev pub is_beside : Line → Bool
is_beside (line.Takeover node) = true
is_beside _ = false

-- Of these endings, one for each disk, the fault is the first: a disk that failed, then damage, then want of memory, then a disk that stopped; among equals that of the lowest disk.
abbrev pub IsFirst : NodeFault → (ℕ → Ending) → Type 0
IsFirst (fault.Failed disk) ends = (ends disk ≡ Fault) × ((i : ℕ) → i < disk → ends i ≢ Fault)
IsFirst (fault.Damaged disk file at) ends = (i : ℕ) → ends i ≢ Fault
IsFirst fault.NoMemory ends = (i : ℕ) → ends i ≢ Fault
IsFirst (fault.Stopped disk) ends = (ends disk ≡ Stop) × ((i : ℕ) → ends i ≢ Fault) × ((i : ℕ) → i < disk → ends i ≡ Fine)

-- A line that was ended by this fault may have ended so for each disk: as the fault says for the disk that it names, and well for each other.
-- A line that works volumes beside each other may have ended for several otherwise than well; of these the fault is the first.
abbrev pub MayEnd : Bool → NodeFault → (ℕ → Ending) → Type 0
MayEnd beside why ends = ((i : ℕ) → ends i ≡ ending_at i why) ⊎ ((beside ≡ true) × IsFirst why ends)

-- a call beside each other with this answer ended so for each disk
abbrev pub EndsBeside : {T : Type 0} → Result T NodeFault → (ℕ → Ending) → Type 0
EndsBeside (Ok x) ends = (i : ℕ) → ends i ≡ Fine
EndsBeside (Err why) ends = IsFirst why ends

-- the counts of each disk rose as the call ended for it; as many disks are there as before
abbrev pub CausedBeside : {D T : Type 0} {d : Ghosts D} → (D → Counts) → Result T NodeFault → Backup D d → Backup D d → Type 0
CausedBeside counts result old new = (ends : ℕ → Ending) × (EndsBeside result ends × ((i : ℕ) → IfBoth (λ x y. Causes (ends i) (counts x) (counts y)) (slice_get (disks_in old) i) (slice_get (disks_in new) i)))
