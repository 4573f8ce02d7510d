-- Which of several faults is answered.
use Rattle.std.specs.Prelude.{ℕ, zero, suc, nat_lt, if◌then◌else◌, List, [], ◌∷◌, get_or, Result, Ok, Err}
use Rattle.rdf_disk.specs.Counts.{Ending}
use Rattle.rdf_disk.specs.Counts.Ending.{Fine}
use Rattle.rdf_gatelog.specs.declared.fault.LogFault.{LogFault}
use Rattle.rdf_gatelog.specs.LogCauses.{ending}
use Rattle.node_faults.specs.declared.NodeFault.{NodeFault}
use Rattle.node_faults.specs.declared.NodeFault.TheVariants as node
use Rattle.node_faults.specs.Faults.{fault_at}

-- what comes of one volume
abbrev pub Answer : Type 0
Answer = Result (Unit {0}) LogFault

-- a disk that failed comes first, then damage, then want of memory, then a disk that stopped
abbrev pub rank : NodeFault → ℕ
rank (node.Failed disk) = 0
rank (node.Damaged disk file at) = 1
rank node.NoMemory = 2
rank (node.Stopped disk) = 3

-- the earlier of two faults, and among equals the one that stands first
abbrev pub earlier : Result (Unit {0}) NodeFault → Result (Unit {0}) NodeFault → Result (Unit {0}) NodeFault
earlier (Ok x) next = next
earlier (Err f) (Ok y) = Err f
earlier (Err f) (Err g) = if nat_lt (rank g) (rank f) then Err g else Err f

-- the answer of a disk as the node's
abbrev pub answer_at : ℕ → Answer → Result (Unit {0}) NodeFault
answer_at disk (Ok x) = Ok x
answer_at disk (Err f) = Err (fault_at disk f)

-- the first of the faults of disks, from that number on, behind what came before
abbrev pub first_fault : ℕ → Result (Unit {0}) NodeFault → List Answer → Result (Unit {0}) NodeFault
first_fault disk first [] = first
first_fault disk first (r ∷ rest) = first_fault (suc disk) (earlier first (answer_at disk r)) rest

-- how each disk ended where these are the answers of the volumes: disk 0 is none of theirs
abbrev pub ends_of : List Answer → ℕ → Ending
ends_of answers zero = Fine
ends_of answers (suc v) = ending (get_or answers v (Ok tt))
