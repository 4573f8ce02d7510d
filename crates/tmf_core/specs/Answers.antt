-- What the answer of a call says, and what the call leaves.
use Rattle.std.specs.Prelude.{◌≡◌, ℕ, Bool, true, false, ◌||◌, List, [], length, drop, Option, Some, None, is_some, IfSome, MatchOption, Result, Ok, Err}
use Rattle.std.specs.Ordering.{nat_cmp}
use Rattle.std.specs.FinSet.{FinSet}
use Rattle.rdf_types.specs.declared.records.Record.{Record}
use Rattle.rdf_types.specs.declared.records.Row.{Row}
use Rattle.rdf_disk.specs.Files.{Disk}
use Rattle.rdf_model.specs.Contents.{Contents}
use Rattle.rdf_model.specs.Rows.{list_of}
use Rattle.rdf_model.specs.Volumes.{Rows, AreOn}
use Rattle.node_faults.specs.declared.NodeFault.{NodeFault}
use Rattle.node_faults.specs.declared.NodeFault.TheVariants.{NoMemory}
use Rattle.tmf_core.specs.Stores.{Left, shown_in}
use Rattle.tmf_core.specs.declared.fault.TmfFault.{TmfFault}
use Rattle.tmf_core.specs.declared.fault.TmfFault.TheVariants.{Down, TxnUsed, NoTxn, NoVolume, Locked, Exists, Missing, Node}
use Rattle.rdf_disk.specs.declared.disk.Disk.{Ghosts}
use Rattle.tmf_core.specs.declared.tmf.Tmf.{Tmf}
use Rattle.tmf_core.specs.States.{tmf_trail, tmf_volumes, is_down, RunsWith, Stays}

-- the fault of the node, where it is one and no refusal
abbrev pub node_fault : TmfFault → Option NodeFault
node_fault Down = None
node_fault TxnUsed = None
node_fault NoTxn = None
node_fault NoVolume = None
node_fault (Locked by) = None
node_fault Exists = None
node_fault Missing = None
node_fault (Node fault) = Some fault

-- the refusal says that the node is down
abbrev pub says_down : TmfFault → Bool
says_down Down = true
says_down TxnUsed = false
says_down NoTxn = false
says_down NoVolume = false
says_down (Locked by) = false
says_down Exists = false
says_down Missing = false
says_down (Node fault) = false

-- the fault of the node that is the first refusal, where it is one
abbrev pub node_fault_first : Option TmfFault → Option NodeFault
node_fault_first None = None
node_fault_first (Some why) = node_fault why

-- a first refusal says that the node is down
abbrev pub says_down_first : Option TmfFault → Bool
says_down_first None = false
says_down_first (Some why) = says_down why

-- a first refusal, which is no fault of the node, says that it is down or not
pub record IsPlain (down : Bool) (refusal : Option TmfFault) : Type 0 where
  pub told : says_down_first refusal ≡ down
  pub none : node_fault_first refusal ≡ None

-- A call that is done is not refused, and a refused one is told the first refusal.
-- One that ends by a fault of the node is refused by nothing that is judged before its disks are used.
abbrev pub IsJudged : {T : Type 0} → (early refused : Option TmfFault) → Result T TmfFault → Type 0
IsJudged early refused (Ok x) = refused ≡ None
IsJudged early refused (Err why) = MatchOption (node_fault why) (refused ≡ Some why) (λ fault. early ≡ None)

-- the records that a call adds to the trail: a refused one adds none
abbrev pub added : Option TmfFault → (trail after : List Record) → List Record
added None trail after = drop (length trail) after
added (Some why) trail after = []

-- A call that is done leaves this trail and these active transactions. A refused one changes nothing.
-- One that ends by a fault of the node durably leaves some first ones of the records that it adds.
abbrev pub Leaves : {D T : Type 0} {d : Ghosts D} → (D → Disk) → Option TmfFault → List Record → FinSet nat_cmp → Tmf D d → Result T TmfFault → Tmf D d → Type 0
Leaves files refused after active old (Ok x) new = RunsWith files after active new
Leaves files refused after active old (Err why) new = MatchOption (node_fault why) (Stays files old new) (λ fault. Left files (tmf_trail old) (added refused (tmf_trail old) after) new.store)

-- the answer says that the node is down
abbrev pub tells_down : {T : Type 0} → Result T TmfFault → Bool
tells_down (Ok x) = false
tells_down (Err why) = says_down why

-- a fault of the node ended the call
abbrev pub is_fall : {T : Type 0} → Result T TmfFault → Bool
is_fall (Ok x) = false
is_fall (Err why) = is_some (node_fault why)

-- A call is answered `Down` exactly where an earlier one ended by a fault of the node, and then changes nothing.
pub record Falls {D T : Type 0} {d : Ghosts D} (old : Tmf D d) (result : Result T TmfFault) (new : Tmf D d) : Type 0 where
  pub told : tells_down result ≡ is_down old
  pub falls : is_down new ≡ (is_down old || is_fall result)
  pub still : is_down old ≡ true → new ≡ old

-- a volume was looked at: the trail and the transactions are as before, and there are as many volumes, each of which shows the same
pub record IsLooked {D : Type 0} {d : Ghosts D} (old new : Tmf D d) : Type 0 where
  pub trail : new.store.trail ≡ old.store.trail
  pub txns : new.txns ≡ old.txns
  pub down : is_down new ≡ is_down old
  pub many : tmf_volumes new ≡ tmf_volumes old
  pub shown : shown_in new.store ≡ shown_in old.store

-- A refusal that is judged in memory changes nothing at all.
-- One by what a volume shows changes neither the trail nor the transactions, nor what any volume shows.
abbrev pub Keeps : {D T : Type 0} {d : Ghosts D} → Tmf D d → Result T TmfFault → Tmf D d → Type 0
Keeps old (Ok x) new = Unit {0}
Keeps old (Err Down) new = new ≡ old
Keeps old (Err TxnUsed) new = new ≡ old
Keeps old (Err NoTxn) new = new ≡ old
Keeps old (Err NoVolume) new = new ≡ old
Keeps old (Err (Locked by)) new = new ≡ old
Keeps old (Err Exists) new = IsLooked old new
Keeps old (Err Missing) new = IsLooked old new
Keeps old (Err (Node fault)) new = Unit {0}

-- how the call ended for the disks
abbrev pub fault_or_done : Option NodeFault → Result (Unit {0}) NodeFault
fault_or_done None = Ok tt
fault_or_done (Some fault) = Err fault

-- the same of an answer: a refusal is no fault of a disk
abbrev pub node_result : {T : Type 0} → Result T TmfFault → Result (Unit {0}) NodeFault
node_result (Ok x) = Ok tt
node_result (Err why) = fault_or_done (node_fault why)

-- a fault of the node, where the answer is one, is want of memory
abbrev pub IsOfMemory : {T : Type 0} → Result T TmfFault → Type 0
IsOfMemory (Ok x) = Unit {0}
IsOfMemory (Err why) = IfSome (node_fault why) (λ fault. fault ≡ NoMemory)

-- the rows are those of the contents on the volume, in the order of file and key
pub record AreRowsOn (vol : ℕ) (files : Contents) (rows : List Row) : Type 0 where
  pub map_of : Rows
  pub are_on : AreOn vol files map_of
  pub listed : rows ≡ list_of map_of
