-- What each call of the transactions does, whatever it answers.
use Rattle.std.specs.Prelude.{◌≡◌, ℕ, Bool, true, List, [], ◌∷◌, length, drop, Option, Result, IfOk, IfErr, OnOk, OnErr}
use Rattle.std.specs.Ordering.{nat_cmp}
use Rattle.std.specs.FinSet as set
use Rattle.rdf_types.specs.declared.records.Record.{Record}
use Rattle.rdf_types.specs.declared.records.Record.TheVariants.{Image}
use Rattle.rdf_types.specs.declared.records.RecKey.{RecKey}
use Rattle.rdf_disk.specs.Files.{Disk}
use Rattle.rdf_disk.specs.Counts.{Counts}
use Rattle.rdf_disk.specs.declared.disk.Disk.{Ghosts}
use Rattle.rdf_model.specs.Lines.{after_change}
use Rattle.node_faults.specs.declared.NodeFault.{NodeFault}
use Rattle.node_faults.specs.Faults.{IsSound}
use Rattle.tmf_core.specs.Stores.{Left, CausedBy}
use Rattle.tmf_core.specs.declared.fault.TmfFault.{TmfFault}
use Rattle.tmf_core.specs.declared.tmf.Tmf.{Tmf}
use Rattle.tmf_core.specs.States.{tmf_trail, tmf_active, is_down, RunsWith, RunsUnlessDown}
use Rattle.tmf_core.specs.Refusals.{cannot_use, place_refusal, value_refusal, begin_refusal, end_refusal, scan_refusal, IsOfPlace, IsOfBegin, IsOfEnd, IsOfScan}
use Rattle.tmf_core.specs.Answers.{IsJudged, Leaves, Keeps, Falls, node_result}

-- What a call does that is refused so, the first refusals before its disks are used, and that leaves this trail and these active transactions where it is done.
pub record Does {D T : Type 0} {d : Ghosts D} (tells : Type 0) (files : D → Disk) (counts : D → Counts) (IsKind : TmfFault → Type 0) (early refused : Option TmfFault) (after : List Record) (active : set.FinSet nat_cmp) (old : Tmf D d) (result : Result T TmfFault) (new : Tmf D d) : Type 0 where
  -- it is refused by the first refusal, and done where there is none
  pub judged : tells → IsJudged early refused result
  -- what it leaves, by how it ends
  pub leaves : tells → Leaves files refused after active old result new
  -- it may be called again
  pub runs : tells → RunsUnlessDown files new
  -- it is answered `Down` exactly behind a fault of the node
  pub falls : Falls old result new
  -- a refusal leaves what it found, over any disks
  pub kept : Keeps old result new
  -- its faults are of this kind
  pub kinds : IfErr result IsKind
  -- each fault is of one of its disks, and has its cause in the counts of that disk
  pub cause : CausedBy counts (node_result result) old.store new.store
  -- over disks that tell no damage is told
  pub sound : tells → IsSound (node_result result)

-- such a call that answers the trail's length
pub record Adds {D : Type 0} {d : Ghosts D} (tells : Type 0) (files : D → Disk) (counts : D → Counts) (IsKind : TmfFault → Type 0) (early refused : Option TmfFault) (after : List Record) (active : set.FinSet nat_cmp) (old : Tmf D d) (result : Result ℕ TmfFault) (new : Tmf D d) : Type 0 where
  pub does : Does tells files counts IsKind early refused after active old result new
  pub says : IfOk result (λ pos. pos ≡ length (tmf_trail new))

-- a call that needs a value at the place, or none, and sets there what is given
abbrev pub Changes : {D : Type 0} {d : Ghosts D} → Type 0 → (D → Disk) → (D → Counts) → Bool → ℕ → RecKey → Option (List ℕ) → Tmf D d → Result ℕ TmfFault → Tmf D d → Type 0
Changes tells files counts needs t k after old result new = Adds tells files counts (IsOfPlace needs) (cannot_use old t k) (place_refusal needs old t k) (after_change (tmf_trail old) t k after) (tmf_active old) old result new

-- a call that ends an active transaction, with this trail
abbrev pub Ends : {D : Type 0} {d : Ghosts D} → Type 0 → (D → Disk) → (D → Counts) → ℕ → List Record → Tmf D d → Result ℕ TmfFault → Tmf D d → Type 0
Ends tells files counts t after old result new = Adds tells files counts IsOfEnd (end_refusal old t) (end_refusal old t) after (set.remove (tmf_active old) t) old result new

-- a call that makes a transaction active
abbrev pub Begins : {D T : Type 0} {d : Ghosts D} → Type 0 → (D → Disk) → (D → Counts) → ℕ → Tmf D d → Result T TmfFault → Tmf D d → Type 0
Begins tells files counts t old result new = Does tells files counts IsOfBegin (begin_refusal old t) (begin_refusal old t) (tmf_trail old) (set.insert (tmf_active old) t) old result new

-- a call that reads a place, where it needs a value
abbrev pub Reads : {D T : Type 0} {d : Ghosts D} → Type 0 → (D → Disk) → (D → Counts) → ℕ → RecKey → Tmf D d → Result T TmfFault → Tmf D d → Type 0
Reads tells files counts t k old result new = Does tells files counts (IsOfPlace true) (cannot_use old t k) (value_refusal old t k) (tmf_trail old) (tmf_active old) old result new

-- a call that lists a volume
abbrev pub Lists : {D T : Type 0} {d : Ghosts D} → Type 0 → (D → Disk) → (D → Counts) → ℕ → Tmf D d → Result T TmfFault → Tmf D d → Type 0
Lists tells files counts vol old result new = Does tells files counts IsOfScan (scan_refusal old vol) (scan_refusal old vol) (tmf_trail old) (tmf_active old) old result new

-- What the part of a call does that writes: done, it runs with this trail and these active transactions, and answers the trail's length; ended by a fault, it durably leaves some first ones of these records.
pub record Writes {D : Type 0} {d : Ghosts D} (tells : Type 0) (files : D → Disk) (counts : D → Counts) (after : List Record) (active : set.FinSet nat_cmp) (more : List Record) (old : Tmf D d) (result : Result ℕ NodeFault) (new : Tmf D d) : Type 0 where
  pub ok : tells → OnOk result (RunsWith files after active new)
  pub says : IfOk result (λ pos. pos ≡ length (tmf_trail new))
  pub err : tells → OnErr result (Left files (tmf_trail old) more new.store)
  pub down : is_down new ≡ is_down old
  pub cause : CausedBy counts result old.store new.store
  pub sound : tells → IsSound result

-- such a part that adds the image of a change
abbrev pub Puts : {D : Type 0} {d : Ghosts D} → Type 0 → (D → Disk) → (D → Counts) → ℕ → RecKey → (before after : Option (List ℕ)) → Tmf D d → Result ℕ NodeFault → Tmf D d → Type 0
Puts tells files counts t k before after old result new = Writes tells files counts (after_change (tmf_trail old) t k after) (tmf_active old) (Image t k.vol k.file k.key before after ∷ []) old result new

-- such a part that ends an active transaction, with this trail
abbrev pub Finishes : {D : Type 0} {d : Ghosts D} → Type 0 → (D → Disk) → (D → Counts) → ℕ → List Record → Tmf D d → Result ℕ NodeFault → Tmf D d → Type 0
Finishes tells files counts t after old result new = Writes tells files counts after (set.remove (tmf_active old) t) (drop (length (tmf_trail old)) after) old result new
