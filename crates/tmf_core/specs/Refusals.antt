-- Why a call is refused: the first refusal that applies, in the order in which they are judged.
use Rattle.std.specs.Prelude.{◌≡◌, ℕ, Bool, true, false, not, ◌||◌, ◌==◌, nat_lt, List, [], ◌∷◌, Option, Some, None, is_some, if◌then◌else◌}
use Rattle.std.specs.FinSet as set
use Rattle.rdf_types.specs.declared.records.Record.{Record}
use Rattle.rdf_types.specs.declared.records.RecKey.{RecKey}
use Rattle.rdf_model.specs.Contents.{nothing}
use Rattle.rdf_model.specs.Trail.{raw, owner}
use Rattle.rdf_model.specs.Running.{is_used}
use Rattle.tmf_core.specs.declared.fault.TmfFault.{TmfFault}
use Rattle.tmf_core.specs.declared.fault.TmfFault.TheVariants.{Down, TxnUsed, NoTxn, NoVolume, Locked, Exists, Missing, Node}
use Rattle.rdf_disk.specs.declared.disk.Disk.{Ghosts}
use Rattle.tmf_core.specs.declared.tmf.Tmf.{Tmf}
use Rattle.tmf_core.specs.States.{tmf_trail, tmf_active, tmf_volumes, is_down}

-- a refusal, where the test holds
abbrev pub when : Bool → TmfFault → Option TmfFault
when test why = if test then Some why else None

-- the one, or else the other
abbrev pub or_else : Option TmfFault → Option TmfFault → Option TmfFault
or_else None other = other
or_else (Some why) other = Some why

-- the first refusal that applies
abbrev pub first : List (Option TmfFault) → Option TmfFault
first [] = None
first (why ∷ rest) = or_else why (first rest)

-- the node is down
abbrev pub is_off : {D : Type 0} {d : Ghosts D} → Tmf D d → Option TmfFault
is_off s = when (is_down s) Down

-- the transaction is not active
abbrev pub is_idle : {D : Type 0} {d : Ghosts D} → Tmf D d → ℕ → Option TmfFault
is_idle s t = when (not (set.contains (tmf_active s) t)) NoTxn

-- the volume is not there
abbrev pub is_beyond : {D : Type 0} {d : Ghosts D} → Tmf D d → ℕ → Option TmfFault
is_beyond s vol = when (not (nat_lt vol (tmf_volumes s))) NoVolume

-- another transaction has the record
abbrev pub locked_for : ℕ → Option ℕ → Option TmfFault
locked_for t None = None
locked_for t (Some u) = when (not (u == t)) (Locked u)

-- a value stands at the place
abbrev pub stands : List Record → RecKey → Bool
stands trail k = is_some (raw nothing trail k)

-- the transaction has no say over the record
abbrev pub cannot_use : {D : Type 0} {d : Ghosts D} → Tmf D d → ℕ → RecKey → Option TmfFault
cannot_use s t k = first (is_off s ∷ is_idle s t ∷ is_beyond s k.vol ∷ locked_for t (owner (tmf_trail s) k) ∷ [])

-- a value stands there, or none does, where a call needs the other
abbrev pub mismatch : (needs stands : Bool) → Option TmfFault
mismatch needs stands = if needs then when (not stands) Missing else when stands Exists

-- the refusal of a call that needs a value at the place, or needs none
abbrev pub place_refusal : {D : Type 0} {d : Ghosts D} → Bool → Tmf D d → ℕ → RecKey → Option TmfFault
place_refusal needs s t k = first (cannot_use s t k ∷ mismatch needs (stands (tmf_trail s) k) ∷ [])

-- the refusal of an insert
abbrev pub insert_refusal : {D : Type 0} {d : Ghosts D} → Tmf D d → ℕ → RecKey → Option TmfFault
insert_refusal s t k = place_refusal false s t k

-- the refusal of an update, a delete or a read
abbrev pub value_refusal : {D : Type 0} {d : Ghosts D} → Tmf D d → ℕ → RecKey → Option TmfFault
value_refusal s t k = place_refusal true s t k

-- the refusal of a beginning
abbrev pub begin_refusal : {D : Type 0} {d : Ghosts D} → Tmf D d → ℕ → Option TmfFault
begin_refusal s t = first (is_off s ∷ when (set.contains (tmf_active s) t || is_used t (tmf_trail s)) TxnUsed ∷ [])

-- the refusal of a commit or an abort
abbrev pub end_refusal : {D : Type 0} {d : Ghosts D} → Tmf D d → ℕ → Option TmfFault
end_refusal s t = first (is_off s ∷ is_idle s t ∷ [])

-- the refusal of a list of a volume
abbrev pub scan_refusal : {D : Type 0} {d : Ghosts D} → Tmf D d → ℕ → Option TmfFault
scan_refusal s vol = first (is_off s ∷ is_beyond s vol ∷ [])

-- a beginning that is not done is answered so
abbrev pub IsOfBegin : TmfFault → Type 0
IsOfBegin Down = Unit {0}
IsOfBegin TxnUsed = Unit {0}
IsOfBegin (Node fault) = Unit {0}
IsOfBegin _ = ⊥

-- so is a commit or an abort
abbrev pub IsOfEnd : TmfFault → Type 0
IsOfEnd Down = Unit {0}
IsOfEnd NoTxn = Unit {0}
IsOfEnd (Node fault) = Unit {0}
IsOfEnd _ = ⊥

-- so is a list of a volume
abbrev pub IsOfScan : TmfFault → Type 0
IsOfScan Down = Unit {0}
IsOfScan NoVolume = Unit {0}
IsOfScan (Node fault) = Unit {0}
IsOfScan _ = ⊥

-- a refusal by what the place shows: `Missing` where the call needs a value there, and else `Exists`
abbrev pub IsMismatch : (needs : Bool) → TmfFault → Type 0
IsMismatch needs Exists = needs ≡ false
IsMismatch needs Missing = needs ≡ true
IsMismatch needs _ = ⊥

-- a change or a read that is not done is answered so
abbrev pub IsOfPlace : (needs : Bool) → TmfFault → Type 0
IsOfPlace needs Down = Unit {0}
IsOfPlace needs NoTxn = Unit {0}
IsOfPlace needs NoVolume = Unit {0}
IsOfPlace needs (Locked by) = Unit {0}
IsOfPlace needs Exists = needs ≡ false
IsOfPlace needs Missing = needs ≡ true
IsOfPlace needs (Node fault) = Unit {0}
IsOfPlace needs TxnUsed = ⊥
