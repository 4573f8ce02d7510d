-- Which transaction owns which record.
use Rattle.std.specs.Prelude.{◌≡◌, ◌==◌, ℕ, Bool, true, false, if◌then◌else◌, List, [], ◌∷◌, Option, Some, None}
use Rattle.std.specs.List.{list_any}
use Rattle.std.specs.Ordering.{nat_cmp}
use Rattle.std.specs.FinMap.{FinMap, get, remove}
use Rattle.rdf_types.specs.declared.records.RecKey.{RecKey}
use Rattle.rdf_types.specs.Places.{place_cmp, same_place}

-- the owner of each locked record
abbrev pub Locks : Type 0
Locks = FinMap place_cmp ℕ

-- the transaction that owns the record, if one does
abbrev pub owner_of : Locks → RecKey → Option ℕ
owner_of locks key = get locks key

-- whether the transaction is the owner
abbrev pub is_owner : ℕ → Option ℕ → Bool
is_owner txn None = false
is_owner txn (Some by) = txn == by

-- whether the transaction may lock: nobody else is the owner
abbrev pub is_open_to : ℕ → Option ℕ → Bool
is_open_to txn None = true
is_open_to txn (Some by) = txn == by

-- the owner after the transaction has released its locks
abbrev pub freed : ℕ → Option ℕ → Option ℕ
freed txn owner = if is_owner txn owner then None else owner

-- the places that each transaction has locked, as it notes them
abbrev pub Lists : Type 0
Lists = FinMap nat_cmp (List RecKey)

-- what is listed, or nothing
abbrev pub listed : Option (List RecKey) → List RecKey
listed None = []
listed (Some keys) = keys

-- the places noted for the transaction
abbrev pub places_of : Lists → ℕ → List RecKey
places_of lists txn = listed (get lists txn)

-- a place is noted for a transaction exactly where that is the owner
abbrev pub Agree : Locks → Lists → Type 0
Agree locks lists = (txn : ℕ) (key : RecKey) → list_any (same_place key) (places_of lists txn) ≡ is_owner txn (owner_of locks key)

-- the locks without those on the places
abbrev pub without : Locks → List RecKey → Locks
without locks [] = locks
without locks (key ∷ keys) = without (remove locks key) keys
