-- What the calls of the table of active transactions do to it.
use Rattle.std.specs.Prelude.{◌≡◌, ◌==◌, ◌||◌, ℕ, List, Option, true}
use Rattle.std.specs.Ordering.{nat_cmp}
use Rattle.std.specs.FinMap as map
use Rattle.std.specs.BTreeSet as sorted
use Rattle.rdf_types.specs.declared.records.RecKey.{RecKey}
use Rattle.record_locks.specs.Locks.{owner_of, is_open_to, freed}
use Rattle.active_txns.specs.Founds.{noted, found_at}
use Rattle.active_txns.specs.declared.table.ActiveTxns.{ActiveTxns}

-- the transaction is active and found nothing yet
pub record Begins (t : ℕ) (old new : ActiveTxns) : Type 0 where
  pub active : new.active ≡ map.insert old.active t map.empty
  pub used : new.used ≡ old.used
  pub locks : new.locks ≡ old.locks

-- nobody else owns the place; it is locked, what stood there is noted, and the number is used
pub record Notes (t : ℕ) (k : RecKey) (before : Option (List ℕ)) (old new : ActiveTxns) : Type 0 where
  pub active : new.active ≡ map.insert old.active t (noted (found_at old.active t) k before)
  pub used : (u : ℕ) → sorted.contains nat_cmp new.used u ≡ ((u == t) || sorted.contains nat_cmp old.used u)
  pub locks : new.locks ≡ map.insert old.locks k t
  pub free : is_open_to t (owner_of old.locks k) ≡ true

-- the transaction is not active, and owns nothing
pub record Leaves (t : ℕ) (old new : ActiveTxns) : Type 0 where
  pub active : new.active ≡ map.remove old.active t
  pub used : new.used ≡ old.used
  pub locks : (k : RecKey) → owner_of new.locks k ≡ freed t (owner_of old.locks k)
