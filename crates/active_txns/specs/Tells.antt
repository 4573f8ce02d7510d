-- What the table of active transactions tells of a trail.
use Rattle.std.specs.Prelude.{◌≡◌, ◌==◌, ℕ, List, not, is_some, IfSome}
use Rattle.std.specs.Ordering.{nat_cmp}
use Rattle.std.specs.FinMap as map
use Rattle.std.specs.FinSet as set
use Rattle.std.specs.BTreeSet as sorted
use Rattle.rdf_types.specs.declared.records.Record.{Record}
use Rattle.rdf_types.specs.declared.records.RecKey.{RecKey}
use Rattle.record_locks.specs.Locks.{owner_of}
use Rattle.rdf_model.specs.Trail.{is_open, first_before, owner}
use Rattle.rdf_model.specs.Lines.{found_by}
use Rattle.rdf_model.specs.Running.{is_used}
use Rattle.active_txns.specs.Founds.{FirstBefore}
use Rattle.active_txns.specs.declared.table.ActiveTxns.{ActiveTxns}

-- what was found is the first before image of each place that the transaction changed
abbrev pub IsFound : List Record → ℕ → FirstBefore → Type 0
IsFound trail t found = (q : RecKey) → map.get found q ≡ first_before (λ u. u == t) q trail

-- it is that in the order of the places, and empty exactly where the transaction is not open
pub record IsWhatWasFound (trail : List Record) (t : ℕ) (found : FirstBefore) : Type 0 where
  pub listed : map.entries found ≡ found_by trail t
  pub empty : (map.len found == 0) ≡ not (is_open t trail)

-- the table has the active transactions with what each found, the owner of each record, and the numbers in the trail
pub record Tells (txns : ActiveTxns) (trail : List Record) (active : set.FinSet nat_cmp) : Type 0 where
  pub exact : (t : ℕ) → is_some (map.get txns.active t) ≡ set.contains active t
  pub found : (t : ℕ) → IfSome (map.get txns.active t) (λ found. IsFound trail t found)
  pub used : (t : ℕ) → sorted.contains nat_cmp txns.used t ≡ is_used t trail
  pub locked : (k : RecKey) → owner_of txns.locks k ≡ owner trail k
