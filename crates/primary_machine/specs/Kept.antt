-- What the machine keeps beside the trail of the primary.
use Rattle.std.specs.Prelude.{◌≡◌, ℕ, true, ◌==◌, if◌then◌else◌, List, Option, Some, None, fold, filter_map, refl}
use Rattle.std.specs.Ordering.{nat_cmp}
use Rattle.std.specs.FinSet as set
use Rattle.std.specs.FinMap as map
use Rattle.std.specs.Coded.{Coded, code_by, coded×, coded_ℕ, coded_list, coded_option}
use Rattle.rdf_types.specs.declared.records.Record.{Record}
use Rattle.rdf_types.specs.declared.records.RecKey.{RecKey}
use Rattle.rdf_types.specs.declared.records.Row.{Row}
use Rattle.rdf_types.specs.Places.{place_cmp}
use Rattle.rdf_model.specs.Rows.{as_row}
use Rattle.rdf_model.specs.Contents.{nothing}
use Rattle.rdf_model.specs.Trail.{raw, is_change, txn_of, is_ended, first_before}
use Rattle.rdf_model.specs.Running.{is_used}
use Rattle.rdf_core.specs.declared.events.Standing.{Standing}
use Rattle.active_txns.specs.Founds.{Founds, found_at}
use Rattle.rdf_core.specs.Proper.{IsProperAt}
use Rattle.primary_machine.specs.declared.places.Last.{Last}

-- the last image of each place that has one: what it left, and whose it is
abbrev pub Lasts : Type 0
Lasts = map.FinMap place_cmp Last

-- a last image as a pair
abbrev pub last_code : Coded Last
last_code = code_by (Option (List ℕ) × ℕ) (coded× (coded_option (coded_list coded_ℕ)) coded_ℕ) (λ e. (e.value, e.txn)) (λ p. record { value = p.0; txn = p.1 }) (λ _. refl)

abbrev pub value_of : Option Last → Option (List ℕ)
value_of None = None
value_of (Some e) = e.value

abbrev pub by_of : Option Last → Option ℕ
by_of None = None
by_of (Some e) = Some e.txn

-- the value that the last image of the place left, where there is one
abbrev pub value_in : Lasts → RecKey → Option (List ℕ)
value_in lasts q = value_of (map.get lasts q)

-- the transaction of the last image of the place
abbrev pub txn_in : Lasts → RecKey → Option ℕ
txn_in lasts q = by_of (map.get lasts q)

-- the transaction of the last image of the place in the trail
abbrev pub last_txn : List Record → RecKey → Option ℕ
last_txn trail q = fold (λ last r. if is_change (λ t. true) q r then Some (txn_of r) else last) None trail

-- the last images and the transactions with a record are those of the trail
pub record AreKept (trail : List Record) (lasts : Lasts) (numbers : set.FinSet nat_cmp) : Type 0 where
  pub values : (q : RecKey) → value_in lasts q ≡ raw nothing trail q
  pub txns : (q : RecKey) → txn_in lasts q ≡ last_txn trail q
  pub used : (t : ℕ) → set.contains numbers t ≡ is_used t trail

-- the last images are those of the trail
pub record AreLast (trail : List Record) (lasts : Lasts) : Type 0 where
  pub values : (q : RecKey) → value_in lasts q ≡ raw nothing trail q
  pub txns : (q : RecKey) → txn_in lasts q ≡ last_txn trail q

-- what a transaction without outcome first found at a place
abbrev pub found_in : List Record → ℕ → RecKey → Option (Option (List ℕ))
found_in trail t q = if is_ended t trail then None else first_before (λ u. u == t) q trail

-- what each transaction without outcome found, and of no other
abbrev pub AreFound : List Record → Founds → Type 0
AreFound trail founds = (t : ℕ) (q : RecKey) → map.get (found_at founds t) q ≡ found_in trail t q

-- the row of a place, where a value stands there
abbrev pub row_at : RecKey → Option (List ℕ) → Option Row
row_at k None = None
row_at k (Some value) = Some (as_row (k, value))

-- the rows of the volume, in the order of the entries
abbrev pub rows_in : ℕ → List (RecKey × Last) → List Row
rows_in vol entries = filter_map (λ e. if e.0.vol == vol then row_at e.0 e.1.value else None) entries

-- sets of transactions have a code
abbrev pub txns_code : Coded (set.FinSet nat_cmp)
txns_code = set.code coded_ℕ

-- the transaction, where it is active
abbrev pub if_active : set.FinSet nat_cmp → Option ℕ → Option ℕ
if_active active None = None
if_active active (Some t) = if set.contains active t then Some t else None

-- a primary that is proper, with what is kept beside its trail
pub record IsFit (trail : List Record) (active : set.FinSet nat_cmp) (standing : Standing) (lasts : Lasts) (numbers : set.FinSet nat_cmp) (founds : Founds) : Type 0 where
  pub kept : AreKept trail lasts numbers
  pub found : AreFound trail founds
  pub proper : IsProperAt standing trail active
