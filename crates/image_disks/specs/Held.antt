-- Which trails of records an image disk holds.
use Rattle.std.specs.Prelude.{◌≡◌, ◌≢◌, ℕ, ◌<◌, ◌≤◌, Bool, true, false, if◌then◌else◌, List, [], length, slice_get, Option, Some, None}
use Rattle.rdf_types.specs.declared.records.Record.{Record}
use Rattle.image_disks.specs.Blocks.{Block, Plan, found, keeps, AreEntries}
use Rattle.image_disks.specs.Values.{Value, Shipment, received, kept, merged, with_block, rolled, dropped, second_of, stages}
use Rattle.std.specs.List.{AllByRecursion}
use Rattle.rdf_gatelog.specs.Logs.{Logs}
use Rattle.image_disks.specs.Standing.{Means}

abbrev pub is_kept : Option ℕ → Bool
is_kept None = false
is_kept (Some h) = true

abbrev pub only_if : (Record → Bool) → Option Record → Option Record
only_if test None = None
only_if test (Some r) = if test r then Some r else None

-- the record at that position, if some trail keeps it
abbrev pub concerned : Plan → List Record → ℕ → Option Record
concerned plan trail i = only_if (λ r. is_kept (plan.home r)) (slice_get trail i)

-- the record at that position, if this trail keeps it
abbrev pub on_trail : Plan → ℕ → List Record → ℕ → Option Record
on_trail plan t trail i = only_if (keeps plan t) (slice_get trail i)

-- The kept part is the trail's, and so is what each secondary has ahead.
pub record Holds (plan : Plan) (trail : List Record) (v : Value) : Type 0 where
  pub long : (t : ℕ) → t < 4 → plan.used t ≡ true → v.top t ≤ length trail
  pub part : (i : ℕ) → kept v ≤ i → i < received v → merged v i ≡ concerned plan trail i
  pub ahead : (t i : ℕ) → t < 4 → plan.used t ≡ true → received v ≤ i → i < v.top t → v.entry t i ≡ on_trail plan t trail i

-- the shipment is the trail's part on its range
pub record IsPartOf (plan : Plan) (trail : List Record) (ship : Shipment) : Type 0 where
  pub long : ship.to ≤ length trail
  pub part : (i : ℕ) → ship.from ≤ i → i < ship.to → found ship.part i ≡ concerned plan trail i

-- each record has its home among the trails that have files, and the master has one
pub record IsPlan (plan : Plan) : Type 0 where
  pub master : plan.used 0 ≡ true
  pub homes : (r : Record) (h : ℕ) → plan.home r ≡ Some h → (h < 4) × (plan.used h ≡ true)

-- no used trail ends before the master, and an unused one has nothing
pub record IsOrderly (plan : Plan) (v : Value) : Type 0 where
  pub ahead : (t : ℕ) → t < 4 → plan.used t ≡ true → received v ≤ v.top t
  pub empty : (t i : ℕ) → t < 4 → plan.used t ≡ false → v.entry t i ≡ None

-- a secondary's block holds each trail of records that was held, where the shipment is the trail's part
abbrev pub SecondaryHolds : Type 0
SecondaryHolds = (plan : Plan) (trail : List Record) (v : Value) (ship : Shipment) (t : ℕ) → IsPlan plan → IsOrderly plan v → Holds plan trail v → IsPartOf plan trail ship
    → AreEntries (λ r. true) ship.from ship.to ship.part → ship.from ≤ received v → received v < ship.to → t < 4 → t ≢ 0 → plan.used t ≡ true → Holds plan trail (with_block plan t ship v)

-- and so does the master's, once no secondary is behind
abbrev pub MasterHolds : Type 0
MasterHolds = (plan : Plan) (trail : List Record) (v : Value) (ship : Shipment) → IsPlan plan → IsOrderly plan v → Holds plan trail v → IsPartOf plan trail ship
    → AreEntries (λ r. true) ship.from ship.to ship.part → ship.from ≤ received v → received v < ship.to
    → ((u : ℕ) → u < 4 → plan.used u ≡ true → u ≢ 0 → ship.to ≤ v.top u) → Holds plan trail (with_block plan 0 ship v)

-- a new generation holds what was held
abbrev pub RollHolds : Type 0
RollHolds = (plan : Plan) (trail : List Record) (v : Value) → Holds plan trail v → v.starts ≢ [] → IsOrderly plan v → plan.used 0 ≡ true → Holds plan trail (rolled v)

-- dropping the first generation holds what was held
abbrev pub DropHolds : Type 0
DropHolds = (plan : Plan) (trail : List Record) (v : Value) → Holds plan trail v → kept v ≤ second_of v.starts → second_of v.starts ≤ received v → Holds plan trail (dropped v)

-- what stands on a disk is orderly
abbrev pub StandingIsOrderly : Type 0
StandingIsOrderly = (block_of : List ℕ → Block) (plan : Plan) (logs : Logs) (v : Value) → plan.used 0 ≡ true → Means block_of plan logs v → IsOrderly plan v

-- each value that a store passes through holds what was held, where the shipment is the trail's part on its range
abbrev pub StoreHolds : Type 0
StoreHolds = (plan : Plan) (trail : List Record) (v : Value) (ship : Shipment) → IsPlan plan → IsOrderly plan v → Holds plan trail v → v.starts ≢ [] → IsPartOf plan trail ship
    → AreEntries (λ r. true) ship.from ship.to ship.part → ship.from ≤ received v → received v < ship.to → AllByRecursion (Holds plan trail) (stages plan ship v)
