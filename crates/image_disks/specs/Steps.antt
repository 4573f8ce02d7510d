-- What one step more makes of a disk that stands for a value.
use Rattle.std.specs.Prelude.{◌≡◌, ◌≢◌, ℕ, ◌+◌, ◌<◌, ◌≤◌, true, List, [], ◌∷◌, ◌++◌, Some}
use Rattle.rdf_types.specs.declared.records.Phase.{Phase}
use Rattle.rdf_gatelog.specs.Logs.{Logs, pushed}
use Rattle.image_disks.specs.Blocks.{Block, Start, Ship, Mark, Plan, AreEntries, kept_of, IsPhaseAt}
use Rattle.image_disks.specs.Values.{Value, Shipment, received, marked, with_block, rolled}
use Rattle.image_disks.specs.Standing.{file_of, MeansBy}

-- a Mark on the last master: the value with that phase
abbrev pub MarkMeans : Type 0
MarkMeans = (block_of : List ℕ → Block) (plan : Plan) (logs : Logs) (v : Value) (p : List ℕ) (phase : Phase) → plan.used 0 ≡ true → block_of p ≡ Mark phase → IsPhaseAt (v.top 0) phase
    → (masters : List ℕ) → MeansBy block_of plan logs masters v → MeansBy block_of plan (pushed logs (file_of v.last 0) p) masters (marked phase v)

-- a Ship behind a trail's top, no lower than the master's: the value with that trail's part of the shipment
abbrev pub ShipMeans : Type 0
ShipMeans = (block_of : List ℕ → Block) (plan : Plan) (logs : Logs) (v : Value) (ship : Shipment) (t : ℕ) (p : List ℕ)
    → t < 4 → plan.used t ≡ true → block_of p ≡ Ship (v.top t) ship.to (kept_of plan t (v.top t) ship.part)
    → AreEntries (λ r. true) ship.from ship.to ship.part → v.top t < ship.to
    → (t ≡ 0 → (u : ℕ) → u < 4 → plan.used u ≡ true → u ≢ 0 → ship.to ≤ v.top u)
    → (masters : List ℕ) → MeansBy block_of plan logs masters v → MeansBy block_of plan (pushed logs (file_of v.last t) p) masters (with_block plan t ship v)

-- a Start on a new master, whose secondaries are there without blocks: the value with a new generation
abbrev pub RollMeans : Type 0
RollMeans = (block_of : List ℕ → Block) (plan : Plan) (logs : Logs) (v : Value) (p : List ℕ) → plan.used 0 ≡ true → v.last < 1000000000 → block_of p ≡ Start (received v) v.phase
    → logs (file_of (v.last + 1) 0) ≡ Some [] → ((t : ℕ) → t < 4 → t ≢ 0 → plan.used t ≡ true → logs (file_of (v.last + 1) t) ≡ Some [])
    → (masters : List ℕ) → MeansBy block_of plan logs masters v → MeansBy block_of plan (pushed logs (file_of (v.last + 1) 0) p) (masters ++ file_of (v.last + 1) 0 ∷ []) (rolled v)
