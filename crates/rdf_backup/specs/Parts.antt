-- Shipments as parts of the trail, and the notes of what they bring.
use Rattle.std.specs.Prelude.{◌≡◌, ℕ, ◌-◌, ◌≤◌, true, nat_le, if◌then◌else◌, List, [], ◌∷◌, length, take}
use Rattle.rdf_types.specs.declared.layout.Layout.{Layout}
use Rattle.rdf_types.specs.declared.records.Record.{Record}
use Rattle.rdf_types.specs.declared.records.Stamped.{Stamped}
use Rattle.rdf_model.specs.Window.{part}
use Rattle.open_txns.specs.Noted.{noted}
use Rattle.image_disks.specs.Blocks.{AreEntries}
use Rattle.image_disks.specs.Values.{Value, Shipment, received, kept, merged, listed}
use Rattle.image_disks.specs.Held.{Holds, IsPartOf}
use Rattle.image_trails.specs.Memory.{plan_of}
use Rattle.rdf_core.specs.Layouts.{protects}

-- the trail's part on the positions from one to below another, as a shipment
abbrev pub part_on : Layout → List Record → ℕ → ℕ → Shipment
part_on layout trail from to = record { from = from; to = to; part = part (protects layout) from (take to trail) }

-- the part of a trail on the protected volumes is what image trails take as the trail's part
abbrev pub PartIsPart : Type 0
PartIsPart = (layout : Layout) (trail : List Record) (from to : ℕ) → from ≤ to → to ≤ length trail →
    IsPartOf (plan_of layout) trail (part_on layout trail from to) × AreEntries (λ r. true) from to (part_on layout trail from to).part

-- and a shipment that is the trail's part has just the entries of it
abbrev pub PartIsWhole : Type 0
PartIsWhole = (layout : Layout) (trail : List Record) (ship : Shipment) → ship.from ≤ ship.to → IsPartOf (plan_of layout) trail ship → AreEntries (λ r. true) ship.from ship.to ship.part →
    ship.part ≡ part (protects layout) ship.from (take ship.to trail)

-- what image trails keep of a trail that they hold is its part on the kept positions
abbrev pub KeptIsPart : Type 0
KeptIsPart = (layout : Layout) (trail : List Record) (v : Value) → Holds (plan_of layout) trail v → kept v ≤ received v →
    listed (merged v) (kept v) (received v - kept v) ≡ part (protects layout) (kept v) (take (received v) trail)

-- the open transactions once the entries from a position on are noted
abbrev pub noted_since : ℕ → List (ℕ × ℕ) → List Stamped → List (ℕ × ℕ)
noted_since from opens [] = opens
noted_since from opens (s ∷ rest) = noted_since from (if nat_le from s.pos then noted opens s.pos s.rec else opens) rest
