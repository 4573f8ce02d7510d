-- The one spelling of a stamped record, a phase and a shipment.
use Rattle.std.specs.Prelude.{ℕ, ◌+◌, ◌<◌, ◌≤◌, ◌^◌, List, [], ◌∷◌, ◌++◌, length}
use Rattle.std.specs.Int.{w16, w64, to_be_bytes}
use Rattle.std.specs.List.{All, flat_map}
use Rattle.rdf_types.specs.declared.records.Stamped.{Stamped}
use Rattle.rdf_types.specs.declared.records.Phase.{Phase}
use Rattle.rdf_types.specs.declared.records.Phase.TheVariants.{Running, Taking, Taken}
use Rattle.rdf_codec.specs.declared.ships.Ship.{Ship}
use Rattle.rdf_codec.specs.Spelling.{record_spelling, IsRecord}

-- the position, and the record
abbrev pub stamped_spelling : Stamped → List ℕ
stamped_spelling s = to_be_bytes w64 s.pos ++ record_spelling s.rec

-- from where to where, how many records, and the records
abbrev pub ship_spelling : Ship → List ℕ
ship_spelling ship = to_be_bytes w64 ship.from ++ to_be_bytes w64 ship.to ++ to_be_bytes w16 (length ship.part) ++ flat_map stamped_spelling ship.part

-- the positions rise strictly, from low on and below high
abbrev pub RiseWithin : ℕ → ℕ → List Stamped → Type 0
RiseWithin low high [] = Unit {0}
RiseWithin low high (s ∷ part) = (low ≤ s.pos) × (s.pos < high) × RiseWithin (s.pos + 1) high part

-- a shipment that can be spelled: it covers 1 to 64 positions, and its records stand there
pub record HasShipSpelling (ship : Ship) : Type 0 where
  pub some : ship.from < ship.to
  pub few : ship.to ≤ ship.from + 64
  pub rise : RiseWithin ship.from ship.to ship.part

-- within the limits of the types
abbrev pub IsStamped : Stamped → Type 0
IsStamped s = (s.pos < 2 ^ 64) × IsRecord s.rec

-- a shipment that can be spelled, within the limits of the types
pub record IsShip (ship : Ship) : Type 0 where
  pub spelled : HasShipSpelling ship
  pub starts : ship.from < 2 ^ 64
  pub ends : ship.to < 2 ^ 64
  pub within : All IsStamped ship.part

-- 0, 1, or 2 and how far it was taken over
abbrev pub phase_spelling : Phase → List ℕ
phase_spelling Running = 0 ∷ []
phase_spelling Taking = 1 ∷ []
phase_spelling (Taken upto) = 2 ∷ to_be_bytes w64 upto

-- within the limits of the types
abbrev pub IsPhase : Phase → Type 0
IsPhase Running = Unit {0}
IsPhase Taking = Unit {0}
IsPhase (Taken upto) = upto < 2 ^ 64
