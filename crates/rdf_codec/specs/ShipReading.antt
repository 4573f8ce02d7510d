-- Reading shipments and phases.
use Rattle.std.specs.Prelude.{ℕ, ◌+◌, ◌&&◌, nat_le, nat_lt, List, [], ◌∷◌, Result, Ok}
use Rattle.std.specs.Int.{w64}
use Rattle.rdf_types.specs.declared.records.Stamped.{Stamped}
use Rattle.rdf_types.specs.declared.records.Phase.{Phase}
use Rattle.rdf_types.specs.declared.records.Phase.TheVariants.{Running, Taking, Taken}
use Rattle.rdf_codec.specs.declared.fault.CodecFault.{CodecFault}
use Rattle.rdf_codec.specs.declared.ships.Ship.{Ship}
use Rattle.rdf_codec.specs.Reading.{Rest, ◌>>=◌, number_at, allowed, tagged_at, record_at}
use Rattle.rdf_codec.specs.Lists.{counted_at, whole}

-- a position from low on and below high
unfoldable pub position_at : ℕ → ℕ → Rest → Result (ℕ × Rest) CodecFault
position_at low high i = do
  pos ← number_at w64 i
  allowed (nat_le low pos.0 && nat_lt pos.0 high) i.at pos

-- a position, and the record that stands there
unfoldable pub stamped_at : ℕ → ℕ → Rest → Result (Stamped × Rest) CodecFault
stamped_at high low i = do
  pos ← position_at low high i
  rec ← record_at pos.1
  Ok (record { pos = pos.0; rec = rec.0 }, rec.1)

-- the next record stands behind
abbrev pub next_position : Stamped → ℕ
next_position s = s.pos + 1

-- where a shipment ends, 1 to 64 positions behind its start
unfoldable pub to_at : ℕ → Rest → Result (ℕ × Rest) CodecFault
to_at from i = do
  to ← number_at w64 i
  allowed (nat_lt from to.0 && nat_le to.0 (from + 64)) i.at to

-- a shipment
unfoldable pub ship_at : Rest → Result (Ship × Rest) CodecFault
ship_at i = do
  from ← number_at w64 i
  to ← to_at from.0 from.1
  part ← counted_at (stamped_at to.0) next_position 0 64 from.0 to.1
  Ok (record { from = from.0; to = to.0; part = part.0 }, part.1)

-- the shipment that takes the whole input
abbrev pub ship_of : List ℕ → Result Ship CodecFault
ship_of bytes = whole ship_at bytes

-- the end of a takeover
unfoldable pub taken_at : Rest → Result (Phase × Rest) CodecFault
taken_at i = do
  upto ← number_at w64 i
  Ok (Taken upto.0, upto.1)

-- a phase
unfoldable pub phase_at : Rest → Result (Phase × Rest) CodecFault
phase_at i = tagged_at ((0, λ i. Ok (Running, i)) ∷ (1, λ i. Ok (Taking, i)) ∷ (2, taken_at) ∷ []) i
