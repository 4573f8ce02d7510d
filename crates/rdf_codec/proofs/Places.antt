-- Where a fault of a whole input is.
use Rattle.std.proofs.Common.{◌≡◌, ℕ, ◌+◌, List, length, Result, Ok, Err, refl, sym, subst, ◌∙◌, arith}
use Rattle.std.specs.Prelude.{IfErr}
use Rattle.rdf_types.specs.declared.records.Record.{Record}
use Rattle.rdf_codec.specs.declared.fault.CodecFault.{CodecFault}
use Rattle.rdf_codec.specs.declared.fault.CodecFault.TheVariants.{Truncated, BadKind, BadNumber, BadByte, Extra, NoMemory}
use Rattle.rdf_codec.specs.Reading.{IsAnswer, record_at, front_record, IsPlacedIn}
use Rattle.rdf_codec.proofs.Fields.{IsBytes, placed}
use Rattle.rdf_codec.proofs.Faults.{Placed, made_placed}
use Rattle.rdf_codec.proofs.Records.{record_read}

-- of a whole input
placed_in : (bytes : List ℕ) (e : CodecFault) → Placed (0 + length bytes) e → IsPlacedIn bytes e
placed_in bytes (Truncated at) h = omega (arith, h)
placed_in bytes (BadKind at) h = omega (arith, h)
placed_in bytes (BadNumber at) h = omega (arith, h)
placed_in bytes (BadByte at) h = omega (arith, h)
placed_in bytes (Extra at) h = h
placed_in bytes NoMemory h = tt

front_placed : (bytes : List ℕ) (e : CodecFault) → IsBytes bytes → front_record bytes ≡ Err e → IsPlacedIn bytes e
front_placed bytes e fits h =
    placed_in bytes e (made_placed (record_at (placed 0 bytes)) (λ found. (found.0, found.1.at)) e (0 + length bytes) (record_read.placing (placed 0 bytes) e fits) h)

placed_by : (bytes : List ℕ) (read r : Result (Record × ℕ) CodecFault) → IsBytes bytes → front_record bytes ≡ read → IsAnswer read r → IfErr r (IsPlacedIn bytes)
placed_by bytes (Ok x) (Ok y) fits e given = tt
placed_by bytes (Ok x) (Err d) fits e given = subst (IsPlacedIn bytes) (sym given) tt
placed_by bytes (Err d) (Ok y) fits e given = tt
placed_by bytes (Err d) (Err f) fits e given = front_placed bytes f fits (e ∙ sym given)

pub is_placed : (bytes : List ℕ) (r : Result (Record × ℕ) CodecFault) → IsBytes bytes → IsAnswer (front_record bytes) r → IfErr r (IsPlacedIn bytes)
is_placed bytes r fits given = placed_by bytes (front_record bytes) r fits refl given
