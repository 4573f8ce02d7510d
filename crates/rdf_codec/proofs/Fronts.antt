-- The record at the front of a whole input.
use Rattle.std.proofs.Common.{◌≡◌, ℕ, ◌+◌, ◌≤◌, List, ◌++◌, length, take, Result, Ok, Err, refl, sym, ap, subst, ◌∙◌, arith}
use Rattle.std.specs.Prelude.{IfOk, MatchResult}
use Rattle.std.proofs.lemmas.List.{take_at, length-append}
use Rattle.rdf_types.specs.declared.records.Record.{Record}
use Rattle.rdf_codec.specs.declared.fault.CodecFault.{CodecFault}
use Rattle.rdf_codec.specs.declared.fault.CodecFault.TheVariants.{NoMemory}
use Rattle.rdf_codec.specs.Spelling.{record_spelling, IsRecord}
use Rattle.rdf_codec.specs.Reading.{IsAnswer, record_at, front_record}
use Rattle.rdf_codec.proofs.Fields.{IsBytes, bind_ok, ok_is, placed}
use Rattle.rdf_codec.proofs.Records.{record_read}

-- what was found at the front
pub record Found (bytes : List ℕ) (x : Record × ℕ) : Type 0 where
  pub limits : IsRecord x.0
  pub front : take x.1 bytes ≡ record_spelling x.0
  pub size : x.1 ≡ length (record_spelling x.0)
  pub within : x.1 ≤ length bytes

front_found : (bytes : List ℕ) (x : Record × ℕ) → IsBytes bytes → front_record bytes ≡ Ok x → Found bytes x
front_found bytes x fits e =
    let a = bind_ok (record_at (placed 0 bytes)) (λ found. Ok (found.0, found.1.at)) x e in
    let t = record_read.field.takes (placed 0 bytes) a.0 fits a.1 in
    let size : a.0.1.at ≡ length (record_spelling a.0.0) = omega (arith, t.0.place) in
    let made : Found bytes (a.0.0, a.0.1.at) = record {
      limits = t.1;
      front = ap (take a.0.1.at) t.0.parts ∙ take_at (record_spelling a.0.0) a.0.1.bytes a.0.1.at (sym size);
      size = size;
      within = omega (arith, size, ap length t.0.parts, length-append (record_spelling a.0.0) a.0.1.bytes);
    } in
    subst (Found bytes) (ok_is (a.0.0, a.0.1.at) x a.2) made

found_in : (bytes : List ℕ) (read r : Result (Record × ℕ) CodecFault) → IsBytes bytes → front_record bytes ≡ read → IsAnswer read r → IfOk r (Found bytes)
found_in bytes (Ok x) (Ok y) fits e given = subst (Found bytes) (sym given) (front_found bytes x fits e)
found_in bytes (Ok x) (Err d) fits e given = tt
found_in bytes (Err d) (Ok y) fits e given = absurd cc
found_in bytes (Err d) (Err f) fits e given = tt

pub is_found : (bytes : List ℕ) (r : Result (Record × ℕ) CodecFault) → IsBytes bytes → IsAnswer (front_record bytes) r → IfOk r (Found bytes)
is_found bytes r fits given = found_in bytes (front_record bytes) r fits refl given

-- what is spelled in front is read, unless memory runs out
pub is_read : (bytes : List ℕ) (r : Result (Record × ℕ) CodecFault) → IsAnswer (front_record bytes) r
    → (rec : Record) (more : List ℕ) → IsRecord rec → bytes ≡ record_spelling rec ++ more → MatchResult r (λ x. x ≡ (rec, length (record_spelling rec))) (λ e. e ≡ NoMemory)
is_read bytes r given rec more is e =
    let place : 0 + length (record_spelling rec) ≡ length (record_spelling rec) = omega arith in
    let read : front_record bytes ≡ Ok (rec, length (record_spelling rec)) = ap front_record e ∙ rw (record_read.field.again rec 0 more is, place) refl in
    subst (λ (t : Result (Record × ℕ) CodecFault). IsAnswer t r) read given
