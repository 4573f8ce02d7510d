-- How long a spelling is.
use Rattle.std.proofs.Common.{ℕ, ◌≤◌, List, ◌∷◌, ◌++◌, length, Option, Some, None, arith}
use Rattle.std.specs.Prelude.{IfSome}
use Rattle.std.specs.Int.{w32, to_be_bytes}
use Rattle.std.proofs.lemmas.List.{length-append}
use Rattle.rdf_types.specs.Limits.{IsValue}
use Rattle.rdf_types.specs.declared.records.Record.{Record}
use Rattle.rdf_types.specs.declared.records.Record.TheVariants.{Image, Commit, Abort}
use Rattle.rdf_codec.specs.Spelling.{text, optional, record_spelling, IsRecord}

pub optional_few : (o : Option (List ℕ)) → IfSome o IsValue → length (optional o) ≤ 202
optional_few None is = omega arith
optional_few (Some value) is = omega (arith, is.few)

pub spelling_few : (rec : Record) → IsRecord rec → length (record_spelling rec) ≤ 460
spelling_few (Image txn vol file key before after) is =
    let front : List ℕ = 1 ∷ to_be_bytes w32 txn ++ vol ∷ text file in
    omega (
      arith,
      is.2.few,
      is.3.few,
      optional_few before is.4,
      optional_few after is.5,
      length-append (front ++ text key ++ optional before) (optional after),
      length-append (front ++ text key) (optional before),
      length-append front (text key),
    )
spelling_few (Commit txn) is = omega arith
spelling_few (Abort txn) is = omega arith

pub spelling_some : (rec : Record) → 5 ≤ length (record_spelling rec)
spelling_some (Image txn vol file key before after) =
    let front : List ℕ = 1 ∷ to_be_bytes w32 txn ++ vol ∷ text file in
    omega (arith, length-append (front ++ text key ++ optional before) (optional after), length-append (front ++ text key) (optional before), length-append front (text key))
spelling_some (Commit txn) = omega arith
spelling_some (Abort txn) = omega arith
