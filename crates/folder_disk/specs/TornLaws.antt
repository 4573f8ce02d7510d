-- A write that left all bytes as they were is one that broke off.
use Rattle.std.proofs.Common.{ℕ, List, Option, Some, None, refl, arith}
use Rattle.rdf_disk.specs.Files.{IsTornFile}

-- the file as it was is one that a broken write may leave
pub torn_same : (at n : ℕ) (x : Option (List ℕ)) → IsTornFile at n x x
torn_same at n None = refl
torn_same at n (Some b) = record { before = refl; after = refl; no_shorter = omega arith; no_longer = omega arith }
