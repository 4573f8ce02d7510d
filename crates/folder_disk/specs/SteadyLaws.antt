-- A file is as long as itself.
use Rattle.std.proofs.Common.{◌≡◌, true, ℕ, List, Option, Some, None, refl, arith}
use Rattle.std.proofs.lemmas.Bool.Decides.{nat_tests}
use Rattle.folder_disk.specs.Names.{is_as_long}

pub long_self : (x : Option (List ℕ)) → is_as_long x x ≡ true
long_self None = refl
long_self (Some b) = grind (arith, nat_tests)
