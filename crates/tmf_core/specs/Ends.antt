-- What a transaction found that ends.
use Rattle.std.specs.Prelude.{◌==◌, Bool, false, not, Option, Some, None}
use Rattle.std.specs.FinMap as map
use Rattle.active_txns.specs.Founds.{FirstBefore}

-- it changed a record
abbrev pub has_changes : Option FirstBefore → Bool
has_changes None = false
has_changes (Some found) = not (map.len found == 0)
