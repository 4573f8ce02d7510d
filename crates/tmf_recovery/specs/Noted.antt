-- Transactions with an image that are met in a trail.
use Rattle.std.specs.Prelude.{ℕ, Bool, List, if◌then◌else◌}
use Rattle.std.specs.BTreeSet as sorted
use Rattle.std.specs.Ordering.{nat_cmp}
use Rattle.rdf_types.specs.declared.records.Record.{Record}
use Rattle.rdf_types.specs.declared.records.Record.TheVariants.{Image, Commit, Abort}

-- the numbers with the transaction of an image, unless it has ended
abbrev pub with_image : (ℕ → Bool) → Record → List ℕ → List ℕ
with_image ended (Image txn vol file key before after) keys = if ended txn then keys else sorted.insert_key nat_cmp keys txn
with_image ended (Commit txn) keys = keys
with_image ended (Abort txn) keys = keys
