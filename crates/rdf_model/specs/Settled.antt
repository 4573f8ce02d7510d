-- Files as the images of transactions without outcome are set back, the last image first.
use Rattle.std.specs.Prelude.{◌≡◌, ℕ, Bool, ◌||◌, if◌then◌else◌}
use Rattle.std.specs.BTreeSet as sorted
use Rattle.std.specs.Ordering.{nat_cmp}
use Rattle.rdf_types.specs.declared.records.Record.{Record}
use Rattle.rdf_model.specs.Contents.{Contents}
use Rattle.rdf_model.specs.Trail.{is_change, is_outcome_of, before_of}

-- whether the transaction is in the set
abbrev pub has : sorted.BTreeSet ℕ → ℕ → Bool
has set t = sorted.contains nat_cmp set t

-- the transaction of an outcome is added
abbrev pub NotesOutcome : Record → sorted.BTreeSet ℕ → sorted.BTreeSet ℕ → Type 0
NotesOutcome rec old new = (t : ℕ) → has new t ≡ (is_outcome_of t rec || has old t)

-- the place holds what an image of it by one of these transactions found, and else what it held
abbrev pub set_back : (ℕ → Bool) → Record → Contents → Contents
set_back who rec files q = if is_change who q rec then before_of rec else files q
