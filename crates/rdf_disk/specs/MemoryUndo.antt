-- What the bytes of a file in memory and the undo of its changes stand for. The undo is told newest first.
use Rattle.std.specs.Prelude.{◌≡◌, ℕ, ◌+◌, ◌≤◌, List, [], ◌∷◌, length, take, drop, Option, Some, None}
use Rattle.std.specs.Coded.{×_prop, Unit-prop, le_prop}
use Rattle.std.proofs.Math.Nat.{ℕ_set}
use Rattle.rdf_disk.specs.Files.{patched}
use Rattle.rdf_disk.specs.MemoryChanges.{Change, Write, Remove, FailedWrite, FailedRemove, Told, IsTold, IsTold-prop}
use Rattle.rdf_disk.specs.declared.memory_held.Undo.{Undo}
use Rattle.rdf_disk.specs.declared.memory_held.Undo.TheVariants.{OfWrite, OfRemoval, OfFailedWrite, OfFailedRemoval}

-- the file is the first so many of some bytes
abbrev pub content : List ℕ → Option ℕ → Option (List ℕ)
content bytes None = None
content bytes (Some n) = Some (take n bytes)

-- there are as many bytes
abbrev pub IsLong : Option ℕ → ℕ → Type 0
IsLong None n = Unit {0}
IsLong (Some len) n = len ≤ n

-- the undo lies within so many bytes
abbrev pub IsWithin : Undo → ℕ → Type 0
IsWithin (OfWrite odd at held len) n = (at + length held.items ≤ n) × IsLong len n
IsWithin (OfRemoval odd len) n = len ≤ n
IsWithin (OfFailedWrite at m) n = Unit {0}
IsWithin OfFailedRemoval n = Unit {0}

-- the bytes, and how many are the file's, before the change
abbrev pub bytes_before : Undo → List ℕ → List ℕ
bytes_before (OfWrite odd at held len) bytes = patched bytes at held.items
bytes_before (OfRemoval odd len) bytes = bytes
bytes_before (OfFailedWrite at n) bytes = bytes
bytes_before OfFailedRemoval bytes = bytes

abbrev pub len_before : Undo → Option ℕ → Option ℕ
len_before (OfWrite odd at held len) now = len
len_before (OfRemoval odd len) now = Some len
len_before (OfFailedWrite at n) now = now
len_before OfFailedRemoval now = now

-- the change, of which the bytes are those that stand there now
abbrev pub change_of : Undo → List ℕ → Change
change_of (OfWrite odd at held len) bytes = Write odd at (take (length held.items) (drop at bytes))
change_of (OfRemoval odd len) bytes = Remove odd
change_of (OfFailedWrite at n) bytes = FailedWrite at n
change_of OfFailedRemoval bytes = FailedRemove

-- the change, of which the bytes are those held
abbrev pub redo_of : Undo → Change
redo_of (OfWrite odd at held len) = Write odd at held.items
redo_of (OfRemoval odd len) = Remove odd
redo_of (OfFailedWrite at n) = FailedWrite at n
redo_of OfFailedRemoval = FailedRemove

-- the changes, and what the file was before all of them
abbrev pub changes_of : List Undo → List ℕ → List Change
changes_of [] bytes = []
changes_of (u ∷ us) bytes = change_of u bytes ∷ changes_of us (bytes_before u bytes)

abbrev pub safe_of : List Undo → List ℕ → Option ℕ → Option (List ℕ)
safe_of [] bytes len = content bytes len
safe_of (u ∷ us) bytes len = safe_of us (bytes_before u bytes) (len_before u len)

-- each undo lies within so many bytes
abbrev pub AreWithin : List Undo → ℕ → Type 0
AreWithin [] n = Unit {0}
AreWithin (u ∷ us) n = IsWithin u n × AreWithin us n

abbrev pub told_of : List Undo → List ℕ → Option ℕ → Told
told_of us bytes len = record { seen = content bytes len; safe = safe_of us bytes len; changes = changes_of us bytes }

-- a file in memory keeps this: its undo lies within its bytes, and there is room to put each undo aside
pub record IsEntry (bytes : List ℕ) (len : Option ℕ) (us : List Undo) (aside most : ℕ) : Type 0 where
  pub long : IsLong len (length bytes)
  pub within : AreWithin us (length bytes)
  pub told : IsTold (told_of us bytes len)
  pub empty : aside ≡ 0
  pub room : length us ≤ most

long-prop : (len : Option ℕ) (n : ℕ) → IsProp (IsLong len n)
long-prop None n = Unit-prop
long-prop (Some len) n = le_prop

within-prop : (u : Undo) (n : ℕ) → IsProp (IsWithin u n)
within-prop (OfWrite odd at held len) n = ×_prop le_prop (long-prop len n)
within-prop (OfRemoval odd len) n = le_prop
within-prop (OfFailedWrite at m) n = Unit-prop
within-prop OfFailedRemoval n = Unit-prop

all_within-prop : (us : List Undo) (n : ℕ) → IsProp (AreWithin us n)
all_within-prop [] n = Unit-prop
all_within-prop (u ∷ us) n = ×_prop (within-prop u n) (all_within-prop us n)

pub IsEntry-prop : (bytes : List ℕ) (len : Option ℕ) (us : List Undo) (aside most : ℕ) → IsProp (IsEntry bytes len us aside most)
IsEntry-prop bytes len us aside most = hlevel (le_prop, ℕ_set, long-prop, all_within-prop, IsTold-prop)
