-- What a folder of numbered files holds, what of it is not durable yet, and what a loss of power may leave of it.
use Rattle.std.specs.Prelude.{◌≡◌, ◌≢◌, ◌⊎◌, ℕ, ◌+◌, ◌-◌, ◌≤◌, ◌++◌, ◌==◌, not, min, Bool, true, false, List, [], ◌∷◌, length, take, drop, Option, Some, None, Result, Ok, Err, if◌then◌else◌}
use Rattle.std.specs.Prelude.{nat_eq, nat_lt}
use Rattle.std.specs.List.{list_any}
use Rattle.rdf_types.specs.Counts.{most}
use Rattle.rdf_disk.specs.Files.{FileState, bytes_of, settled, patched, touched, gone, IsTornFile}
use Rattle.rdf_disk.specs.Outcomes.{IsOutcome}
use Rattle.folder_disk.specs.declared.fault.FolderFault.{FolderFault}
use Rattle.folder_disk.specs.declared.fault.FolderFault.TheVariants.{NotFound, Interrupted, Refused, Failed, NoMemory}

-- One file of a folder: what a read gives, what there was when bytes and entry were last durable, and what was asked since.
-- Bytes that its own sync has not made durable are dirty; an entry that the folder's sync has not made durable has moved.
pub record Name : Type 0 where
  pub file : FileState
  pub dirty : Bool
  pub moved : Bool

abbrev pub Names : Type 0
Names = ℕ → Name

-- bytes of a file that is there wait for a sync
abbrev pub dirty_if : Option (List ℕ) → Bool → Bool
dirty_if None dirty = false
dirty_if (Some bytes) dirty = dirty

abbrev pub is_dirty : Name → Bool
is_dirty n = dirty_if n.file.seen n.dirty

-- neither bytes nor entry wait for a sync
abbrev pub is_whole : Name → Bool
is_whole n = if is_dirty n then false else (if n.moved then false else true)

-- what a loss of power may leave of a file: what a read gives where it is whole, and else any mix of what was asked since it was
abbrev pub LeftIf : Bool → FileState → Option (List ℕ) → Type 0
LeftIf true f x = x ≡ f.seen
LeftIf false f x = IsOutcome f x

abbrev pub IsLeft : Name → Option (List ℕ) → Type 0
IsLeft n x = LeftIf (is_whole n) n.file x

-- each name is as it was
abbrev pub Still : Names → Names → Type 0
Still old new = (m : ℕ) → new m ≡ old m

-- the name is now this, and each other is as it was
pub record ChangesName (file : ℕ) (old new : Names) (is : Name) : Type 0 where
  pub this : new file ≡ is
  pub others : (m : ℕ) → m ≢ file → new m ≡ old m

-- a write of n bytes is to come: from here on a loss of power may leave any of them
abbrev pub asked : Name → ℕ → ℕ → Name
asked n at len = record n { file = touched n.file at len n.file.seen }

-- with other bytes, which are not durable
abbrev pub filled : Name → Option (List ℕ) → Name
filled n x = record n { file = record n.file { seen = x }; dirty = true }

-- with a new entry, which is not durable
abbrev pub made : Name → Name
made n = record { file = record n.file { seen = Some (bytes_of n.file.seen) }; dirty = true; moved = true }

-- a removal is to come
abbrev pub asked_away : Name → Name
asked_away n = record n { file = gone n.file n.file.seen }

-- without its entry, or with it, which is not durable
abbrev pub unmade : Name → Option (List ℕ) → Name
unmade n x = record n { file = record n.file { seen = x }; moved = true }

-- the newest write that was asked for has these bytes within it
abbrev pub IsAsked : List (ℕ × ℕ) → ℕ → ℕ → Type 0
IsAsked [] at len = ⊥
IsAsked (w ∷ ws) at len = (w.0 ≤ at) × (at + len ≤ w.0 + w.1)

-- a removal was asked for, or there is nothing to remove
abbrev pub IsAskedAway : FileState → Type 0
IsAskedAway f = f.removed ≡ false → f.seen ≡ None

-- an open that makes nothing
abbrev pub Opens : Result Unit FolderFault → Name → Type 0
Opens (Ok x) n = n.file.seen ≢ None
Opens (Err NotFound) n = n.file.seen ≡ None
Opens (Err Interrupted) n = Unit {0}
Opens (Err Refused) n = Unit {0}
Opens (Err Failed) n = Unit {0}
Opens (Err NoMemory) n = Unit {0}

-- an open that makes the file; one that fails may have made it all the same
abbrev pub Makes : Result Unit FolderFault → ℕ → Names → Names → Type 0
Makes (Ok x) file old new = ChangesName file old new (made (old file))
Makes (Err e) file old new = Still old new ⊎ ChangesName file old new (made (old file))

-- one write: some first bytes of it, or any of them where it fails, or none
abbrev pub Fills : Result ℕ FolderFault → ℕ → ℕ → List ℕ → Names → Names → Type 0
Fills (Ok k) file at bytes old new = (k ≤ length bytes) × ChangesName file old new (filled (old file) (Some (patched (bytes_of (old file).file.seen) at (take k bytes))))
Fills (Err NotFound) file at bytes old new = (x : Option (List ℕ)) × IsTornFile at (length bytes) (old file).file.seen x × ChangesName file old new (filled (old file) x)
Fills (Err Interrupted) file at bytes old new = Still old new
Fills (Err Refused) file at bytes old new = (x : Option (List ℕ)) × IsTornFile at (length bytes) (old file).file.seen x × ChangesName file old new (filled (old file) x)
Fills (Err Failed) file at bytes old new = (x : Option (List ℕ)) × IsTornFile at (length bytes) (old file).file.seen x × ChangesName file old new (filled (old file) x)
Fills (Err NoMemory) file at bytes old new = (x : Option (List ℕ)) × IsTornFile at (length bytes) (old file).file.seen x × ChangesName file old new (filled (old file) x)

-- a removal of an entry; where it fails the entry is there or not
abbrev pub Unmakes : Result Unit FolderFault → ℕ → Names → Names → Type 0
Unmakes (Ok x) file old new = ChangesName file old new (unmade (old file) None)
Unmakes (Err NotFound) file old new = ((old file).file.seen ≡ None) × Still old new
Unmakes (Err Interrupted) file old new = (x : Option (List ℕ)) × ((x ≡ (old file).file.seen) ⊎ (x ≡ None)) × ChangesName file old new (unmade (old file) x)
Unmakes (Err Refused) file old new = (x : Option (List ℕ)) × ((x ≡ (old file).file.seen) ⊎ (x ≡ None)) × ChangesName file old new (unmade (old file) x)
Unmakes (Err Failed) file old new = (x : Option (List ℕ)) × ((x ≡ (old file).file.seen) ⊎ (x ≡ None)) × ChangesName file old new (unmade (old file) x)
Unmakes (Err NoMemory) file old new = (x : Option (List ℕ)) × ((x ≡ (old file).file.seen) ⊎ (x ≡ None)) × ChangesName file old new (unmade (old file) x)

-- a file's own sync makes its bytes durable, unless a sync was refused before
abbrev pub flushed : Name → Name
flushed n = record n { dirty = false }

abbrev pub FlushesTo : Bool → Result Unit FolderFault → ℕ → Name → Names → Names → Type 0
FlushesTo false (Ok x) file is old new = ChangesName file old new is
FlushesTo true (Ok x) file is old new = Still old new
FlushesTo lost (Err e) file is old new = Still old new

abbrev pub Flushes : Bool → Result Unit FolderFault → ℕ → Names → Names → Type 0
Flushes lost answer file old new = FlushesTo lost answer file (flushed (old file)) old new

-- the file is there or not, and as long, as when it was last whole
abbrev pub is_as_long : Option (List ℕ) → Option (List ℕ) → Bool
is_as_long None None = true
is_as_long None (Some safe) = false
is_as_long (Some bytes) None = false
is_as_long (Some bytes) (Some safe) = nat_eq (length bytes) (length safe)

-- neither the entry of a file nor its length changed since it was last whole
abbrev pub is_steady : Name → Bool
is_steady n = if n.moved then false else (if n.file.removed then false else is_as_long n.file.seen n.file.safe)

-- a sync of a file's data makes the bytes of such a file durable, and of any other nothing
abbrev pub flushed_if : Bool → Name → Name
flushed_if true n = flushed n
flushed_if false n = n

abbrev pub FlushesData : Bool → Result Unit FolderFault → ℕ → Names → Names → Type 0
FlushesData lost answer file old new = FlushesTo lost answer file (flushed_if (is_steady (old file)) (old file)) old new

-- the folder's sync makes its entries durable, unless a sync was refused before
abbrev pub entered : Name → Name
entered n = record n { moved = false }

abbrev pub Enters : Bool → Result Unit FolderFault → Names → Names → Type 0
Enters false (Ok x) old new = (m : ℕ) → new m ≡ entered (old m)
Enters true (Ok x) old new = Still old new
Enters lost (Err e) old new = Still old new

-- after a sync that was refused no later one says anything
abbrev pub lost_by : {T : Type 0} → Result T FolderFault → Bool → Bool
lost_by (Ok x) lost = lost
lost_by (Err NotFound) lost = lost
lost_by (Err Interrupted) lost = true
lost_by (Err Refused) lost = true
lost_by (Err Failed) lost = lost
lost_by (Err NoMemory) lost = lost

-- whether an answer is want of memory
abbrev pub is_want : FolderFault → Bool
is_want NotFound = false
is_want Interrupted = false
is_want Refused = false
is_want Failed = false
is_want NoMemory = true

abbrev pub is_wanting : {T : Type 0} → Result T FolderFault → Bool
is_wanting (Ok x) = false
is_wanting (Err e) = is_want e

-- a call that the system did not do is one refusal more, and want of memory is none
abbrev pub one_more : ℕ → ℕ
one_more n = if nat_lt n most then n + 1 else n

abbrev pub refused_for : FolderFault → ℕ → ℕ
refused_for NotFound n = one_more n
refused_for Interrupted n = one_more n
refused_for Refused n = one_more n
refused_for Failed n = one_more n
refused_for NoMemory n = n

abbrev pub refused_by : {T : Type 0} → Result T FolderFault → ℕ → ℕ
refused_by (Ok x) n = n
refused_by (Err e) n = refused_for e n

-- where a call looks for a file, that there is none is no refusal either
abbrev pub missed_for : FolderFault → ℕ → ℕ
missed_for NotFound n = n
missed_for Interrupted n = one_more n
missed_for Refused n = one_more n
missed_for Failed n = one_more n
missed_for NoMemory n = n

abbrev pub missed_by : {T : Type 0} → Result T FolderFault → ℕ → ℕ
missed_by (Ok x) n = n
missed_by (Err e) n = missed_for e n

-- a write that wrote none of some bytes was not done
abbrev pub is_unfilled : {E : Type 0} → Result ℕ E → ℕ → Bool
is_unfilled (Ok k) n = if k == 0 then not (n == 0) else false
is_unfilled (Err e) n = true

abbrev pub unfilled_by : Result ℕ FolderFault → ℕ → ℕ → ℕ
unfilled_by answer n m = if is_unfilled answer n then one_more m else m

-- what a read gives of a file that is whole is what it is measured by from here on
abbrev pub rested_if : Bool → Name → Name
rested_if true n = record n { file = settled n.file.seen }
rested_if false n = n

abbrev pub rested : Name → Name
rested n = rested_if (is_whole n) n

-- one read: some of what there is from that place on, and nothing only at the end
pub record IsRead (x : Option (List ℕ)) (at : ℕ) (old : List ℕ) (n : ℕ) (new : List ℕ) : Type 0 where
  pub within : n ≤ min (length old) (length (bytes_of x) - at)
  pub bytes : new ≡ take n (drop at (bytes_of x)) ++ drop n old
  pub some : n ≡ 0 → min (length old) (length (bytes_of x) - at) ≡ 0

-- these are the numbers of the files that are there
pub record AreAll (numbers : List ℕ) (names : Names) : Type 0 where
  pub there : (m : ℕ) → list_any (nat_eq m) numbers ≡ true → (names m).file.seen ≢ None
  pub all : (m : ℕ) → list_any (nat_eq m) numbers ≡ false → (names m).file.seen ≡ None

-- whether a refusal is one of a sync
abbrev pub is_lost_by : FolderFault → Bool
is_lost_by NotFound = false
is_lost_by Interrupted = true
is_lost_by Refused = true
is_lost_by Failed = false
is_lost_by NoMemory = false
