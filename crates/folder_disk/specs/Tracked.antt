-- What a disk knows of the folder that it keeps, and what its calls do.
use Rattle.std.proofs.Common.{ap}
use Rattle.std.specs.Prelude.{◌-◌, ◌^◌, ◌+◌, ◌<◌, ◌≢◌, ◌≡◌, ◌≤◌, ◌⊎◌, ℕ, Bool, true, false, List, length, nat_eq, Option, Some, None, Result, Ok, Err}
use Rattle.std.specs.List.{list_any}
use Rattle.rdf_disk.specs.Files.{Disk, FileState, ChangesFile, IsTornFile, bytes_of, patched, settled}
use Rattle.folder_disk.specs.declared.fault.FolderFault.{FolderFault}
use Rattle.folder_disk.specs.Names.{Names, IsAsked, is_dirty, is_steady, unmade}

-- each file of which bytes wait for a sync is among the numbers
abbrev pub AreListed : Names → List ℕ → Type 0
AreListed names numbers = (m : ℕ) → list_any (nat_eq m) numbers ≡ false → is_dirty (names m) ≡ false

-- no file with one of these numbers has bytes that wait for a sync
abbrev pub AreFlushed : Names → List ℕ → Type 0
AreFlushed names numbers = (m : ℕ) → list_any (nat_eq m) numbers ≡ true → is_dirty (names m) ≡ false

-- each file whose number is not among these has the entry and the length that it had when it was last whole
abbrev pub AreSteady : Names → List ℕ → Type 0
AreSteady names numbers = (m : ℕ) → list_any (nat_eq m) numbers ≡ false → is_steady (names m) ≡ true

-- what ends there is within a file that is there
abbrev pub Reaches : Option (List ℕ) → ℕ → Type 0
Reaches None end = ⊥
Reaches (Some bytes) end = end ≤ length bytes

-- a change that ends there makes the file longer, or makes it, only where its number is among these
abbrev pub IsNoted : List ℕ → ℕ → Option (List ℕ) → ℕ → Type 0
IsNoted numbers file x end = list_any (nat_eq file) numbers ≡ false → Reaches x end

-- no entry waits for a sync
abbrev pub NoneMoved : Names → Type 0
NoneMoved names = (m : ℕ) → (names m).moved ≡ false

-- each of these numbers is among those
abbrev pub AreIn : List ℕ → List ℕ → Type 0
AreIn numbers all = (m : ℕ) → list_any (nat_eq m) numbers ≡ true → list_any (nat_eq m) all ≡ true

-- the files as the disk's stop model has them
abbrev pub files_of : Names → Disk
files_of names m = (names m).file

-- a disk that is off keeps what a read gives: its restart makes that durable
abbrev pub files_if : Bool → Names → Disk
files_if true names m = settled (names m).file.seen
files_if false names m = (names m).file

-- the same file, of which a read gives this
abbrev pub reseen : FileState → Option (List ℕ) → FileState
reseen f x = record f { seen = x }

-- the file was made where it was missing, or not
pub record IsHeld (file : ℕ) (old new : Disk) : Type 0 where
  pub x : Option (List ℕ)
  pub bytes : bytes_of x ≡ bytes_of (old file).seen
  pub there : x ≡ None → (old file).seen ≡ None
  pub is : ChangesFile file old new (reseen (old file) x)

-- some first bytes of a write that was asked for are there
abbrev pub IsFilled : ℕ → ℕ → List ℕ → Disk → Disk → Type 0
IsFilled file at bytes old new = ChangesFile file old new (reseen (old file) (Some (patched (bytes_of (old file).seen) at bytes)))

-- any bytes of a write that was asked for are there
pub record IsHalfFilled (file at n : ℕ) (old new : Disk) : Type 0 where
  pub x : Option (List ℕ)
  pub torn : IsTornFile at n (old file).seen x
  pub is : ChangesFile file old new (reseen (old file) x)

-- a write was asked for, leaves no gap, and its file is noted where it gets longer
pub record IsDue (numbers : List ℕ) (file at n : ℕ) (files : Disk) : Type 0 where
  pub asked : IsAsked (files file).writes at n
  pub no_gap : at ≤ length (bytes_of (files file).seen)
  pub noted : IsNoted numbers file (files file).seen (at + n)

-- a file that is there is among the numbers, and there is room for one that is not
pub record HasPlace (there : Bool) (file : ℕ) (numbers : List ℕ) (len capacity : ℕ) : Type 0 where
  pub listed : there ≡ true → list_any (nat_eq file) numbers ≡ true
  pub room : there ≡ false → len < capacity

-- a removal that was asked for was done
pub record IsUnlinked (file : ℕ) (old new : Names) : Type 0 where
  pub this : (new file).file ≡ reseen (old file).file None
  pub others : (m : ℕ) → m ≢ file → new m ≡ old m

-- or it was done or not
pub record MayBeGone (file : ℕ) (old new : Names) : Type 0 where
  pub x : Option (List ℕ)
  pub one : (x ≡ (old file).file.seen) ⊎ (x ≡ None)
  pub this : new file ≡ unmade (old file) x
  pub others : (m : ℕ) → m ≢ file → new m ≡ old m

-- the same of the files: the file is gone, or it is there or not
abbrev pub IsGone : Result Unit FolderFault → ℕ → Disk → Disk → Type 0
IsGone (Ok x) file old new = ChangesFile file old new (reseen (old file) None)
IsGone (Err e) file old new = (x : Option (List ℕ)) × ((x ≡ (old file).seen) ⊎ (x ≡ None)) × ChangesFile file old new (reseen (old file) x)

-- the lowest of some numbers, and one more than the highest; both 0 where there is none
pub record IsSpanOf (numbers : List ℕ) (low above : ℕ) : Type 0 where
  pub within : (m : ℕ) → list_any (nat_eq m) numbers ≡ true → (low ≤ m) × (m < above)
  pub none : above ≡ 0 → low ≡ 0
  pub low_is : 0 < above → (low < above) × (list_any (nat_eq low) numbers ≡ true)
  pub high_is : (m : ℕ) → above ≡ m + 1 → list_any (nat_eq m) numbers ≡ true

-- a disk that is off goes on with what a read gives
pub none_if : (off : Bool) (names : Names) → (names (2 ^ 32 - 1)).file ≡ settled None → files_if off names (2 ^ 32 - 1) ≡ settled None
none_if true names is = ap (λ (f : FileState). settled f.seen) is
none_if false names is = is

-- whether a file is there
abbrev pub IsThere : Bool → Option (List ℕ) → Type 0
IsThere true x = x ≢ None
IsThere false x = x ≡ None
