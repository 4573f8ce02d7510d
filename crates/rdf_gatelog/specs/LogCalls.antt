-- What the calls of a log do to the files of its disk, by their answers.
use Rattle.std.specs.Prelude.{◌≡◌, ◌≢◌, ◌⊎◌, ◌≤◌, ℕ, ◌+◌, List, [], ◌∷◌, ◌++◌, Option, Some, None, Result, Ok, Err, MatchResult, length, Vec}
use Rattle.std.specs.declared.alloc.Global.{Global}
use Rattle.std.specs.List.{AllByRecursion}
use Rattle.std.specs.Option.{option_map}
use Rattle.rdf_disk.specs.Files.{FileState, Disk, settled, bytes_of, patched}
use Rattle.rdf_disk.specs.Outcomes.{May, Surely, Narrows}
use Rattle.rdf_disk.specs.Calls.{Same, AllSettle}
use Rattle.rdf_gatelog.specs.declared.fault.LogFault.{LogFault}
use Rattle.rdf_gatelog.specs.declared.fault.LogFault.TheVariants.{Stopped, Failed, NoMemory, Damaged}
use Rattle.rdf_gatelog.specs.Log.{IsPayload, framed, open_blocks, IsLogFile, IsAtRest, payloads_of}
use Rattle.rdf_gatelog.specs.LogPlace.{LogPlace}

-- what a read gives of each other file is safe
abbrev pub OthersSynced : ℕ → Disk → Disk → Type 0
OthersSynced file old new = (m : ℕ) → m ≢ file → new m ≡ settled (old m).seen

-- of each other file there may be nothing that there might not have been before
abbrev pub OthersNarrow : ℕ → Disk → Disk → Type 0
OthersNarrow file old new = (m : ℕ) → m ≢ file → Narrows (old m) (new m)

-- a call of a log that only looks: the files stay, unless the disk stops
abbrev pub OnlyLooks : {T : Type 0} → Result T LogFault → Disk → Disk → Type 0
OnlyLooks (Ok x) old new = Same old new
OnlyLooks (Err Stopped) old new = AllSettle old new
OnlyLooks (Err Failed) old new = Same old new
OnlyLooks (Err NoMemory) old new = Same old new
OnlyLooks (Err (Damaged file at)) old new = Same old new

-- a new log is at rest, without blocks, and is a closed gate alone
pub record Created (file end : ℕ) (old new : Disk) : Type 0 where
  pub log : IsAtRest file end [] new
  pub bytes : (new file).seen ≡ Some (0 ∷ [])
  pub others : OthersSynced file old new

-- there is no new file, or a log without blocks
pub record NotCreated (file : ℕ) (old new : Disk) : Type 0 where
  pub log : Surely (new file) (λ x. (x ≡ None) ⊎ IsLogFile [] x)
  pub others : OthersNarrow file old new

-- The making of a log in a file that wasn't there. Ok is the new log; after an Err there is none, or one without blocks.
abbrev pub Creates : ℕ → Result LogPlace LogFault → Disk → Disk → Type 0
Creates file result old new = MatchResult result (λ log. Created file log.end old new) (λ e. NotCreated file old new)

-- the file is a log of the payloads, without the others or with all of these
abbrev pub IsBeforeOrAfterAll : List (List ℕ) → List (List ℕ) → Option (List ℕ) → Type 0
IsBeforeOrAfterAll payloads more x = IsLogFile payloads x ⊎ IsLogFile (payloads ++ more) x

-- An append of payloads, all at once, to a log whose blocks ended at that place. Ok is the log with them, at rest; after an Err it is surely the log with none of them or with all.
abbrev pub AppendsAll : {T : Type 0} → ℕ → ℕ → ℕ → List (List ℕ) → Result T LogFault → Disk → Disk → Type 0
AppendsAll file end new_end more (Ok x) old new =
    ((payloads : List (List ℕ)) → IsAtRest file end payloads old → IsAtRest file new_end (payloads ++ more) new) × OthersSynced file old new
AppendsAll file end new_end more (Err e) old new =
    ((payloads : List (List ℕ)) → IsAtRest file end payloads old → Surely (new file) (IsBeforeOrAfterAll payloads more)) × OthersNarrow file old new

-- the same of one payload
abbrev pub Appends : ℕ → ℕ → ℕ → List ℕ → Result ℕ LogFault → Disk → Disk → Type 0
Appends file end new_end payload result old new = AppendsAll file end new_end (payload ∷ []) result old new

-- The bytes are the blocks of these payloads but for the first gate, with open gates between them and a closed one at the end.
pub record AreBehind (payloads : List (List ℕ)) (bytes : List ℕ) : Type 0 where
  pub bytes_are : 1 ∷ bytes ≡ open_blocks payloads ++ 0 ∷ []
  pub fit : AllByRecursion IsPayload payloads

-- whatever payloads the bytes behind the gate are the blocks of, an append of them all
abbrev pub OpensBehind : {T : Type 0} → ℕ → ℕ → List ℕ → Result T LogFault → Disk → Disk → Type 0
OpensBehind file gate bytes result old new = (more : List (List ℕ)) → AreBehind more bytes → AppendsAll file gate (gate + length bytes) more result old new

-- payloads that may be appended at once: there are some, and each is one that a block may hold
pub record ArePayloads (payloads : List (List ℕ)) : Type 0 where
  pub some : 1 ≤ length payloads
  pub fit : AllByRecursion IsPayload payloads

-- a log's bytes with a block more in place of the gate at that place, and a closed gate behind it
abbrev pub with_block : List ℕ → ℕ → List ℕ → List ℕ
with_block old gate payload = patched old gate ((1 ∷ framed payload) ++ 0 ∷ [])

-- the file's bytes are those before with that block more
abbrev pub HasBlock : ℕ → ℕ → List ℕ → Disk → Disk → Type 0
HasBlock file gate payload old new = (new file).seen ≡ Some (with_block (bytes_of (old file).seen) gate payload)

-- what a log's bytes are once it is mounted: a closed gate in place of at most one byte, else the same
abbrev pub gated : List ℕ → List ℕ
gated [] = 0 ∷ []
gated (gate ∷ []) = 0 ∷ []
gated (gate ∷ next ∷ rest) = gate ∷ next ∷ rest

-- the log that was mounted is at rest, and is what the file stood for
pub record Mounted (file end : ℕ) (payloads : List (List ℕ)) (old new : Disk) : Type 0 where
  pub log : IsAtRest file end payloads new
  pub bytes : (new file).seen ≡ option_map gated (old file).seen
  pub stood : IsLogFile payloads (old file).seen
  pub only : (others : List (List ℕ)) → IsLogFile others (old file).seen → payloads ≡ others
  pub others : OthersSynced file old new

-- The opening of a file's log. Ok is the log with its payloads; after an Err no other file may be more than it might have been.
abbrev pub Mounts : ℕ → Result (LogPlace × Vec (Vec ℕ Global) Global) LogFault → Disk → Disk → Type 0
Mounts file result old new = MatchResult result (λ found. Mounted file found.0.end (payloads_of found.1) old new) (λ e. OthersNarrow file old new)

-- what either of the two is a log of, the other is too, and both are absent or neither is
pub record SameLog (x y : Option (List ℕ)) : Type 0 where
  pub logs : (payloads : List (List ℕ)) → IsLogFile payloads x → IsLogFile payloads y
  pub logs_back : (payloads : List (List ℕ)) → IsLogFile payloads y → IsLogFile payloads x
  pub absent : x ≡ None → y ≡ None
  pub absent_back : y ≡ None → x ≡ None

-- whatever there may be now of the file is the same log as something that there might have been before
abbrev pub KeepsLog : FileState → FileState → Type 0
KeepsLog old new = (y : Option (List ℕ)) → May new y → (x : Option (List ℕ)) × May old x × SameLog x y

-- the same of each file of a disk
abbrev pub KeepsLogs : Disk → Disk → Type 0
KeepsLogs old new = (m : ℕ) → KeepsLog (old m) (new m)
