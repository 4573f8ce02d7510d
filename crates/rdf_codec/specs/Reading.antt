-- Reading from left to right, with the first fault that is met. A field that passes the end of the input is cut off,
-- whatever its bytes are before the end. The length of a text is a field of its own.
use Rattle.std.specs.Prelude.{◌≡◌, ℕ, ◌+◌, ◌<◌, ◌==◌, Bool, not, ◌||◌, nat_lt, List, [], ◌∷◌, length, take, drop, slice_index, Option, Some, None, Result, Ok, Err, MatchResult, if◌then◌else◌, position}
use Rattle.std.specs.Int.{Width, w32, byte_len, from_be_bytes}
use Rattle.rdf_types.specs.Limits.{is_name_byte, is_text_byte}
use Rattle.rdf_types.specs.declared.records.Record.{Record}
use Rattle.rdf_types.specs.declared.records.Record.TheVariants.{Image, Commit, Abort}
use Rattle.rdf_codec.specs.declared.fault.CodecFault.{CodecFault}
use Rattle.rdf_codec.specs.declared.fault.CodecFault.TheVariants.{Truncated, BadKind, BadNumber, BadByte, Extra, NoMemory}
use Rattle.rdf_codec.specs.declared.input.Input.{Input}

-- what is left to read, and the place of its first byte
pub record Rest : Type 0 where
  pub at : ℕ
  pub bytes : List ℕ

-- the same of the program's input
abbrev pub left_of : Input → Rest
left_of i = record { at = i.at; bytes = i.bytes.now }

-- read on behind a field, unless there was a fault
infixl 10 ◌>>=◌
abbrev pub ◌>>=◌ : {A B : Type 0} → Result A CodecFault → (A → Result B CodecFault) → Result B CodecFault
(Ok x) >>= f = f x
(Err e) >>= f = Err e

-- what a function returned, seen by view, is what reading gives
abbrev pub Gives : {X Y : Type 0} → (X → Y) → Result X CodecFault → Result Y CodecFault → Type 0
Gives view (Ok x) read = read ≡ Ok (view x)
Gives view (Err e) read = read ≡ Err e

-- what reading gives, or want of memory where it gives a value
abbrev pub IsAnswer : {X : Type 0} → Result X CodecFault → Result X CodecFault → Type 0
IsAnswer (Ok x) result = MatchResult result (λ y. y ≡ x) (λ e. e ≡ NoMemory)
IsAnswer (Err e) result = result ≡ Err e

-- a field of so many bytes
abbrev pub bytes_at : ℕ → Rest → Result (List ℕ × Rest) CodecFault
bytes_at n i = if nat_lt (length i.bytes) n then Err (Truncated (i.at + length i.bytes)) else Ok (take n i.bytes, record { at = i.at + n; bytes = drop n i.bytes })

-- a field of one byte
abbrev pub byte_at : Rest → Result (ℕ × Rest) CodecFault
byte_at i = do
  field ← bytes_at 1 i
  Ok (slice_index field.0 0, field.1)

-- a number of a width, the highest byte first
abbrev pub number_at : Width → Rest → Result (ℕ × Rest) CodecFault
number_at w i = do
  field ← bytes_at (byte_len w) i
  Ok (from_be_bytes w field.0, field.1)

-- the field at a place, or that its value may not stand there
abbrev pub allowed : {X : Type 0} → Bool → ℕ → X → Result X CodecFault
allowed test at field = if test then Ok field else Err (BadNumber at)

-- a volume's number, 0 to 15
unfoldable pub volume_at : Rest → Result (ℕ × Rest) CodecFault
volume_at i = do
  vol ← byte_at i
  allowed (nat_lt vol.0 16) i.at vol

-- the field, or its first byte that is not of the class
abbrev pub judged : {X : Type 0} → ℕ → Option ℕ → X → Result X CodecFault
judged at None field = Ok field
judged at (Some n) field = Err (BadByte (at + n))

-- a text's length, from 1 to limit, and so many bytes
unfoldable pub sized_at : ℕ → Rest → Result (List ℕ × Rest) CodecFault
sized_at limit i = do
  len ← byte_at i
  if (len.0 == 0) || nat_lt limit len.0 then Err (BadNumber i.at) else bytes_at len.0 len.1

-- a text of a class
unfoldable pub text_at : (ℕ → Bool) → ℕ → Rest → Result (List ℕ × Rest) CodecFault
text_at class limit i = do
  field ← sized_at limit i
  judged (i.at + 1) (position (λ b. not (class b)) field.0) field

-- a file's name
abbrev pub file_at : Rest → Result (List ℕ × Rest) CodecFault
file_at i = text_at is_name_byte 16 i

-- a key
abbrev pub key_at : Rest → Result (List ℕ × Rest) CodecFault
key_at i = text_at is_text_byte 32 i

-- a value
abbrev pub value_at : Rest → Result (List ℕ × Rest) CodecFault
value_at i = text_at is_text_byte 200 i

-- behind the tag 1
abbrev pub present_at : Rest → Result (Option (List ℕ) × Rest) CodecFault
present_at i = do
  value ← value_at i
  Ok (Some value.0, value.1)

-- a tag, and behind a 1 the value
unfoldable pub optional_at : Rest → Result (Option (List ℕ) × Rest) CodecFault
optional_at i = do
  tag ← byte_at i
  if tag.0 == 0 then Ok (None, tag.1) else (if tag.0 == 1 then present_at tag.1 else Err (BadKind i.at))

-- what stands behind the kind at a place, by a table of kinds
abbrev pub by_kind : {X : Type 0} → List (ℕ × (Rest → Result (X × Rest) CodecFault)) → ℕ → ℕ → Rest → Result (X × Rest) CodecFault
by_kind [] at kind i = Err (BadKind at)
by_kind (row ∷ table) at kind i = if kind == row.0 then row.1 i else by_kind table at kind i

-- a kind of the table, and what stands behind it
abbrev pub tagged_at : {X : Type 0} → List (ℕ × (Rest → Result (X × Rest) CodecFault)) → Rest → Result (X × Rest) CodecFault
tagged_at table i = do
  kind ← byte_at i
  by_kind table i.at kind.0 kind.1

-- what stands behind the kind of an image
unfoldable pub image_at : Rest → Result (Record × Rest) CodecFault
image_at i = do
  txn ← number_at w32 i
  vol ← volume_at txn.1
  file ← file_at vol.1
  key ← key_at file.1
  before ← optional_at key.1
  after ← optional_at before.1
  Ok (Image txn.0 vol.0 file.0 key.0 before.0 after.0, after.1)

-- a commit or an abort
abbrev pub outcome_at : (ℕ → Record) → Rest → Result (Record × Rest) CodecFault
outcome_at outcome i = do
  txn ← number_at w32 i
  Ok (outcome txn.0, txn.1)

-- what stands behind the kind of a record
unfoldable pub of_kind : ℕ → ℕ → Rest → Result (Record × Rest) CodecFault
of_kind at kind i = by_kind ((1, image_at) ∷ (2, outcome_at Commit) ∷ (3, outcome_at Abort) ∷ []) at kind i

-- a kind, and what stands behind it
unfoldable pub record_at : Rest → Result (Record × Rest) CodecFault
record_at i = do
  kind ← byte_at i
  of_kind i.at kind.0 kind.1

-- the record at the front of a whole input, and its length
abbrev pub front_record : List ℕ → Result (Record × ℕ) CodecFault
front_record bytes = do
  found ← record_at (record { at = 0; bytes = bytes })
  Ok (found.0, found.1.at)

-- a fault's place: the input's end where a field passes it, else that of one of its bytes; no reader of a front finds a byte too many
abbrev pub IsPlacedIn : List ℕ → CodecFault → Type 0
IsPlacedIn bytes (Truncated at) = at ≡ length bytes
IsPlacedIn bytes (BadKind at) = at < length bytes
IsPlacedIn bytes (BadNumber at) = at < length bytes
IsPlacedIn bytes (BadByte at) = at < length bytes
IsPlacedIn bytes (Extra at) = ⊥
IsPlacedIn bytes NoMemory = Unit {0}

-- the same of a reader of a whole input, which may find a byte too many
abbrev pub IsPlacedWithin : List ℕ → CodecFault → Type 0
IsPlacedWithin bytes (Extra at) = at < length bytes
IsPlacedWithin bytes e = IsPlacedIn bytes e
