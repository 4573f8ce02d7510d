-- Reading lists of entries, and inputs that are to be read whole.
use Rattle.std.specs.Prelude.{ℕ, suc, zero, ◌==◌, ◌&&◌, nat_le, List, [], ◌∷◌, length, Result, Ok, Err, if◌then◌else◌}
use Rattle.std.specs.Int.{w16}
use Rattle.rdf_codec.specs.declared.fault.CodecFault.{CodecFault}
use Rattle.rdf_codec.specs.declared.fault.CodecFault.TheVariants.{Extra}
use Rattle.rdf_codec.specs.Reading.{Rest, ◌>>=◌, number_at, allowed}

-- a number of two bytes, from least to most
unfoldable pub count_at : ℕ → ℕ → Rest → Result (ℕ × Rest) CodecFault
count_at least most i = do
  count ← number_at w16 i
  allowed (nat_le least count.0 && nat_le count.0 most) i.at count

-- so many entries, one after another; what is asked of an entry depends on the one before it
abbrev pub entries_at : {X S : Type 0} → (S → Rest → Result (X × Rest) CodecFault) → (X → S) → ℕ → S → Rest → Result (List X × Rest) CodecFault
entries_at read next zero state i = Ok ([], i)
entries_at read next (suc n) state i = do
  entry ← read state i
  others ← entries_at read next n (next entry.0) entry.1
  Ok (entry.0 ∷ others.0, others.1)

-- how many entries there are, from least to most, and the entries
abbrev pub counted_at : {X S : Type 0} → (S → Rest → Result (X × Rest) CodecFault) → (X → S) → ℕ → ℕ → S → Rest → Result (List X × Rest) CodecFault
counted_at read next least most state i = do
  count ← count_at least most i
  entries_at read next count.0 state count.1

-- the value, where nothing is left behind it
abbrev pub alone : {X : Type 0} → Result (X × Rest) CodecFault → Result X CodecFault
alone (Ok found) = if length found.1.bytes == 0 then Ok found.0 else Err (Extra found.1.at)
alone (Err e) = Err e

-- a value that takes the whole input
abbrev pub whole : {X : Type 0} → (Rest → Result (X × Rest) CodecFault) → List ℕ → Result X CodecFault
whole read bytes = alone (read (record { at = 0; bytes = bytes }))
