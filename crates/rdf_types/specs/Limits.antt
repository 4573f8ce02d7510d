-- Which texts are names, keys and values.
use Rattle.std.specs.Prelude.{ℕ, ◌<◌, ◌≤◌, Bool, ◌&&◌, ◌||◌, nat_le, List, length}
use Rattle.std.specs.List.{AllPass}

-- a byte of a file name: `a` to `z` or `0` to `9`
abbrev pub is_name_byte : ℕ → Bool
is_name_byte b = (nat_le 97 b && nat_le b 122) || (nat_le 48 b && nat_le b 57)

-- a byte of a key or a value: 33 to 126
abbrev pub is_text_byte : ℕ → Bool
is_text_byte b = nat_le 33 b && nat_le b 126

-- at least one byte, at most so many, and all of the class
pub record IsText (class : ℕ → Bool) (limit : ℕ) (bytes : List ℕ) : Type 0 where
  pub some : 0 < length bytes
  pub few : length bytes ≤ limit
  pub all : AllPass class bytes

-- a file's name
abbrev pub IsFileName : List ℕ → Type 0
IsFileName bytes = IsText is_name_byte 16 bytes

-- a record's key
abbrev pub IsKey : List ℕ → Type 0
IsKey bytes = IsText is_text_byte 32 bytes

-- a record's value
abbrev pub IsValue : List ℕ → Type 0
IsValue bytes = IsText is_text_byte 200 bytes

-- the number of an image trail: 0 for the master, 1 to 3 for a secondary
abbrev pub is_trail : ℕ → Bool
is_trail t = nat_le t 3
