-- Lists of positions.
use Rattle.std.specs.Prelude.{ℕ, ◌-◌, List, length, slice_get, Option}

-- the last number of a list
abbrev pub last_in : List ℕ → Option ℕ
last_in ps = slice_get ps (length ps - 1)
