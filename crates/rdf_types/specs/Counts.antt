-- Counts of faults and stops, which never fall and stay at the end of their type.
use Rattle.std.specs.Prelude.{ℕ, ◌<◌, ◌-◌, ◌^◌}

-- where a count stays
abbrev pub most : ℕ
most = 2 ^ 64 - 1

-- a count rose, or stands where it stays
abbrev pub Rose : ℕ → ℕ → Type 0
Rose old new = old < most → old < new
