-- The numbers that are drawn, one after another.
use Rattle.std.specs.Prelude.{ℕ, zero, suc, ◌+◌, ◌*◌, ◌/◌, ◌%◌}

-- the state that follows another
unfoldable pub next_state : ℕ → ℕ
next_state x = (1103515245 * x + 12345) % 2147483648

-- the number below n that is drawn where the state is x
unfoldable pub drawn : ℕ → ℕ → ℕ
drawn n x = (next_state x / 65536) % n

-- the state once so many numbers more have been drawn
abbrev pub later : ℕ → ℕ → ℕ
later zero x = x
later (suc k) x = later k (next_state x)
