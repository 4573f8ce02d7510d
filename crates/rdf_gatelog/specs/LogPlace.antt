-- What a log in use is.
use Rattle.std.specs.Prelude.{ℕ}

-- the number of its file, and the place of the gate behind its last block
pub record LogPlace : Type 0 where
  pub file : ℕ
  pub end : ℕ
