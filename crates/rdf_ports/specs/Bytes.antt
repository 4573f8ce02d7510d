-- What a read takes.
use Rattle.std.specs.Prelude.{◌≡◌, ℕ, ◌≤◌, List, [], ◌++◌, length, take, drop}

-- A read took the next n bytes of those left, and wrote them over the front of the buffer. It takes none only at the end.
pub record Takes (n : ℕ) (old new from into : List ℕ) : Type 0 where
  pub there : n ≤ length old
  pub left : new ≡ drop n old
  pub bytes : into ≡ take n old ++ drop n from
  pub end : n ≡ 0 → old ≡ []
