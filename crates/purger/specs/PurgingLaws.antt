-- Laws of what a purge drops.
use Rattle.std.proofs.Common.{ℕ, suc, ◌≤◌, Bool, true, false, List, [], ◌∷◌, length, if◌then◌else◌, arith}
use Rattle.purger.specs.Purging.{first_may_go, gone}

-- no more go than there are
pub gone_within : (retain floor : ℕ) (starts : List ℕ) → gone retain floor starts ≤ length starts
gone_within retain floor [] = omega arith
gone_within retain floor (s ∷ rest) = go (first_may_go retain floor (s ∷ rest)) (gone_within retain floor rest)
  where
    go : (b : Bool) → gone retain floor rest ≤ length rest → (if b then suc (gone retain floor rest) else 0) ≤ suc (length rest)
    go true less = omega (arith, less)
    go false less = omega arith
