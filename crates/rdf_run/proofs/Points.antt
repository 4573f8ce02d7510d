-- Points of which one more stands at a position.
use Rattle.std.proofs.Common.{◌≡◌, ℕ, zero, suc, Bool, true, false, List, [], ◌∷◌, get_or, take, slice_set, if◌then◌else◌, refl, ap}
use Rattle.rdf_core.specs.Backup.{Volumes, Running, Taking, Taken}
use Rattle.rdf_core.specs.Layouts.{point_of}
use Rattle.rdf_run.specs.Predicted.{points_with, risen_to}

-- one with a flag
pub one_set : (flags : List Bool) (n at : ℕ) (points : List ℕ) → get_or flags n false ≡ true → points_with (take (suc n) flags) at points ≡ slice_set (points_with (take n flags) at points) n at
one_set [] n at points e = absurd cc
one_set (true ∷ flags) zero at [] e = refl
one_set (true ∷ flags) zero at (p ∷ points) e = refl
one_set (false ∷ flags) zero at points e = absurd cc
one_set (flag ∷ flags) (suc n) at [] e = refl
one_set (flag ∷ flags) (suc n) at (p ∷ points) e = ap (λ xs. (if flag then at else p) ∷ xs) (one_set flags n at points e)

-- one without
pub none_set : (flags : List Bool) (n at : ℕ) (points : List ℕ) → get_or flags n false ≡ false → points_with (take (suc n) flags) at points ≡ points_with (take n flags) at points
none_set [] zero at points e = refl
none_set [] (suc n) at points e = refl
none_set (true ∷ flags) zero at points e = absurd cc
none_set (false ∷ flags) zero at [] e = refl
none_set (false ∷ flags) zero at (p ∷ points) e = refl
none_set (flag ∷ flags) (suc n) at [] e = refl
none_set (flag ∷ flags) (suc n) at (p ∷ points) e = ap (λ xs. (if flag then at else p) ∷ xs) (none_set flags n at points e)

-- the next one is where it was
pub next_point : (flags : List Bool) (n at : ℕ) (points : List ℕ) → point_of (points_with (take n flags) at points) n ≡ point_of points n
next_point [] zero at points = refl
next_point [] (suc n) at points = refl
next_point (flag ∷ flags) zero at points = refl
next_point (flag ∷ flags) (suc n) at [] = refl
next_point (flag ∷ flags) (suc n) at (p ∷ points) = next_point flags n at points

-- none of all volumes
pub none_risen : (at : ℕ) (v : Volumes) → risen_to [] at v ≡ v
none_risen at (Running points) = refl
none_risen at Taking = refl
none_risen at (Taken upto) = refl
