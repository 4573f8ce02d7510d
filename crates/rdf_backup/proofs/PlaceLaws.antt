-- The places of the volumes of a session.
use Rattle.std.proofs.Common.{◌≡◌, ℕ, zero, suc, ◌+◌, ◌<◌, Bool, true, false, List, [], ◌∷◌, length, map, min, take, drop, get_or, Some, IfSome, refl, sym, ap, ◌∙◌, subst, arith}
use Rattle.std.specs.Prelude.{slice_get, slice_set}
use Rattle.rdf_volume.specs.declared.volume.Volume.{Volume}
use Rattle.rdf_volume.specs.Views.{restart_of}
use Rattle.rdf_core.specs.Layouts.{least}
use Rattle.volume_sessions.specs.declared.placed.Placed.{Placed}
use Rattle.rdf_backup.specs.Parting.{Parted, merged}
use Rattle.rdf_backup.specs.Feeding.{flagged, least_of}
use Rattle.rdf_backup.specs.Sessions.{IsPlaceOf}
use Rattle.rdf_backup.proofs.FloorLaws.{least_moved}

-- one element for each flag
pub parted_length : {X W : Type 0} (R : ℕ → X → W → Type 0) (n : ℕ) (flags : List Bool) (xs : List X) (ws : List W) (others : List X) → Parted R n flags xs ws others → length xs ≡ length flags
parted_length R n [] [] [] [] h = refl
parted_length R n [] [] [] (y ∷ others) h = absurd h
parted_length R n [] [] (w ∷ ws) others h = absurd h
parted_length R n [] (x ∷ xs) ws others h = absurd h
parted_length R n (true ∷ flags) [] ws others h = absurd h
parted_length R n (true ∷ flags) (x ∷ xs) [] others h = absurd h
parted_length R n (true ∷ flags) (x ∷ xs) (w ∷ ws) others h = ap suc (parted_length R (suc n) flags xs ws others h.1)
parted_length R n (false ∷ flags) [] ws others h = absurd h
parted_length R n (false ∷ flags) (x ∷ xs) ws [] h = absurd h
parted_length R n (false ∷ flags) (x ∷ xs) ws (y ∷ others) h = ap suc (parted_length R (suc n) flags xs ws others h.1)

next : (n v : ℕ) → suc n + v ≡ n + suc v
next n v = omega arith

module _ {D : Type 0} where
  -- a volume has a place, which is that of its number
  abbrev pub Here : ℕ → List Bool → List (Volume D) → List (Placed D) → ℕ → Type 0
  Here n flags xs ws v = (p : Placed D) × ((slice_get ws (flagged (take v flags)) ≡ Some p) × (p.vol ≡ n + v) × (slice_get xs v ≡ Some p.volume))

  further : (n : ℕ) (flags : List Bool) (xs : List (Volume D)) (ws : List (Placed D)) (v : ℕ) → Here (suc n) flags xs ws v → (p : Placed D) × ((slice_get ws (flagged (take v flags)) ≡ Some p) × (p.vol ≡ n + suc v) × (slice_get xs v ≡ Some p.volume))
  further n flags xs ws v h = (h.0, (h.1.0, h.1.1 ∙ next n v, h.1.2))

  -- a volume that is flagged has a place
  place_at : (n : ℕ) (flags : List Bool) (xs : List (Volume D)) (ws : List (Placed D)) (others : List (Volume D)) (v : ℕ) → Parted IsPlaceOf n flags xs ws others → get_or flags v false ≡ true → Here n flags xs ws v
  place_at n [] xs ws others v h on = cc
  place_at n (true ∷ flags) [] ws others v h on = absurd h
  place_at n (true ∷ flags) (x ∷ xs) [] others v h on = absurd h
  place_at n (true ∷ flags) (x ∷ xs) (w ∷ ws) others zero h on = (w, (refl, h.0.1 ∙ (let e : n ≡ n + zero = omega arith in e), ap (λ (y : Volume D). Some y) (sym h.0.0)))
  place_at n (true ∷ flags) (x ∷ xs) (w ∷ ws) others (suc v) h on = further n flags xs ws v (place_at (suc n) flags xs ws others v h.1 on)
  place_at n (false ∷ flags) [] ws others v h on = absurd h
  place_at n (false ∷ flags) (x ∷ xs) ws [] v h on = absurd h
  place_at n (false ∷ flags) (x ∷ xs) ws (y ∷ others) zero h on = cc
  place_at n (false ∷ flags) (x ∷ xs) ws (y ∷ others) (suc v) h on = further n flags xs ws v (place_at (suc n) flags xs ws others v h.1 on)

  pub placed_there : (flags : List Bool) (xs : List (Volume D)) (ws : List (Placed D)) (others : List (Volume D)) (v : ℕ) → Parted IsPlaceOf 0 flags xs ws others → get_or flags v false ≡ true → Here 0 flags xs ws v
  placed_there flags xs ws others v h on = place_at 0 flags xs ws others v h on

  -- where the volume of a place is seen anew, so is the one of that number
  pub looked_set : (n : ℕ) (flags : List Bool) (xs : List (Volume D)) (ws : List (Placed D)) (others : List (Volume D)) (v : ℕ) (w : Placed D) → Parted IsPlaceOf n flags xs ws others → get_or flags v false ≡ true →
      merged flags (map (λ p. p.volume) (slice_set ws (flagged (take v flags)) w)) others ≡ slice_set (merged flags (map (λ p. p.volume) ws) others) v w.volume
  looked_set n [] xs ws others v w h on = cc
  looked_set n (true ∷ flags) [] ws others v w h on = absurd h
  looked_set n (true ∷ flags) (x ∷ xs) [] others v w h on = absurd h
  looked_set n (true ∷ flags) (x ∷ xs) (u ∷ ws) others zero w h on = refl
  looked_set n (true ∷ flags) (x ∷ xs) (u ∷ ws) others (suc v) w h on = ap (λ (l : List (Volume D)). u.volume ∷ l) (looked_set (suc n) flags xs ws others v w h.1 on)
  looked_set n (false ∷ flags) [] ws others v w h on = absurd h
  looked_set n (false ∷ flags) (x ∷ xs) ws [] v w h on = absurd h
  looked_set n (false ∷ flags) (x ∷ xs) ws (y ∷ others) zero w h on = cc
  looked_set n (false ∷ flags) (x ∷ xs) ws (y ∷ others) (suc v) w h on = ap (λ (l : List (Volume D)). y ∷ l) (looked_set (suc n) flags xs ws others v w h.1 on)

  pub parted_set : (n : ℕ) (flags : List Bool) (xs : List (Volume D)) (ws : List (Placed D)) (others : List (Volume D)) (v : ℕ) (w : Placed D) → Parted IsPlaceOf n flags xs ws others → get_or flags v false ≡ true → w.vol ≡ n + v →
      Parted IsPlaceOf n flags (slice_set xs v w.volume) (slice_set ws (flagged (take v flags)) w) others
  parted_set n [] xs ws others v w h on is = cc
  parted_set n (true ∷ flags) [] ws others v w h on is = absurd h
  parted_set n (true ∷ flags) (x ∷ xs) [] others v w h on is = absurd h
  parted_set n (true ∷ flags) (x ∷ xs) (u ∷ ws) others zero w h on is = ((refl, is ∙ (let e : n + zero ≡ n = omega arith in e)), h.1)
  parted_set n (true ∷ flags) (x ∷ xs) (u ∷ ws) others (suc v) w h on is = (h.0, parted_set (suc n) flags xs ws others v w h.1 on (is ∙ sym (next n v)))
  parted_set n (false ∷ flags) [] ws others v w h on is = absurd h
  parted_set n (false ∷ flags) (x ∷ xs) ws [] v w h on is = absurd h
  parted_set n (false ∷ flags) (x ∷ xs) ws (y ∷ others) zero w h on is = cc
  parted_set n (false ∷ flags) (x ∷ xs) ws (y ∷ others) (suc v) w h on is = (h.0, parted_set (suc n) flags xs ws others v w h.1 on (is ∙ sym (next n v)))

-- as many places as flags
pub placed_many : {X W : Type 0} (R : ℕ → X → W → Type 0) (n : ℕ) (flags : List Bool) (xs : List X) (ws : List W) (others : List X) → Parted R n flags xs ws others → flagged flags ≡ length ws
placed_many R n [] [] [] [] h = refl
placed_many R n [] [] [] (y ∷ others) h = absurd h
placed_many R n [] [] (w ∷ ws) others h = absurd h
placed_many R n [] (x ∷ xs) ws others h = absurd h
placed_many R n (true ∷ flags) [] ws others h = absurd h
placed_many R n (true ∷ flags) (x ∷ xs) [] others h = absurd h
placed_many R n (true ∷ flags) (x ∷ xs) (w ∷ ws) others h = ap suc (placed_many R (suc n) flags xs ws others h.1)
placed_many R n (false ∷ flags) [] ws others h = absurd h
placed_many R n (false ∷ flags) (x ∷ xs) ws [] h = absurd h
placed_many R n (false ∷ flags) (x ∷ xs) ws (y ∷ others) h = placed_many R (suc n) flags xs ws others h.1

-- the least restart point of the protected volumes, by their places
pub least_placed : {D : Type 0} (n : ℕ) (flags : List Bool) (xs : List (Volume D)) (ws : List (Placed D)) (others : List (Volume D)) (low : ℕ) → Parted IsPlaceOf n flags xs ws others →
    least flags (map (λ volume. restart_of volume) xs) low ≡ least_of low ws
least_placed n [] [] [] [] low h = refl
least_placed n [] [] [] (y ∷ others) low h = absurd h
least_placed n [] [] (w ∷ ws) others low h = absurd h
least_placed n [] (x ∷ xs) ws others low h = absurd h
least_placed n (true ∷ flags) [] ws others low h = absurd h
least_placed n (true ∷ flags) (x ∷ xs) [] others low h = absurd h
least_placed {D = D} n (true ∷ flags) (x ∷ xs) (w ∷ ws) others low h =
    sym (least_moved flags (map (λ volume. restart_of volume) xs) (restart_of x) low) ∙ least_placed (suc n) flags xs ws others (min low (restart_of x)) h.1
    ∙ ap (λ (volume : Volume D). least_of (min low (restart_of volume)) ws) (sym h.0.0)
least_placed n (false ∷ flags) [] ws others low h = absurd h
least_placed n (false ∷ flags) (x ∷ xs) ws [] low h = absurd h
least_placed n (false ∷ flags) (x ∷ xs) ws (y ∷ others) low h = least_placed (suc n) flags xs ws others low h.1

-- one place more is looked at
pub next_least : {D : Type 0} (ws : List (Placed D)) (i lowest next at : ℕ) → i < length ws → IfSome (slice_get ws i) (λ was. at ≡ restart_of was.volume) → next ≡ min lowest at → least_of next (drop (i + 1) ws) ≡ least_of lowest (drop i ws)
next_least [] i lowest next at within point is = absurd (omega (arith, within))
next_least (w ∷ ws) zero lowest next at within point is = ap (λ n. least_of n ws) (is ∙ ap (λ p. min lowest p) point)
next_least (w ∷ ws) (suc i) lowest next at within point is =
    let e : suc (i + 1) ≡ suc i + 1 = omega arith in
    subst (λ k. least_of next (drop k (w ∷ ws)) ≡ least_of lowest (drop i ws)) e (next_least ws i lowest next at (omega (arith, within)) point is)
