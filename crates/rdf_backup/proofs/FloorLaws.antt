-- The least of the restart points of protected volumes, volume by volume.
use Rattle.std.proofs.Common.{◌≡◌, ℕ, ◌+◌, ◌<◌, ◌≤◌, min, Bool, true, false, if◌then◌else◌, List, [], ◌∷◌, length, drop, get_or, map, refl, sym, ap, ap₂, ◌∙◌, arith}
use Rattle.std.proofs.lemmas.List.{drop_more, drop_all}
use Rattle.rdf_volume.specs.declared.volume.Volume.{Volume}
use Rattle.rdf_volume.specs.Views.{restart_of}
use Rattle.rdf_core.specs.Layouts.{least}

min_swap : (p q n : ℕ) → min q (min p n) ≡ min p (min q n)
min_swap p q n = omega arith

min_turn : (p q : ℕ) → min q p ≡ min p q
min_turn p q = omega arith

min_zero : (p : ℕ) → 0 ≡ min p 0
min_zero p = omega arith

-- a point may be taken first
pub least_moved : (flags : List Bool) (points : List ℕ) (p end : ℕ) → least flags points (min end p) ≡ min p (least flags points end)
least_moved [] points p end = min_turn p end
least_moved (true ∷ flags) [] p end = min_zero p
least_moved (false ∷ flags) [] p end = least_moved flags [] p end
least_moved (true ∷ flags) (q ∷ points) p end = ap (λ n. min q n) (least_moved flags points p end) ∙ min_swap p q (least flags points end)
least_moved (false ∷ flags) (q ∷ points) p end = least_moved flags points p end

-- from a volume on
abbrev pub least_from : {D : Type 0} → ℕ → List Bool → List (Volume D) → ℕ → ℕ
least_from i flags volumes lowest = least (drop i flags) (map (λ volume. restart_of volume) (drop i volumes)) lowest

-- one volume more
pub least_turn : {D : Type 0} (flags : List Bool) (volumes : List (Volume D)) (i lowest next at : ℕ) (volume : Volume D) → length flags ≡ length volumes → i < length volumes → at ≡ restart_of volume → volume ≡ get_or volumes i volume →
    next ≡ (if get_or flags i false then min lowest at else lowest) → least_from (i + 1) flags volumes next ≡ least_from i flags volumes lowest
least_turn {D = D} flags volumes i lowest next at volume many within point there is =
    ap (λ n. least_from (i + 1) flags volumes n) (is ∙ ap (λ (p : ℕ). if get_or flags i false then min lowest p else lowest) point)
    ∙ by_flag (get_or flags i false)
    ∙ sym (ap₂ (λ (fs : List Bool) (vs : List (Volume D)). least fs (map (λ volume. restart_of volume) vs) lowest) (drop_more flags i false (omega (arith, many, within)))
    (drop_more volumes i volume within ∙ ap (λ (v : Volume D). v ∷ drop (i + 1) volumes) (sym there)))
  where
    rest : List ℕ
    rest = map (λ volume. restart_of volume) (drop (i + 1) volumes)

    by_flag : (b : Bool) → least (drop (i + 1) flags) rest (if b then min lowest (restart_of volume) else lowest) ≡ least (b ∷ drop (i + 1) flags) (restart_of volume ∷ rest) lowest
    by_flag true = least_moved (drop (i + 1) flags) rest (restart_of volume) lowest
    by_flag false = refl

-- none is left
pub least_done : {D : Type 0} (flags : List Bool) (volumes : List (Volume D)) (i lowest : ℕ) → length flags ≡ length volumes → length volumes ≤ i → least_from i flags volumes lowest ≡ lowest
least_done flags volumes i lowest many done = ap (λ (fs : List Bool). least fs (map (λ volume. restart_of volume) (drop i volumes)) lowest) (drop_all i flags (omega (arith, many, done)))
