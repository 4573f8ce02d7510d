-- What a layout says of volumes.
use Rattle.std.specs.Prelude.{ℕ, Bool, false, List, [], ◌∷◌, map, get_or, min, if◌then◌else◌}
use Rattle.rdf_types.specs.declared.layout.Layout.{Layout}

-- the volume is protected
abbrev pub protects : Layout → ℕ → Bool
protects layout v = get_or layout.protect v false

-- the position at each protected volume, and 0 at the others
abbrev pub points_at : Layout → ℕ → List ℕ
points_at layout at = map (λ protect. if protect then at else 0) layout.protect

-- the point of a volume
abbrev pub point_of : List ℕ → ℕ → ℕ
point_of points v = get_or points v 0

-- the least of the points of protected volumes, and of the end
abbrev pub least : List Bool → List ℕ → ℕ → ℕ
least [] points end = end
least (protect ∷ more) [] end = if protect then 0 else least more [] end
least (protect ∷ more) (p ∷ points) end = if protect then min p (least more points end) else least more points end
