-- Where the images of each place stand in a trail.
use Rattle.std.specs.Prelude.{◌≡◌, ℕ, suc, ◌≤◌, true, if◌then◌else◌, List, [], ◌∷◌, ◌++◌, length, take, slice_get, Option, Some, None, unwrap_or}
use Rattle.std.specs.FinMap as map
use Rattle.rdf_types.specs.declared.records.RecKey.{RecKey}
use Rattle.rdf_types.specs.declared.records.Record.{Record}
use Rattle.rdf_types.specs.declared.records.Record.TheVariants.{Image, Commit, Abort}
use Rattle.rdf_types.specs.Places.{place_cmp}
use Rattle.rdf_model.specs.Trail.{is_change}

-- the position, where the record is an image of the place
abbrev pub here : RecKey → ℕ → Record → List ℕ
here q at r = if is_change (λ t. true) q r then at ∷ [] else []

-- the positions of the images of a place in records of which the first stands at a position
abbrev pub positions_from : RecKey → ℕ → List Record → List ℕ
positions_from q at [] = []
positions_from q at (r ∷ rest) = here q at r ++ positions_from q (suc at) rest

-- the positions of the images of a place in a trail
abbrev pub positions_of : RecKey → List Record → List ℕ
positions_of q trail = positions_from q 0 trail

-- the value that an image leaves at its place
abbrev pub after_of : Record → Option (List ℕ)
after_of (Image txn vol file key before after) = after
after_of (Commit txn) = None
after_of (Abort txn) = None

-- the same of a record that there may be
abbrev pub after_in : Option Record → Option (List ℕ)
after_in None = None
after_in (Some r) = after_of r

-- the value that the image at a position left, where there is one
abbrev pub left_by : List Record → Option ℕ → Option (List ℕ)
left_by trail None = None
left_by trail (Some p) = after_in (slice_get trail p)

-- positions by place
abbrev pub ByPlace : Type 0
ByPlace = map.FinMap place_cmp (List ℕ)

-- the positions that are noted for a place
abbrev pub positions_in : ByPlace → RecKey → List ℕ
positions_in images q = unwrap_or (map.get images q) []

-- the images of so many first records of the trail
pub record AreImages (trail : List Record) (noted : ℕ) (images : ByPlace) : Type 0 where
  pub within : noted ≤ length trail
  pub each : (q : RecKey) → positions_in images q ≡ positions_of q (take noted trail)
