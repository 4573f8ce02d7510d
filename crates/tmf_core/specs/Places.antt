-- The places that a backout sets back.
use Rattle.std.specs.Prelude.{ℕ, ◌<◌, List, Option}
use Rattle.std.specs.List.{AllByRecursion}
use Rattle.rdf_types.specs.declared.records.RecKey.{RecKey}

-- each place is on one of so many volumes
abbrev pub AreIn : ℕ → List (RecKey × Option (List ℕ)) → Type 0
AreIn volumes places = AllByRecursion (λ e. e.0.vol < volumes) places
