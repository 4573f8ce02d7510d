-- A transaction that inserts rows on one volume.
use Rattle.std.specs.Prelude.{ℕ, List, [], ◌∷◌, ◌++◌, Some, None, map}
use Rattle.rdf_types.specs.declared.records.Record.{Record}
use Rattle.rdf_types.specs.declared.records.Record.TheVariants.{Image, Commit}
use Rattle.rdf_types.specs.declared.records.RecKey.{RecKey}
use Rattle.rdf_types.specs.declared.records.Row.{Row}
use Rattle.rdf_model.specs.Contents.{place}

-- the image of a row where nothing stood
abbrev pub insertion : ℕ → ℕ → Row → Record
insertion t vol r = Image t vol r.file r.key None (Some r.value)

-- the trail of a transaction that inserts the rows, in order, and commits
abbrev pub inserted : ℕ → ℕ → List Row → List Record
inserted t vol rows = map (insertion t vol) rows ++ Commit t ∷ []

-- the row's place, where it stands on the volume
abbrev pub place_of : ℕ → Row → RecKey
place_of vol r = place vol r.file r.key

-- the row, with its place
abbrev pub placed : ℕ → Row → RecKey × List ℕ
placed vol r = (place_of vol r, r.value)
