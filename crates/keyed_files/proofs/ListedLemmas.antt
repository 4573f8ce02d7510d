-- The rows of a map as a list, file by file.
use Rattle.std.proofs.Common.{◌≡◌, ℕ, List, [], ◌∷◌, ◌++◌, map, refl, sym, ap, ◌∙◌, append_assoc}
use Rattle.std.specs.FinMap.{entries}
use Rattle.rdf_types.specs.declared.records.Row.{Row}
use Rattle.keyed_files.specs.Joined.{Keys, row_of, rows_of}
use Rattle.keyed_files.specs.Listed.{as_row, rows_at}

mapped : (file : List ℕ) (es : List (List ℕ × List ℕ)) (ys : List ((List ℕ × List ℕ) × List ℕ)) → map as_row (map (row_of file) es ++ ys) ≡ rows_at file es ++ map as_row ys
mapped file [] ys = refl
mapped file (e ∷ es) ys = ap (λ rows. as_row (row_of file e) ∷ rows) (mapped file es ys)

-- the rows of one more file
pub one_file : (rows : List Row) (f : List ℕ × Keys) (rest : List (List ℕ × Keys)) →
    (rows ++ rows_at f.0 (entries f.1)) ++ map as_row (rows_of rest) ≡ rows ++ map as_row (rows_of (f ∷ rest))
one_file rows f rest = append_assoc rows (rows_at f.0 (entries f.1)) (map as_row (rows_of rest)) ∙ ap (λ ys. rows ++ ys) (sym (mapped f.0 (entries f.1) (rows_of rest)))
