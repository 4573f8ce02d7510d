-- Laws of redo.
use Rattle.std.proofs.Common.{◌≡◌, ◌≤◌, ℕ, cond, List, [], ◌∷◌, ◌++◌, length, take, drop, sym, ap, ◌∙◌}
use Rattle.std.proofs.lemmas.List.{take-append-drop, drop-append-le}
use Rattle.std.proofs.lemmas.List.Sums.{fold-append}
use Rattle.rdf_types.specs.declared.records.Record.{Record}
use Rattle.rdf_types.specs.declared.records.Record.TheVariants.{Image, Commit, Abort}
use Rattle.rdf_types.specs.declared.records.RecKey.{RecKey}
use Rattle.rdf_types.specs.Places.{same_place}
use Rattle.rdf_model.specs.Contents.{Contents, nothing, with_value, place}
use Rattle.rdf_model.specs.Trail.{raw, after_record}
use Rattle.rdf_model.specs.Window.{Fits}

-- what stands at a place afterwards follows from what stood there
pub raw-local : (files g : Contents) (q : RecKey) (xs : List Record) → files q ≡ g q → raw files xs q ≡ raw g xs q
raw-local files g q [] e = e
raw-local files g q (Image t v f k b a ∷ xs) e =
    raw-local (with_value files (place v f k) a) (with_value g (place v f k) a) q xs (ap (cond (same_place q (place v f k)) a) e)
raw-local files g q (Commit t ∷ xs) e = raw-local files g q xs e
raw-local files g q (Abort t ∷ xs) e = raw-local files g q xs e

-- the files after one list and another
pub raw-append : (files : Contents) (xs ys : List Record) → raw files (xs ++ ys) ≡ raw (raw files xs) ys
raw-append files xs ys = fold-append after_record files xs ys

-- what fits a trail fits a longer one
pub fits_longer : (vol : ℕ) (trail more : List Record) (p : ℕ) (files : Contents) → p ≤ length trail → Fits vol trail p files → Fits vol (trail ++ more) p files
fits_longer vol trail more p files h fits q on =
    ap (λ xs. raw files xs q) (drop-append-le p trail more h)
    ∙ ap (λ g. g q) (raw-append files (drop p trail) more)
    ∙ raw-local (raw files (drop p trail)) (raw nothing trail) q more (fits q on)
    ∙ ap (λ g. g q) (sym (raw-append nothing trail more))

-- a volume that shows what stands after a prefix fits from there on
pub fits_running : (vol : ℕ) (trail : List Record) (p : ℕ) → Fits vol trail p (raw nothing (take p trail))
fits_running vol trail p q on =
    ap (λ g. g q) (sym (raw-append nothing (take p trail) (drop p trail))) ∙ ap (λ xs. raw nothing xs q) (take-append-drop p trail)
