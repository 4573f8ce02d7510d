-- What a transaction that inserts rows leaves.
use Rattle.std.proofs.Common.{◌≡◌, ℕ, suc, ◌+◌, true, false, cond, List, [], ◌∷◌, length, Some, None, is_some, map, fold, refl, sym, ap, ◌∙◌, arith}
use Rattle.std.specs.Option.{option_or}
use Rattle.std.specs.List.{AllByRecursion, IsDistinct}
use Rattle.std.specs.FinMap.{find, entries, len, from_entries, get-from_entries, len-insert, len-empty, len-entries}
use Rattle.std.proofs.lemmas.Bool.{eq-eqb}
use Rattle.std.proofs.lemmas.List.{length-map}
use Rattle.rdf_types.specs.declared.records.RecKey.{RecKey}
use Rattle.rdf_types.specs.declared.records.Row.{Row}
use Rattle.rdf_types.specs.Places.{place_cmp, place_cmp_total, same_place, same_place-is, same_place-on, row_cmp, row_cmp_total}
use Rattle.rdf_model.specs.Contents.{Contents, nothing, with_value, held}
use Rattle.rdf_model.specs.Trail.{raw, images_of, commits, committed}
use Rattle.rdf_model.specs.Inserted.{insertion, inserted, place_of, placed}
use Rattle.rdf_model.specs.Volumes.{AreOn}
use Rattle.rdf_model.specs.Rows.{row_entry, row_map, row_place, ListsVolume}
use Rattle.rdf_model.proofs.Searches.{committed-commit}
use Rattle.rdf_model.specs.RowLaws.{rows_listed}
use Rattle.rdf_model.specs.SearchLaws.{or_none}

all_by : (t vol : ℕ) (rows : List Row) → images_of t (map (insertion t vol) rows) ≡ map (insertion t vol) rows
all_by t vol [] = refl
all_by t vol (r ∷ rows) =
    ap (λ m. cond m (insertion t vol r ∷ images_of t (map (insertion t vol) rows)) (images_of t (map (insertion t vol) rows))) (eq-eqb t t refl)
    ∙ ap (λ xs. insertion t vol r ∷ xs) (all_by t vol rows)

no_commit : (t vol : ℕ) (rows : List Row) → commits (map (insertion t vol) rows) ≡ []
no_commit t vol [] = refl
no_commit t vol (r ∷ rows) = no_commit t vol rows

-- a place of none of the rows is not found among them
unlisted : (vol : ℕ) (k : RecKey) (rows : List Row) → AllByRecursion (λ y. same_place k y ≡ false) (map (place_of vol) rows) → find place_cmp k (map (placed vol) rows) ≡ None
unlisted vol k [] h = refl
unlisted vol k (r ∷ rows) h = ap (λ m. cond m (Some r.value) (find place_cmp k (map (placed vol) rows))) h.0 ∙ unlisted vol k rows h.1

-- images at different places leave what each of them tells
left_by : (t vol : ℕ) (rows : List Row) → IsDistinct same_place (map (place_of vol) rows) → (files : Contents) (q : RecKey) →
    raw files (map (insertion t vol) rows) q ≡ option_or (find place_cmp q (map (placed vol) rows)) (files q)
unfolding IsDistinct
left_by t vol [] h files q = refl
left_by t vol (r ∷ rows) h files q =
    left_by t vol rows h.1 (with_value files (place_of vol r) (Some r.value)) q
    ∙ elim (same_place q (place_of vol r)) as (λ m. same_place q (place_of vol r) ≡ m →
    option_or (find place_cmp q (map (placed vol) rows)) (cond m (Some r.value) (files q)) ≡ option_or (cond m (Some r.value) (find place_cmp q (map (placed vol) rows))) (files q)) [
      | true ↦ λ s. ap (λ o. option_or o (Some r.value)) (ap (λ k. find place_cmp k (map (placed vol) rows)) (same_place-is q (place_of vol r) s) ∙ unlisted vol (place_of vol r) rows h.0)
      | false ↦ λ s. refl
    ] refl

-- rows inserted at different places are what is committed
pub inserted_rows : (t vol : ℕ) (rows : List Row) → IsDistinct same_place (map (place_of vol) rows) →
    committed nothing (inserted t vol rows) ≡ held (from_entries (map (placed vol) rows))
inserted_rows t vol rows apart =
    committed-commit nothing t (map (insertion t vol) rows)
    ∙ (λ i. raw (fold_none i) (all_by t vol rows i))
    ∙ (λ i q. (left_by t vol rows apart nothing q ∙ or_none (find place_cmp q (map (placed vol) rows)) ∙ sym (get-from_entries place_cmp_total (map (placed vol) rows) q)) i)
  where
    fold_none : committed nothing (map (insertion t vol) rows) ≡ nothing
    fold_none = ap (λ ts. fold (λ files u. raw files (images_of u (map (insertion t vol) rows))) nothing ts) (no_commit t vol rows)

found_alike : (vol : ℕ) (q : RecKey) → q.vol ≡ vol → (rows : List Row) → find row_cmp (q.file, q.key) (map row_entry rows) ≡ find place_cmp q (map (placed vol) rows)
found_alike vol q on [] = refl
found_alike vol q on (r ∷ rows) =
    ap (λ m. cond m (Some r.value) (find row_cmp (q.file, q.key) (map row_entry rows))) (sym (same_place-on vol q (place_of vol r) on refl))
    ∙ ap (cond (same_place q (place_of vol r)) (Some r.value)) (found_alike vol q on rows)

pub rows_shown : (t vol : ℕ) (rows : List Row) → IsDistinct same_place (map (place_of vol) rows) → AreOn vol (committed nothing (inserted t vol rows)) (row_map rows)
rows_shown t vol rows apart q on =
    get-from_entries row_cmp_total (map row_entry rows) (q.file, q.key) ∙ found_alike vol q on rows
    ∙ sym (get-from_entries place_cmp_total (map (placed vol) rows) q) ∙ ap (λ g. g q) (sym (inserted_rows t vol rows apart))

counted : (vol : ℕ) (rows : List Row) → IsDistinct same_place (map (place_of vol) rows) → len (row_map rows) ≡ length rows
unfolding IsDistinct
counted vol [] h = len-empty row_cmp (List ℕ)
counted vol (r ∷ rows) h =
    len-insert row_cmp_total (row_map rows) (row_place r) r.value
    ∙ ap (λ o. cond (is_some o) (len (row_map rows)) (len (row_map rows) + 1))
    (get-from_entries row_cmp_total (map row_entry rows) (row_place r) ∙ found_alike vol (place_of vol r) refl rows ∙ unlisted vol (place_of vol r) rows h.0)
    ∙ more (len (row_map rows)) (length rows) (counted vol rows h.1)
  where
    more : (m n : ℕ) → m ≡ n → m + 1 ≡ suc n
    more m n e = omega arith

-- a list of them has as many rows
pub inserted_count : (t vol : ℕ) (rows listed : List Row) → IsDistinct same_place (map (place_of vol) rows) →
    ListsVolume vol (committed nothing (inserted t vol rows)) listed → length listed ≡ length rows
inserted_count t vol rows listed apart lists =
    ap length (rows_listed vol (committed nothing (inserted t vol rows)) listed (row_map rows) lists (rows_shown t vol rows apart))
    ∙ length-map (entries (row_map rows)) _ ∙ sym (len-entries (row_map rows)) ∙ counted vol rows apart
