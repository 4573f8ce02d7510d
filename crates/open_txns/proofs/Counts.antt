-- How many transactions are open.
use Rattle.std.proofs.Common.{◌≡◌, ◌+◌, ℕ, suc, true, false, not, cond, ◌||◌, List, [], ◌∷◌, length, map, Some, None, filter, filter_map, refl, sym, ap, ◌∙◌, nat_eq, add-one}
use Rattle.std.specs.List.{cons_option, list_any}
use Rattle.std.specs.Ordering.{nat_cmp}
use Rattle.std.specs.Cmp.{nat_cmp_total}
use Rattle.std.specs.FinSet.{from_list, contains, len, len-empty, len-insert, contains-from_list_nat}
use Rattle.rdf_types.specs.declared.records.Record.{Record}
use Rattle.rdf_types.specs.declared.records.Record.TheVariants.{Image, Commit, Abort}
use Rattle.rdf_types.specs.declared.records.Stamped.{Stamped}
use Rattle.rdf_model.specs.Trail.{is_ended, image_txn, open_in}
use Rattle.rdf_model.specs.Window.{records}
use Rattle.open_txns.specs.Noted.{image_at, open_image, firsts, all_noted, ProperAfter, has_txn}
use Rattle.open_txns.proofs.Firsts.{noted_are_open, without, without-absent, remove-apart, Apart-firsts, has-firsts, turned}
use Rattle.open_txns.proofs.Marked.{length-removed}

abbrev numbers : List (ℕ × ℕ) → List ℕ
numbers es = map (λ e. e.0) es

listed : (t : ℕ) (es : List (ℕ × ℕ)) → list_any (λ y. nat_eq y t) (numbers es) ≡ has_txn es t
listed t [] = refl
listed t (e ∷ es) = λ i. turned e.0 t i || listed t es i

contains-numbers : (es : List (ℕ × ℕ)) (t : ℕ) → contains (from_list {R = nat_cmp} (numbers es)) t ≡ has_txn (firsts es) t
contains-numbers es t = contains-from_list_nat (numbers es) t ∙ listed t es ∙ sym (has-firsts t es)

one_first : (t : ℕ) (es : List (ℕ × ℕ)) → suc (length (without t (firsts es))) ≡ cond (has_txn (firsts es) t) (length (firsts es)) (length (firsts es) + 1)
one_first t es =
    elim (has_txn (firsts es) t) as (λ m. has_txn (firsts es) t ≡ m → suc (length (without t (firsts es))) ≡ cond m (length (firsts es)) (length (firsts es) + 1)) [
      | true ↦ λ s. ap (λ xs. suc (length xs)) (sym (remove-apart t (firsts es) (Apart-firsts es))) ∙ length-removed t (firsts es) s
      | false ↦ λ s. ap (λ xs. suc (length xs)) (without-absent t (firsts es) s) ∙ sym (add-one (length (firsts es)))
    ] refl

length-firsts : (es : List (ℕ × ℕ)) → length (firsts es) ≡ len (from_list {R = nat_cmp} (numbers es))
length-firsts [] = sym (len-empty nat_cmp)
length-firsts (e ∷ es) =
    one_first e.0 es
    ∙ (λ i. cond (sym (contains-numbers es e.0) i) (length-firsts es i) (length-firsts es i + 1))
    ∙ sym (len-insert nat_cmp_total (from_list (numbers es)) e.0)

numbers-note : (trail : List Record) (pos : ℕ) (r : Record) (es : List (ℕ × ℕ)) (xs : List ℕ) → numbers es ≡ filter (λ t. not (is_ended t trail)) xs →
    numbers (cons_option (image_at trail pos r) es) ≡ filter (λ t. not (is_ended t trail)) (cons_option (image_txn r) xs)
numbers-note trail pos (Commit u) es xs e = e
numbers-note trail pos (Abort u) es xs e = e
numbers-note trail pos (Image u v f k b a) es xs e =
    elim (is_ended u trail) as (λ m. numbers (cons_option (cond m None (Some (u, pos))) es) ≡ cond (not m) (u ∷ filter (λ t. not (is_ended t trail)) xs) (filter (λ t. not (is_ended t trail)) xs)) [
      | true ↦ e
      | false ↦ ap (λ ys. u ∷ ys) e
    ]

numbers-notes : (trail : List Record) (notes : List Stamped) → numbers (filter_map (open_image trail) notes) ≡ filter (λ t. not (is_ended t trail)) (filter_map image_txn (records notes))
numbers-notes trail [] = refl
numbers-notes trail (s ∷ notes) = numbers-note trail s.pos s.rec (filter_map (open_image trail) notes) (filter_map image_txn (records notes)) (numbers-notes trail notes)

pub count_of_notes : (notes : List Stamped) → ProperAfter [] notes → length (all_noted notes) ≡ len (open_in (records notes))
count_of_notes notes h =
    ap length (noted_are_open notes h) ∙ length-firsts (filter_map (open_image (records notes)) notes)
    ∙ ap (λ xs. len (from_list {R = nat_cmp} xs)) (numbers-notes (records notes) notes)
