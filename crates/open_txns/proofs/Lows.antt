-- The low position of what was noted.
use Rattle.std.proofs.Common.{◌≡◌, ℕ, true, false, not, cond, ◌&&◌, List, [], ◌∷◌, Some, None, filter_map, refl, ap, ◌∙◌}
use Rattle.std.specs.List.{cons_option}
use Rattle.rdf_types.specs.declared.records.Record.{Record}
use Rattle.rdf_types.specs.declared.records.Record.TheVariants.{Image, Commit, Abort}
use Rattle.rdf_types.specs.declared.records.Stamped.{Stamped}
use Rattle.rdf_model.specs.Trail.{is_ended}
use Rattle.rdf_model.specs.Window.{records, is_kept_image, first_pos, low_from}
use Rattle.open_txns.specs.Noted.{image_at, open_image, firsts, all_noted, ProperAfter, low_of}
use Rattle.open_txns.proofs.Firsts.{noted_are_open}

low-firsts : (es : List (ℕ × ℕ)) (end : ℕ) → low_of (firsts es) end ≡ low_of es end
low-firsts [] end = refl
low-firsts (e ∷ es) end = refl

low-note : (trail : List Record) (pos : ℕ) (r : Record) (es : List (ℕ × ℕ)) (rest end : ℕ) → low_of es end ≡ rest →
    low_of (cons_option (image_at trail pos r) es) end ≡ cond (is_kept_image (λ v. true) (λ t. not (is_ended t trail)) r) pos rest
low-note trail pos (Commit u) es rest end e = e
low-note trail pos (Abort u) es rest end e = e
low-note trail pos (Image u v f k b a) es rest end e =
    elim (is_ended u trail) as (λ m. low_of (cons_option (cond m None (Some (u, pos))) es) end ≡ cond (true && not m) pos rest) [ true ↦ e | false ↦ refl ]

low-notes : (trail : List Record) (notes : List Stamped) (end : ℕ) →
    low_of (filter_map (open_image trail) notes) end ≡ first_pos (is_kept_image (λ v. true) (λ t. not (is_ended t trail))) notes end
low-notes trail [] end = refl
low-notes trail (s ∷ notes) end =
    low-note trail s.pos s.rec (filter_map (open_image trail) notes) (first_pos (is_kept_image (λ v. true) (λ t. not (is_ended t trail))) notes end) end (low-notes trail notes end)

pub low_of_notes : (notes : List Stamped) (end : ℕ) → ProperAfter [] notes → low_of (all_noted notes) end ≡ low_from notes end
low_of_notes notes end h =
    ap (λ os. low_of os end) (noted_are_open notes h) ∙ low-firsts (filter_map (open_image (records notes)) notes) end ∙ low-notes (records notes) notes end
