-- Images that are collected one after the other.
use Rattle.std.proofs.Common.{◌≡◌, ℕ, ◌+◌, ◌<◌, Bool, true, false, if◌then◌else◌, List, [], ◌∷◌, ◌++◌, length, take, get_or, sym, ap, ◌∙◌}
use Rattle.std.proofs.lemmas.List.{take_more, append-nil}
use Rattle.std.proofs.lemmas.List.Elements.{filter-append}
use Rattle.rdf_types.specs.declared.records.Stamped.{Stamped}
use Rattle.rdf_model.specs.Window.{is_image_on}
use Rattle.image_board.specs.Entries.{own}

module _ (vol : ℕ) (entries : List Stamped) (i : ℕ) (entry : Stamped) (below : i < length entries) (is : entry ≡ get_or entries i entry) where
  one_more : own vol (take (i + 1) entries) ≡ own vol (take i entries) ++ own vol (entry ∷ [])
  one_more =
      ap (own vol) (take_more entries i entry below ∙ ap (λ (s : Stamped). take i entries ++ s ∷ []) (sym is))
      ∙ filter-append (λ (s : Stamped). is_image_on vol s.rec) (take i entries) (entry ∷ [])

  pub own_more : (images new : List Stamped) (copy : Stamped) → images ≡ own vol (take i entries) → is_image_on vol entry.rec ≡ true → copy ≡ entry → new ≡ images ++ copy ∷ [] → new ≡ own vol (take (i + 1) entries)
  own_more images new copy so_far is_one same pushed =
      pushed ∙ ap (λ (l : List Stamped). l ++ copy ∷ []) so_far ∙ ap (λ (s : Stamped). own vol (take i entries) ++ s ∷ []) same
      ∙ ap (λ (b : Bool). own vol (take i entries) ++ (if b then entry ∷ [] else [])) (sym is_one) ∙ sym one_more

  pub own_same : (images : List Stamped) → images ≡ own vol (take i entries) → is_image_on vol entry.rec ≡ false → images ≡ own vol (take (i + 1) entries)
  own_same images so_far is_none =
      so_far ∙ sym (append-nil (own vol (take i entries))) ∙ ap (λ (b : Bool). own vol (take i entries) ++ (if b then entry ∷ [] else [])) (sym is_none) ∙ sym one_more
