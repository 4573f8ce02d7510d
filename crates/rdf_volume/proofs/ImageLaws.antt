-- The changes that a loop over entries collects, whatever makes them of a record.
use Rattle.std.proofs.Common.{◌≡◌, ℕ, ◌+◌, ◌<◌, List, [], ◌∷◌, ◌++◌, length, map, take, get_or, filter_map, Option, Some, None, sym, ap, ◌∙◌, refl}
use Rattle.std.proofs.lemmas.List.{take_more, append-nil, map-append}
use Rattle.std.proofs.lemmas.List.Elements.{filter_map-append}
use Rattle.rdf_types.specs.declared.records.Change.{Change}
use Rattle.rdf_types.specs.declared.records.Record.{Record}

module _ {E : Type 0} (f : Record → Option Change) (record_of : E → Record) (entries : List E) (i : ℕ) (entry : E) (below : i < length entries) (is : entry ≡ get_or entries i entry) where
  abbrev pub made : List E → List Change
  made l = filter_map f (map record_of l)

  one_more : made (take (i + 1) entries) ≡ made (take i entries) ++ made (entry ∷ [])
  one_more =
      ap made (take_more entries i entry below ∙ ap (λ (s : E). take i entries ++ s ∷ []) (sym is))
      ∙ ap (filter_map f) (map-append record_of (take i entries) (entry ∷ []))
      ∙ filter_map-append f (map record_of (take i entries)) (record_of entry ∷ [])

  pub made_more : (batch new : List Change) (c : Change) → batch ≡ made (take i entries) → Some c ≡ f (record_of entry) → new ≡ batch ++ c ∷ [] → new ≡ made (take (i + 1) entries)
  made_more batch new c so_far found pushed =
      pushed ∙ ap (λ (cs : List Change). cs ++ c ∷ []) so_far ∙ ap (λ (cs : List Change). made (take i entries) ++ cs) (listed (f (record_of entry)) found) ∙ sym one_more
    where
      listed : (o : Option Change) → Some c ≡ o → c ∷ [] ≡ filter_map (λ (x : Option Change). x) (o ∷ [])
      listed None e = cc
      listed (Some d) e = let same : c ≡ d = cc in ap (λ (x : Change). x ∷ []) same

  pub made_same : (batch : List Change) → batch ≡ made (take i entries) → None ≡ f (record_of entry) → batch ≡ made (take (i + 1) entries)
  made_same batch so_far found =
      so_far ∙ sym (append-nil (made (take i entries))) ∙ ap (λ (cs : List Change). made (take i entries) ++ cs) (listed (f (record_of entry)) found) ∙ sym one_more
    where
      listed : (o : Option Change) → None ≡ o → [] ≡ filter_map (λ (x : Option Change). x) (o ∷ [])
      listed None e = refl
      listed (Some d) e = cc
