-- What was noted, as the changes of an undo.
use Rattle.std.proofs.Common.{◌≡◌, inl, inr, ℕ, Bool, not, cond, T, List, [], ◌∷◌, map, Option, Some, None, refl, sym, ap, ◌∙◌, subst}
use Rattle.std.proofs.lemmas.Bool.{cases_eq}
use Rattle.std.specs.declared.cmp.Ordering.TheVariants.{Less}
use Rattle.std.specs.List.{AllByRecursion}
use Rattle.std.specs.List.Sorted.{IsStrictlySortedBy}
use Rattle.std.specs.FinMap.{get, entries, find, is_sorted, entries_sorted, get-entries}
use Rattle.std.specs.FinMap.Entries.{below_all}
use Rattle.rdf_types.specs.declared.records.Change.{Change}
use Rattle.rdf_types.specs.declared.records.RecKey.{RecKey}
use Rattle.rdf_types.specs.declared.records.Stamped.{Stamped}
use Rattle.rdf_types.specs.Places.{same_place, same_place-on, place_cmp, place_cmp_total, place_cmp_exact, row_cmp}
use Rattle.rdf_types.specs.MapViews.{entries_found}
use Rattle.rdf_model.specs.RowLaws.{less, first, second, same_volume}
use Rattle.rdf_model.specs.Trail.{is_ended, first_before}
use Rattle.rdf_model.specs.Window.{records}
use Rattle.active_txns.specs.Founds.{FirstBefore}
use Rattle.takeover_undo.specs.Firsts.{as_change}
use Rattle.takeover_undo.specs.Undo.{change_place, set_at, IsUndo}

abbrev pub Value : Type 0
Value = Option (List ℕ)

abbrev pub AreOn : ℕ → List (RecKey × Value) → Type 0
AreOn vol es = AllByRecursion (λ e. e.0.vol ≡ vol) es

-- places that are in the map are on the volume
all_on : (vol : ℕ) (m : FirstBefore) → ((q : RecKey) → (q.vol ≡ vol → ⊥) → get m q ≡ None) → (es : List (RecKey × Value)) → AllByRecursion (λ e. find place_cmp e.0 (entries m) ≡ Some e.1) es → AreOn vol es
all_on vol m elsewhere [] found = tt
all_on vol m elsewhere (e ∷ es) found = (
  elim (cases_eq e.0.vol vol) [
    | inl same ↦ same
    | inr other ↦ absurd (both (get m e.0) e.1 (elsewhere e.0 other) (get-entries m e.0 ∙ found.0))
  ],
  all_on vol m elsewhere es found.1,
)
  where
    both : (o : Option Value) (v : Value) → o ≡ None → o ≡ Some v → ⊥
    both o v a b = cc

-- a look-up in the changes of one volume
looked_up : (vol : ℕ) (es : List (RecKey × Value)) (q : RecKey) → AreOn vol es → q.vol ≡ vol → set_at (map as_change es) (q.file, q.key) ≡ find place_cmp q es
looked_up vol [] q on here = refl
looked_up vol (e ∷ es) q on here =
    ap (λ (b : Bool). cond b (Some e.1) (set_at (map as_change es) (q.file, q.key))) (sym (same_place-on vol q e.0 here on.0))
    ∙ ap (λ (o : Option Value). cond (same_place q e.0) (Some e.1) o) (looked_up vol es q on.1 here)

all_above : (vol : ℕ) (k : RecKey) (es : List (RecKey × Value)) → k.vol ≡ vol → AreOn vol es → T (below_all place_cmp k es) → AllByRecursion (λ y. row_cmp (k.file, k.key) y ≡ Less) (map change_place (map as_change es))
all_above vol k [] here on h = tt
all_above vol k (e ∷ es) here on h = (sym (same_volume vol k e.0 here on.0) ∙ less (place_cmp k e.0) (first _ _ h), all_above vol k es here on.1 (second _ _ h))

in_order : (vol : ℕ) (es : List (RecKey × Value)) → AreOn vol es → T (is_sorted place_cmp es) → IsStrictlySortedBy row_cmp (map change_place (map as_change es))
unfolding IsStrictlySortedBy
in_order vol [] on h = tt
in_order vol (e ∷ es) on h = (all_above vol e.0 es on.0 on.1 (first _ _ h), in_order vol es on.1 (second _ _ h))

-- the entries of the first before images are the undo
pub undo_listed : (vol : ℕ) (part : List Stamped) (m : FirstBefore) (ended : ℕ → Bool) (changes : List Change) → ((t : ℕ) → ended t ≡ is_ended t (records part)) →
    ((q : RecKey) → q.vol ≡ vol → get m q ≡ first_before (λ t. not (ended t)) q (records part)) → ((q : RecKey) → (q.vol ≡ vol → ⊥) → get m q ≡ None) → changes ≡ map as_change (entries m) → IsUndo vol part changes
undo_listed vol part m ended changes ended_is here elsewhere is = subst (λ cs. IsUndo vol part cs) (sym is) (record {
  ordered = in_order vol (entries m) on (entries_sorted m);
  exact = λ q on_it. looked_up vol (entries m) q on on_it ∙ sym (get-entries m q) ∙ here q on_it ∙ ap (λ (who : ℕ → Bool). first_before who q (records part)) (λ i t. not (ended_is t i));
})
  where
    on : AreOn vol (entries m)
    on = all_on vol m elsewhere (entries m) (entries_found place_cmp place_cmp_total place_cmp_exact m)
