-- What an undo makes of a volume.
use Rattle.std.proofs.Common.{◌≡◌, inr, ◌⊎◌, ℕ, zero, suc, ◌≤◌, Bool, true, false, cond, List, [], ◌∷◌, take, map, unwrap_or, Option, Some, None, IsTrue, refl, sym, ap, ap₂, ◌∙◌, subst}
use Rattle.std.specs.List.{AllByRecursion}
use Rattle.std.specs.List.Sorted.{IsStrictlySortedBy}
use Rattle.std.specs.FinMap.{from_entries, find}
use Rattle.std.specs.Ordering.{eq_by_cmp}
use Rattle.rdf_types.specs.declared.records.Change.{Change}
use Rattle.rdf_types.specs.declared.records.Record.{Record}
use Rattle.rdf_types.specs.declared.records.RecKey.{RecKey}
use Rattle.rdf_types.specs.Places.{same_place-is, same_place-on, row_cmp, row_cmp_total, row_cmp_exact}
use Rattle.rdf_types.specs.MapViews.{entries-ordered, entries_found}
use Rattle.rdf_model.specs.Contents.{Contents, nothing, with_value, place}
use Rattle.rdf_model.specs.Legal.{Legal}
use Rattle.rdf_model.specs.Trail.{raw, undo, committed}
use Rattle.rdf_model.specs.Volumes.{Rows, AreOn, shown}
use Rattle.rdf_model.specs.Window.{low, part, records, Fits, IsHalfUndone}
use Rattle.rdf_volume.specs.Changes.{changed, with_change}
use Rattle.takeover_undo.specs.Undo.{change_place, set_at, IsUndo}

abbrev pub Value : Type 0
Value = Option (List ℕ)

-- ---- each change sets what undo sets

abbrev entry_of : Change → (List ℕ × List ℕ) × Value
entry_of c = (change_place c, c.after)

set_is_find : (cs : List Change) (at : List ℕ × List ℕ) → set_at cs at ≡ find row_cmp at (map entry_of cs)
set_is_find [] at = refl
set_is_find (c ∷ cs) at = ap (λ (o : Option Value). cond (eq_by_cmp row_cmp at (change_place c)) (Some c.after) o) (set_is_find cs at)

places_are : (cs : List Change) → map change_place cs ≡ map (λ e. e.0) (map entry_of cs)
places_are [] = refl
places_are (c ∷ cs) = ap (λ (l : List (List ℕ × List ℕ)). change_place c ∷ l) (places_are cs)

each_of : (all cs : List Change) → AllByRecursion (λ e. find row_cmp e.0 (map entry_of all) ≡ Some e.1) (map entry_of cs) → AllByRecursion (λ c. set_at all (change_place c) ≡ Some c.after) cs
each_of all [] h = tt
each_of all (c ∷ cs) h = (set_is_find all (change_place c) ∙ h.0, each_of all cs h.1)

each_set : (cs : List Change) → IsStrictlySortedBy row_cmp (map change_place cs) → AllByRecursion (λ c. set_at cs (change_place c) ≡ Some c.after) cs
each_set cs ordered =
    each_of cs cs
    (subst (λ (l : List ((List ℕ × List ℕ) × Value)). AllByRecursion (λ e. find row_cmp e.0 l ≡ Some e.1) l)
    (entries-ordered row_cmp row_cmp_total row_cmp_exact (map entry_of cs) (subst (λ (l : List (List ℕ × List ℕ)). IsStrictlySortedBy row_cmp l) (places_are cs) ordered))
    (entries_found row_cmp row_cmp_total row_cmp_exact (from_entries (map entry_of cs))))

-- the changes set their places to what undo of the trail sets them to
abbrev pub Sets : ℕ → List Record → List Change → Type 0
Sets vol trail cs = AllByRecursion (λ c. undo trail (place vol c.file c.key) ≡ Some c.after) cs

sets_all : (vol : ℕ) (trail : List Record) (all cs : List Change) → ((q : RecKey) → q.vol ≡ vol → set_at all (q.file, q.key) ≡ undo trail q) → AllByRecursion (λ c. set_at all (change_place c) ≡ Some c.after) cs → Sets vol trail cs
sets_all vol trail all [] exact h = tt
sets_all vol trail all (c ∷ cs) exact h = (sym (exact (place vol c.file c.key) refl) ∙ h.0, sets_all vol trail all cs exact h.1)

sets_some : (vol : ℕ) (trail : List Record) (n : ℕ) (cs : List Change) → Sets vol trail cs → Sets vol trail (take n cs)
sets_some vol trail zero cs h = tt
sets_some vol trail (suc n) [] h = tt
sets_some vol trail (suc n) (c ∷ cs) h = (h.0, sets_some vol trail n cs h.1)

-- ---- the rows after the changes

here_is : (vol : ℕ) (c : Change) (q : RecKey) → q.vol ≡ vol → eq_by_cmp row_cmp (q.file, q.key) (change_place c) ≡ true → q ≡ place vol c.file c.key
here_is vol c q on e = same_place-is q (place vol c.file c.key) (same_place-on vol q (place vol c.file c.key) on refl ∙ e)

found_undo : (vol : ℕ) (trail : List Record) (cs : List Change) (q : RecKey) (x : Value) → Sets vol trail cs → q.vol ≡ vol → set_at cs (q.file, q.key) ≡ Some x → undo trail q ≡ Some x
found_undo vol trail [] q x sets on e = cc
found_undo vol trail (c ∷ cs) q x sets on e = by_place (found_undo vol trail cs q x sets.1 on) (eq_by_cmp row_cmp (q.file, q.key) (change_place c)) refl e
  where
    by_place : (set_at cs (q.file, q.key) ≡ Some x → undo trail q ≡ Some x) → (b : Bool) → eq_by_cmp row_cmp (q.file, q.key) (change_place c) ≡ b → cond b (Some c.after) (set_at cs (q.file, q.key)) ≡ Some x → undo trail q ≡ Some x
    by_place behind true same found = ap (λ p. undo trail p) (here_is vol c q on same) ∙ sets.0 ∙ found
    by_place behind false other found = behind found

abbrev pub ChangeSets : Type 0
ChangeSets = (vol : ℕ) (files : Contents) (rows : Rows) (c : Change) → AreOn vol files rows → AreOn vol (with_value files (place vol c.file c.key) c.after) (with_change rows c)

one_set : ChangeSets → (vol : ℕ) (rows : Rows) (c : Change) (q : RecKey) → q.vol ≡ vol → shown (with_change rows c) q ≡ cond (eq_by_cmp row_cmp (q.file, q.key) (change_place c)) c.after (shown rows q)
one_set law vol rows c q on =
    law vol (shown rows) rows c (λ _ _. refl) q on ∙ ap (λ (b : Bool). cond b c.after (shown rows q)) (same_place-on vol q (place vol c.file c.key) on refl)

value_set : ChangeSets → (vol : ℕ) (trail : List Record) (cs : List Change) (rows : Rows) (q : RecKey) → Sets vol trail cs → q.vol ≡ vol → shown (changed rows cs) q ≡ unwrap_or (set_at cs (q.file, q.key)) (shown rows q)
value_set law vol trail [] rows q sets on = refl
value_set law vol trail (c ∷ cs) rows q sets on =
    value_set law vol trail cs (with_change rows c) q sets.1 on
    ∙ ap (λ (v : Value). unwrap_or (set_at cs (q.file, q.key)) v) (one_set law vol rows c q on)
    ∙ by_place (eq_by_cmp row_cmp (q.file, q.key) (change_place c)) refl
  where
    one_value : (o : Option Value) (x y : Value) → o ≡ Some x → o ≡ Some y → y ≡ x
    one_value o x y a b = cc

    later : q ≡ place vol c.file c.key → (o : Option Value) → set_at cs (q.file, q.key) ≡ o → unwrap_or o c.after ≡ c.after
    later same None e = refl
    later same (Some x) e = one_value (undo trail q) c.after x (ap (λ p. undo trail p) same ∙ sets.0) (found_undo vol trail cs q x sets.1 on e)

    by_place : (b : Bool) → eq_by_cmp row_cmp (q.file, q.key) (change_place c) ≡ b →
        unwrap_or (set_at cs (q.file, q.key)) (cond b c.after (shown rows q)) ≡ unwrap_or (cond b (Some c.after) (set_at cs (q.file, q.key))) (shown rows q)
    by_place true same = later (here_is vol c q on same) (set_at cs (q.file, q.key)) refl
    by_place false other = refl

abbrev pub Settling : Type 0
Settling = (base : Contents) (trail : List Record) (q : RecKey) → Legal base trail → unwrap_or (undo trail q) (raw base trail q) ≡ committed base trail q

abbrev pub Windows : Type 0
Windows = (base : Contents) (protects : ℕ → Bool) (trail : List Record) (start : ℕ) (q : RecKey) → Legal base trail → start ≤ low protects trail → IsTrue (protects q.vol) → undo (records (part protects start trail)) q ≡ undo trail q

module _ (window : Windows) (change_sets : ChangeSets) (protects : ℕ → Bool) (vol : ℕ) (trail : List Record) (start : ℕ) (rows : Rows) (cs : List Change) (guarded : IsTrue (protects vol)) (legal : Legal nothing trail) (early : start ≤ low protects trail)
    (is : IsUndo vol (part protects start trail) cs) (shows : AreOn vol (raw nothing trail) rows) where
  exact_here : (q : RecKey) → q.vol ≡ vol → set_at cs (q.file, q.key) ≡ undo trail q
  exact_here q on = is.exact q on ∙ window nothing protects trail start q legal early (subst (λ v. IsTrue (protects v)) (sym on) guarded)

  sets_here : Sets vol trail cs
  sets_here = sets_all vol trail cs cs exact_here (each_set cs is.ordered)

  pub undone_shows : Settling → AreOn vol (committed nothing trail) (changed rows cs)
  undone_shows settling q on =
      value_set change_sets vol trail cs rows q sets_here on
      ∙ ap₂ (λ (o : Option Value) (v : Value). unwrap_or o v) (exact_here q on) (shows q on)
      ∙ settling nothing trail q legal

  -- ---- half undone

  pub half_undone : ((files : Contents) (k : RecKey) (value : Value) → IsHalfUndone vol trail files → (value ≡ raw nothing trail k) ⊎ (undo trail k ≡ Some value) → IsHalfUndone vol trail (with_value files k value)) →
      (more : List Change) (now : Rows) → Sets vol trail more → IsHalfUndone vol trail (shown now) → IsHalfUndone vol trail (shown (changed now more))
  half_undone next [] now sets half = half
  half_undone next (c ∷ more) now sets half =
      half_undone next more (with_change now c) sets.1
      (λ q on. subst (λ (v : Value). (v ≡ raw nothing trail q) ⊎ (undo trail q ≡ Some v)) (sym (change_sets vol (shown now) now c (λ _ _. refl) q on))
      (next (shown now) (place vol c.file c.key) c.after half (inr sets.0) q on))

  pub partly_fits : ((protects : ℕ → Bool) (vol : ℕ) (trail : List Record) (files : Contents) → IsTrue (protects vol) → IsHalfUndone vol trail files → Fits vol trail (low protects trail) files) →
      ((vol : ℕ) (trail : List Record) (files : Contents) → ((q : RecKey) → q.vol ≡ vol → files q ≡ raw nothing trail q) → IsHalfUndone vol trail files) →
      ((vol : ℕ) (trail : List Record) (files : Contents) (k : RecKey) (value : Value) → IsHalfUndone vol trail files → (value ≡ raw nothing trail k) ⊎ (undo trail k ≡ Some value) → IsHalfUndone vol trail (with_value files k value)) →
      (count : ℕ) → Fits vol trail (low protects trail) (shown (changed rows (take count cs)))
  partly_fits fits first next count =
      fits protects vol trail (shown (changed rows (take count cs))) guarded (half_undone (next vol trail) (take count cs) rows (sets_some vol trail count cs sets_here) (first vol trail (shown rows) shows))
