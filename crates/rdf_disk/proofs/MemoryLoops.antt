-- Changes taken back one by one, the newest first, and done again, the oldest first.
use Rattle.std.proofs.Common.{◌≡◌, ℕ, List, [], ◌∷◌, ◌++◌, length, map, reverse, Option, refl, sym, ◌∙◌, ap, subst}
use Rattle.std.proofs.lemmas.List.{reverse-append}
use Rattle.rdf_disk.specs.MemoryChanges.{Change, torn, mixed}
use Rattle.rdf_disk.specs.MemoryUndo.{IsLong, IsWithin, AreWithin, bytes_before, len_before, change_of, redo_of, changes_of, safe_of}
use Rattle.rdf_disk.specs.declared.memory_held.Undo.{Undo}
use Rattle.rdf_disk.specs.declared.memory_held.Undo.TheVariants.{OfWrite, OfRemoval, OfFailedWrite, OfFailedRemoval}

pub within_push : (us : List Undo) (u : Undo) (n : ℕ) → AreWithin us n → IsWithin u n → AreWithin (us ++ u ∷ []) n
within_push [] u n all one = (one, tt)
within_push (v ∷ us) u n all one = (all.0, within_push us u n all.1 one)

pub within_pop : (us : List Undo) (u : Undo) (n : ℕ) → AreWithin (us ++ u ∷ []) n → AreWithin us n × IsWithin u n
within_pop [] u n all = (tt, all.0)
within_pop (v ∷ us) u n all = let rest = within_pop us u n all.1 in ((all.0, rest.0), rest.1)

pub reverse_push : (us : List Undo) (u : Undo) → reverse (us ++ u ∷ []) ≡ u ∷ reverse us
reverse_push us u = reverse-append us (u ∷ [])

map_push : (us : List Undo) (u : Undo) (cs : List Change) → map redo_of (us ++ u ∷ []) ++ cs ≡ map redo_of us ++ redo_of u ∷ cs
map_push [] u cs = refl
map_push (v ∷ us) u cs = ap (λ (l : List Change). redo_of v ∷ l) (map_push us u cs)

long_before : (u : Undo) (len : Option ℕ) (n : ℕ) → IsWithin u n → IsLong len n → IsLong (len_before u len) n
long_before (OfWrite odd at held l) len n within long = within.1
long_before (OfRemoval odd l) len n within long = within
long_before (OfFailedWrite at m) len n within long = long
long_before OfFailedRemoval len n within long = long

-- what is left to take back, and what was put aside
pub record IsTaking (us0 : List Undo) (b0 : List ℕ) (len0 : Option ℕ) (us redo : List Undo) (b : List ℕ) (len : Option ℕ) : Type 0 where
  pub within : AreWithin us (length b)
  pub aside : AreWithin redo (length b)
  pub changes : map redo_of redo ++ changes_of us b ≡ changes_of us0 b0
  pub safe : safe_of us b len ≡ safe_of us0 b0 len0
  pub bytes : length b ≡ length b0
  pub long : IsLong len (length b)

pub taking_step : (us0 : List Undo) (b0 : List ℕ) (len0 : Option ℕ) (us all redo : List Undo) (u r : Undo) (b b1 : List ℕ) (len len1 : Option ℕ) → IsTaking us0 b0 len0 all redo b len → all ≡ u ∷ us
    → b1 ≡ bytes_before u b → len1 ≡ len_before u len → redo_of r ≡ change_of u b → IsWithin r (length b1) → length b1 ≡ length b → IsTaking us0 b0 len0 us (redo ++ r ∷ []) b1 len1
taking_step us0 b0 len0 us all redo u r b b1 len len1 whole split b_is len_is r_is r_within same =
    let t = subst (λ (l : List Undo). IsTaking us0 b0 len0 l redo b len) split whole in
    record {
      within = subst (λ (n : ℕ). AreWithin us n) (sym same) t.within.1;
      aside = within_push redo r (length b1) (subst (λ (n : ℕ). AreWithin redo n) (sym same) t.aside) r_within;
      changes = map_push redo r (changes_of us b1) ∙ ap (λ (c : Change). map redo_of redo ++ c ∷ changes_of us b1) r_is ∙ ap (λ (l : List ℕ). map redo_of redo ++ change_of u b ∷ changes_of us l) b_is ∙ t.changes;
      safe = ap (λ (l : List ℕ). safe_of us l len1) b_is ∙ ap (λ (l : Option ℕ). safe_of us (bytes_before u b) l) len_is ∙ t.safe;
      bytes = same ∙ t.bytes;
      long = subst (λ (l : Option ℕ). IsLong l (length b1)) (sym len_is) (subst (λ (n : ℕ). IsLong (len_before u len) n) (sym same) (long_before u len (length b) t.within.0 t.long));
    }

-- the last change of a list is the first to be done
pub mixed_push : (us : List Undo) (u : Undo) (x : Option (List ℕ)) → mixed (map redo_of (us ++ u ∷ [])) x ≡ mixed (map redo_of us) (torn (redo_of u) x)
mixed_push [] u x = refl
mixed_push (v ∷ us) u x = ap (λ (y : Option (List ℕ)). torn (redo_of v) y) (mixed_push us u x)
