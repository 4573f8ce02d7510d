-- Laws of what is noted for a transaction.
use Rattle.std.proofs.Common.{◌≡◌, ℕ, suc, ◌<◌, ◌==◌, Bool, true, false, cond, List, ◌∷◌, length, Option, Some, None, Result, Ok, Err, OnOk, OnErr, refl, sym, ap, ◌∙◌, is_some, arith}
use Rattle.std.proofs.lemmas.Bool.{eqb-true}
use Rattle.std.specs.Ordering.{nat_cmp, eq_by_cmp}
use Rattle.std.specs.Cmp.{nat_cmp_total, nat_eq_equiv, unsigned_tied}
use Rattle.std.specs.FinMap.{get, insert, remove, empty, entries, len, get-insert, get-remove, get-empty, len-entries, same_map}
use Rattle.std.proofs.lemmas.Map.Lookups.{exact_unsigned}
use Rattle.std.proofs.lemmas.Map.Views.{exact_unsigned_eq}
use Rattle.rdf_types.specs.declared.records.RecKey.{RecKey}
use Rattle.rdf_types.specs.Places.{place_cmp, place_cmp_total, same_place}
use Rattle.active_txns.specs.Founds.{FirstBefore, Founds, noted, found_or_none, found_at, found_without}

-- a place that was not found yet is noted
pub noted_new : (found : FirstBefore) (k : RecKey) (before : Option (List ℕ)) → is_some (get found k) ≡ false → noted found k before ≡ insert found k before
noted_new found k before none = ap (λ b. cond b found (insert found k before)) none

-- one that was is not
pub noted_same : (found : FirstBefore) (k : RecKey) (before : Option (List ℕ)) → is_some (get found k) ≡ true → noted found k before ≡ found
noted_same found k before some = ap (λ b. cond b found (insert found k before)) some

-- so it is where the note went well
pub noted_done : {E : Type 0} (r : Result Unit E) (found new : FirstBefore) (k : RecKey) (before : Option (List ℕ)) → is_some (get found k) ≡ false → OnOk r (new ≡ insert found k before) → OnOk r (new ≡ noted found k before)
noted_done (Ok u) found new k before none ok = ok ∙ sym (noted_new found k before none)
noted_done (Err e) found new k before none ok = tt

-- a transaction that is there already
pub founds_same : (founds : Founds) (t : ℕ) (found : FirstBefore) → get founds t ≡ Some found → insert founds t found ≡ founds
founds_same founds t found is =
    same_map nat_cmp_total exact_unsigned _ _ (λ s. get-insert nat_cmp_total founds t found s
    ∙ elim (eq_by_cmp nat_cmp s t) as (λ b. eq_by_cmp nat_cmp s t ≡ b → cond b (Some found) (get founds s) ≡ get founds s) [
      | true ↦ λ e. sym is ∙ ap (get founds) (sym (exact_unsigned_eq s t (sym (unsigned_tied s t) ∙ e)))
      | false ↦ λ e. refl
    ] refl)

-- what was found after a note that went well or was refused
pub record FoundDone {E : Type 0} (r : Result Unit E) (founds new : Founds) (t : ℕ) (k : RecKey) (before : Option (List ℕ)) : Type 0 where
  pub ok : OnOk r (new ≡ insert founds t (noted (found_at founds t) k before))
  pub err : OnErr r (new ≡ founds)

-- a note of a transaction that was there
pub found_more : {E : Type 0} (r : Result Unit E) (founds new : Founds) (t : ℕ) (k : RecKey) (before : Option (List ℕ)) (old found : FirstBefore) → get founds t ≡ Some old → new ≡ insert founds t found →
    OnOk r (found ≡ noted old k before) → OnErr r (found ≡ old) → FoundDone r founds new t k before
found_more (Ok u) founds new t k before old found was is ok err =
    record { ok = is ∙ ap (insert founds t) (ok ∙ ap (λ o. noted (found_or_none o) k before) (sym was)); err = tt }
found_more (Err e) founds new t k before old found was is ok err =
    record { ok = tt; err = is ∙ ap (insert founds t) err ∙ founds_same founds t old was }

-- the first note of a transaction that wasn't there
pub note_first : {E : Type 0} (r : Result Unit E) (old now new : Founds) (t : ℕ) (k : RecKey) (before : Option (List ℕ)) (found : FirstBefore) → now ≡ old → found ≡ noted empty k before → None ≡ get old t →
    OnOk r (new ≡ insert now t found) → OnOk r (new ≡ insert old t (noted (found_at old t) k before))
note_first (Ok u) old now new t k before found same is none ok =
    ok ∙ ap (λ m. insert m t found) same ∙ ap (insert old t) (is ∙ ap (λ o. noted (found_or_none o) k before) none)
note_first (Err e) old now new t k before found same is none ok = tt

-- what a transaction found, where one is noted or not
pub at_insert : (founds : Founds) (t u : ℕ) (f : FirstBefore) → found_at (insert founds t f) u ≡ cond (t == u) f (found_at founds u)
at_insert founds t u f =
    ap found_or_none (get-insert nat_cmp_total founds t f u ∙ ap (λ b. cond b (Some f) (get founds u)) (unsigned_tied u t ∙ nat_eq_equiv.symm u t))
    ∙ by (t == u)
  where
    by : (b : Bool) → found_or_none (cond b (Some f) (get founds u)) ≡ cond b f (found_at founds u)
    by true = refl
    by false = refl

pub at_remove : (founds : Founds) (t u : ℕ) → found_at (remove founds t) u ≡ cond (t == u) empty (found_at founds u)
at_remove founds t u =
    ap found_or_none (get-remove nat_cmp_total founds t u ∙ ap (λ b. cond b None (get founds u)) (unsigned_tied u t ∙ nat_eq_equiv.symm u t))
    ∙ by (t == u)
  where
    by : (b : Bool) → found_or_none (cond b None (get founds u)) ≡ cond b empty (found_at founds u)
    by true = refl
    by false = refl

-- nothing was found where the transaction is not noted
pub none_there : (k : RecKey) → false ≡ is_some (get (found_or_none None) k)
none_there k = sym (ap (λ o. is_some o) (get-empty place_cmp k))

-- a place that is forgotten
pub without_there : (old new : Founds) (t : ℕ) (k : RecKey) (f g : FirstBefore) → Some f ≡ get old t → new ≡ insert old t g → g ≡ remove f k →
    (u : ℕ) (q : RecKey) → get (found_at new u) q ≡ get (found_without old t k u) q
without_there old new t k f g was is less u q =
    ap (λ n. get (found_at n u) q) is ∙ ap (λ h. get h q) (at_insert old t u g) ∙ by (t == u) refl
  where
    by : (m : Bool) → (t == u) ≡ m → get (cond m g (found_at old u)) q ≡ get (found_without old t k u) q
    by true e =
        ap (λ h. get h q) (less ∙ ap (λ o. remove (found_or_none o) k) (was ∙ ap (get old) (eqb-true t u e)))
        ∙ sym (ap (λ m. get (cond m (remove (found_at old u) k) (found_at old u)) q) (nat_eq_equiv.symm u t ∙ e))
    by false e = sym (ap (λ m. get (cond m (remove (found_at old u) k) (found_at old u)) q) (nat_eq_equiv.symm u t ∙ e))

pub without_none : (old new : Founds) (t : ℕ) (k : RecKey) → None ≡ get old t → new ≡ old → (u : ℕ) (q : RecKey) → get (found_at new u) q ≡ get (found_without old t k u) q
without_none old new t k none is u q = ap (λ n. get (found_at n u) q) is ∙ by (u == t) refl
  where
    nothing_there : (o : Option FirstBefore) → None ≡ o → get (found_or_none o) q ≡ None
    nothing_there None e = get-empty place_cmp q
    nothing_there (Some f) e = cc

    gone : (f : FirstBefore) → get f q ≡ None → None ≡ get (remove f k) q
    gone f e = sym (get-remove place_cmp_total f k q ∙ at (same_place q k))
      where
        at : (m : Bool) → cond m None (get f q) ≡ None
        at true = refl
        at false = e

    by : (m : Bool) → (u == t) ≡ m → get (found_at old u) q ≡ get (cond m (remove (found_at old u) k) (found_at old u)) q
    by false e = refl
    by true e = let n = nothing_there (get old u) (none ∙ ap (get old) (sym (eqb-true u t e))) in n ∙ gone (found_at old u) n

-- one place fewer is left
pub fewer : (old new : FirstBefore) (e : RecKey × Option (List ℕ)) → entries old ≡ e ∷ entries new → len new < len old
fewer old new e is =
    let now : len new ≡ length (entries new) = len-entries new in
    let was : len old ≡ suc (length (entries new)) = len-entries old ∙ ap (λ (es : List (RecKey × Option (List ℕ))). length es) is in
    omega (arith, now, was)
