-- A place is added to the list of its transaction.
use Rattle.std.proofs.Common.{◌≡◌, ℕ, true, false, cond, List, [], ◌∷◌, ◌++◌, Some, Result, Ok, Err, OnOk, OnErr, refl, sym, ap, ◌∙◌}
use Rattle.std.specs.Ordering.{nat_cmp, eq_by_cmp}
use Rattle.std.specs.Cmp.{nat_cmp_total, unsigned_tied}
use Rattle.std.specs.FinMap.{get, insert, get-insert, same_map}
use Rattle.std.proofs.lemmas.Map.Lookups.{exact_unsigned}
use Rattle.std.proofs.lemmas.Map.Views.{exact_unsigned_eq}
use Rattle.rdf_types.specs.declared.records.RecKey.{RecKey}
use Rattle.record_locks.specs.Locks.{Lists, listed, places_of}

-- a transaction that has its list
listed_same : (lists : Lists) (txn : ℕ) (keys : List RecKey) → get lists txn ≡ Some keys → insert lists txn keys ≡ lists
listed_same lists txn keys is =
    same_map nat_cmp_total exact_unsigned _ _ (λ s. get-insert nat_cmp_total lists txn keys s
    ∙ elim (eq_by_cmp nat_cmp s txn) as (λ b. eq_by_cmp nat_cmp s txn ≡ b → cond b (Some keys) (get lists s) ≡ get lists s) [
      | true ↦ λ e. sym is ∙ ap (get lists) (sym (exact_unsigned_eq s txn (sym (unsigned_tied s txn) ∙ e)))
      | false ↦ λ e. refl
    ] refl)

-- the lists after an addition that went well or was refused
pub record ListDone {E : Type 0} (r : Result Unit E) (lists new : Lists) (txn : ℕ) (key : RecKey) : Type 0 where
  pub ok : OnOk r (new ≡ insert lists txn (places_of lists txn ++ key ∷ []))
  pub err : OnErr r (new ≡ lists)

pub listed_more : {E : Type 0} (r : Result Unit E) (lists new : Lists) (txn : ℕ) (key : RecKey) (old keys : List RecKey) → get lists txn ≡ Some old → new ≡ insert lists txn keys →
    OnOk r (keys ≡ old ++ key ∷ []) → OnErr r (keys ≡ old) → ListDone r lists new txn key
listed_more (Ok u) lists new txn key old keys found is ok err =
    record { ok = is ∙ ap (insert lists txn) (ok ∙ ap (λ o. listed o ++ key ∷ []) (sym found)); err = tt }
listed_more (Err e) lists new txn key old keys found is ok err =
    record { ok = tt; err = is ∙ ap (insert lists txn) err ∙ listed_same lists txn old found }
