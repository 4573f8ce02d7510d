-- The lists of the transactions stay in step with the owners.
use Rattle.std.proofs.Common.{◌≡◌, ◌==◌, ℕ, Bool, true, false, cond, ◌||◌, List, [], ◌∷◌, ◌++◌, Option, Some, None, Result, Ok, Err, OnOk, OnErr, is_err, refl, sym, ap, ◌∙◌, subst}
use Rattle.std.specs.List.{list_any}
use Rattle.std.specs.Ordering.{nat_cmp}
use Rattle.std.specs.Cmp.{nat_cmp_total, unsigned_tied}
use Rattle.std.proofs.Math.Bool.{or-true, or-false}
use Rattle.std.proofs.lemmas.Map.Views.{exact_unsigned_eq}
use Rattle.std.specs.FinMap.{get, insert, remove, empty, get-insert, get-remove, get-empty, same_map}
use Rattle.std.proofs.lemmas.List.Folds.{list_any-append}
use Rattle.rdf_types.specs.declared.records.RecKey.{RecKey}
use Rattle.rdf_types.specs.Places.{place_cmp, place_cmp_total, place_cmp_exact, same_place, same_place-is}
use Rattle.record_locks.specs.Locks.{Locks, Lists, owner_of, is_owner, freed, listed, places_of, Agree, without}

abbrev no_owner : Option ℕ
no_owner = None

none_twice : (a b : Bool) (o : Option ℕ) → cond a no_owner (cond b None o) ≡ cond (b || a) None o
none_twice true true o = refl
none_twice true false o = refl
none_twice false true o = refl
none_twice false false o = refl

-- what stands where some places are freed
pub owner_of-without : (keys : List RecKey) (locks : Locks) (key : RecKey) → owner_of (without locks keys) key ≡ cond (list_any (same_place key) keys) None (owner_of locks key)
owner_of-without [] locks key = refl
owner_of-without (k ∷ keys) locks key =
    owner_of-without keys (remove locks k) key
    ∙ ap (cond (list_any (same_place key) keys) None) (get-remove place_cmp_total locks k key)
    ∙ none_twice (list_any (same_place key) keys) (same_place key k) (owner_of locks key)

-- what stands after a transaction's places are freed
pub owner_of-released : (locks : Locks) (lists : Lists) (txn : ℕ) → Agree locks lists → (key : RecKey) → owner_of (without locks (places_of lists txn)) key ≡ freed txn (owner_of locks key)
owner_of-released locks lists txn agree key =
    owner_of-without (places_of lists txn) locks key ∙ ap (λ b. cond b None (owner_of locks key)) (agree txn key)

freed_own : (t : ℕ) (o : Option ℕ) → is_owner t (freed t o) ≡ false
freed_own t None = refl
freed_own t (Some b) = elim (t == b) as (λ c. (t == b) ≡ c → is_owner t (cond c None (Some b)) ≡ false) [
  | true ↦ λ e. refl
  | false ↦ λ e. e
] refl

freed_other : (s t : ℕ) (o : Option ℕ) → (s == t) ≡ false → is_owner s o ≡ is_owner s (freed t o)
freed_other s t None e = refl
freed_other s t (Some b) e = elim (t == b) as (λ c. (t == b) ≡ c → (s == b) ≡ is_owner s (cond c None (Some b))) [
  | true ↦ λ d. ap (λ n. s == n) (sym (exact_unsigned_eq t b d)) ∙ e
  | false ↦ λ d. refl
] refl

-- after a release
pub agree_released : (locks : Locks) (lists : Lists) (txn : ℕ) → Agree locks lists → Agree (without locks (places_of lists txn)) (remove lists txn)
agree_released locks lists txn agree s q =
    ap (λ o. list_any (same_place q) (listed o)) (get-remove nat_cmp_total lists txn s ∙ ap (λ b. cond b None (get lists s)) (unsigned_tied s txn))
    ∙ elim (s == txn) as (λ b. (s == txn) ≡ b → list_any (same_place q) (listed (cond b None (get lists s))) ≡ is_owner s (freed txn (get locks q))) [
      | true ↦ λ e. sym (ap (λ n. is_owner n (freed txn (get locks q))) (exact_unsigned_eq s txn e) ∙ freed_own txn (get locks q))
      | false ↦ λ e. agree s q ∙ freed_other s txn (get locks q) e
    ] refl
    ∙ ap (is_owner s) (sym (owner_of-released locks lists txn agree q))

-- a transaction without a list owns nothing
pub nothing_released : (locks : Locks) (lists : Lists) (txn : ℕ) → Agree locks lists → get lists txn ≡ None → (key : RecKey) → owner_of locks key ≡ freed txn (owner_of locks key)
nothing_released locks lists txn agree none key =
    ap (λ ks. owner_of (without locks ks) key) (sym (ap listed none)) ∙ owner_of-released locks lists txn agree key

pub agree_nothing : (locks : Locks) (lists : Lists) (txn : ℕ) → Agree locks lists → get lists txn ≡ None → Agree locks (remove lists txn)
agree_nothing locks lists txn agree none = subst (λ ks. Agree (without locks ks) (remove lists txn)) (ap listed none) (agree_released locks lists txn agree)

taken_own : (s t : ℕ) (x c : Bool) (o : Option ℕ) → (s == t) ≡ true → x ≡ is_owner s o → (x || (c || false)) ≡ is_owner s (cond c (Some t) o)
taken_own s t x true o e h = or-true x ∙ sym e
taken_own s t x false o e h = or-false x ∙ h

taken_other : (s t : ℕ) (x c : Bool) (o : Option ℕ) → (s == t) ≡ false → x ≡ is_owner s o → (c ≡ true → o ≡ None) → x ≡ is_owner s (cond c (Some t) o)
taken_other s t x true o e h free = h ∙ ap (is_owner s) (free refl) ∙ sym e
taken_other s t x false o e h free = h

-- after a free record is locked
pub agree_locked : (locks : Locks) (lists : Lists) (txn : ℕ) (key : RecKey) → Agree locks lists → get locks key ≡ None →
    Agree (insert locks key txn) (insert lists txn (places_of lists txn ++ key ∷ []))
agree_locked locks lists txn key agree none s q =
    let more : List RecKey = places_of lists txn ++ key ∷ [] in
    ap (λ o. list_any (same_place q) (listed o)) (get-insert nat_cmp_total lists txn more s ∙ ap (λ b. cond b (Some more) (get lists s)) (unsigned_tied s txn))
    ∙ elim (s == txn) as (λ b. (s == txn) ≡ b → list_any (same_place q) (listed (cond b (Some more) (get lists s))) ≡ is_owner s (cond (same_place q key) (Some txn) (get locks q))) [
      | true ↦ λ e. list_any-append (same_place q) (places_of lists txn) (key ∷ [])
          ∙ taken_own s txn (list_any (same_place q) (places_of lists txn)) (same_place q key) (get locks q) e
          (agree txn q ∙ ap (λ n. is_owner n (get locks q)) (sym (exact_unsigned_eq s txn e)))
      | false ↦ λ e. taken_other s txn (list_any (same_place q) (places_of lists s)) (same_place q key) (get locks q) e (agree s q) (λ c. ap (get locks) (same_place-is q key c) ∙ none)
    ] refl
    ∙ ap (is_owner s) (sym (get-insert place_cmp_total locks key txn q))

pub agree_empty : Agree empty empty
agree_empty s q = ap (λ o. list_any (same_place q) (listed o)) (get-empty nat_cmp s) ∙ sym (ap (is_owner s) (get-empty place_cmp q))

-- the owner keeps its lock
pub locked_same : (locks : Locks) (key : RecKey) (txn : ℕ) → get locks key ≡ Some txn → locks ≡ insert locks key txn
locked_same locks key txn is =
    sym (same_map place_cmp_total place_cmp_exact _ _ (λ q. get-insert place_cmp_total locks key txn q
    ∙ elim (same_place q key) as (λ b. same_place q key ≡ b → cond b (Some txn) (get locks q) ≡ get locks q) [
      | true ↦ λ e. sym is ∙ ap (get locks) (sym (same_place-is q key e))
      | false ↦ λ e. refl
    ] refl))

-- a lock that is taken back
pub unlocked_again : (locks : Locks) (key : RecKey) (txn : ℕ) → get locks key ≡ None → remove (insert locks key txn) key ≡ locks
unlocked_again locks key txn none =
    same_map place_cmp_total place_cmp_exact _ _ (λ q. get-remove place_cmp_total (insert locks key txn) key q
    ∙ ap (cond (same_place q key) None) (get-insert place_cmp_total locks key txn q)
    ∙ elim (same_place q key) as (λ b. same_place q key ≡ b → cond b None (cond b (Some txn) (get locks q)) ≡ get locks q) [
      | true ↦ λ e. sym none ∙ ap (get locks) (sym (same_place-is q key e))
      | false ↦ λ e. refl
    ] refl)

-- what is equal to a table in step is in step
pub agree_same : (locks m : Locks) (lists n : Lists) → m ≡ locks → n ≡ lists → Agree locks lists → Agree m n
agree_same locks m lists n same alike agree = subst (λ a. Agree a n) (sym same) (subst (λ b. Agree locks b) (sym alike) agree)

pub on_err : {E X : Type 0} (r : Result Unit E) → true ≡ is_err r → OnErr r X → X
on_err (Ok u) e h = cc
on_err (Err x) e h = h

pub on_ok : {E X : Type 0} (r : Result Unit E) → false ≡ is_err r → OnOk r X → X
on_ok (Ok u) e h = h
on_ok (Err x) e h = cc

pub err_given : {E X : Type 0} (r : Result Unit E) → X → OnErr r X
err_given (Ok u) h = tt
err_given (Err x) h = h
