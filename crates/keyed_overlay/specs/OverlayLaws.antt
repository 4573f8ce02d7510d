-- What rows with changes over them have at each place, and how more changes add up.
use Rattle.std.proofs.Common.{◌≡◌, ℕ, Bool, true, false, cond, not, List, [], ◌∷◌, ◌++◌, Option, Some, None, is_some, refl, sym, ap, ◌∙◌}
use Rattle.std.specs.Option.{option_or}
use Rattle.std.specs.Ordering.{eq_by_cmp}
use Rattle.std.specs.FinMap.{find, get, insert, remove, empty, contains_key, entries, get-empty, get-entries, get-insert, get-remove, get-retain_keys, get-from_entries, get_tied, same_map}
use Rattle.rdf_types.specs.Places.{row_cmp, row_cmp_total, row_cmp_exact}
use Rattle.rdf_model.specs.Volumes.{Rows}
use Rattle.keyed_overlay.specs.Overlays.{Laid, not_emptied, overlaid}

-- what is found in one list behind another
pub find_behind : (q : List ℕ × List ℕ) (es fs : List ((List ℕ × List ℕ) × List ℕ)) → find row_cmp q (es ++ fs) ≡ option_or (find row_cmp q es) (find row_cmp q fs)
find_behind q [] fs = refl
find_behind q (e ∷ es) fs =
    elim (eq_by_cmp row_cmp q e.0) as (λ b. cond b (Some e.1) (find row_cmp q (es ++ fs)) ≡ option_or (cond b (Some e.1) (find row_cmp q es)) (find row_cmp q fs)) [
      | true ↦ refl
      | false ↦ find_behind q es fs
    ]

turned : {A : Type 0} (b : Bool) (x y : A) → cond (not b) x y ≡ cond b y x
turned true x y = refl
turned false x y = refl

get_not_emptied : (base : Rows) (laid : Laid) (q : List ℕ × List ℕ) → get (not_emptied base laid) q ≡ cond (contains_key laid.emptied q) None (get base q)
get_not_emptied base laid q =
    get-retain_keys base (λ place. not (contains_key laid.emptied place)) q (λ x tied. ap (λ v. not (is_some v)) (get_tied row_cmp_total laid.emptied q x tied))
    ∙ turned (contains_key laid.emptied q) (get base q) None

-- the value that was set at the place, none where it was emptied, and else what stands below
pub get_overlaid : (base : Rows) (laid : Laid) (q : List ℕ × List ℕ) →
    get (overlaid base laid) q ≡ option_or (get laid.set q) (cond (contains_key laid.emptied q) None (get base q))
unfolding overlaid
get_overlaid base laid q =
    get-from_entries row_cmp_total (entries laid.set ++ entries (not_emptied base laid)) q
    ∙ find_behind q (entries laid.set) (entries (not_emptied base laid))
    ∙ ap (λ v. option_or v (find row_cmp q (entries (not_emptied base laid)))) (sym (get-entries laid.set q))
    ∙ ap (option_or (get laid.set q)) (sym (get-entries (not_emptied base laid) q) ∙ get_not_emptied base laid q)

-- two overlays with the same values set and the same places emptied say the same
over : (base : Rows) (laid : Laid) (s e : Rows) → laid.set ≡ s → laid.emptied ≡ e → (q : List ℕ × List ℕ) →
    get (overlaid base laid) q ≡ option_or (get s q) (cond (contains_key e q) None (get base q))
over base laid s e set_is emptied_is q =
    get_overlaid base laid q ∙ (λ i. option_or (get (set_is i) q) (cond (contains_key (emptied_is i) q) None (get base q)))

-- without a change all is as it is below
pub overlaid_none : (base : Rows) (laid : Laid) → laid.set ≡ empty → laid.emptied ≡ empty → overlaid base laid ≡ base
overlaid_none base laid none_set none_emptied =
    same_map row_cmp_total row_cmp_exact (overlaid base laid) base (λ q. over base laid empty empty none_set none_emptied q
    ∙ ap (λ v. option_or v (cond (contains_key {X = List ℕ} {R = row_cmp} empty q) None (get base q))) (get-empty row_cmp q)
    ∙ ap (λ (v : Option (List ℕ)). cond (is_some v) None (get base q)) (get-empty row_cmp q))

set_first : {A : Type 0} (b : Bool) (x y : Option A) (v : A) → option_or (cond b (Some v) x) y ≡ cond b (Some v) (option_or x y)
set_first true x y v = refl
set_first false x y v = refl

-- with a value set more
pub overlaid_put : (base : Rows) (laid more : Laid) (k : List ℕ × List ℕ) (v : List ℕ) → more.set ≡ insert laid.set k v → more.emptied ≡ laid.emptied →
    overlaid base more ≡ insert (overlaid base laid) k v
overlaid_put base laid more k v set_is emptied_is =
    same_map row_cmp_total row_cmp_exact (overlaid base more) (insert (overlaid base laid) k v) (λ q. over base more (insert laid.set k v) laid.emptied set_is emptied_is q
    ∙ ap (λ x. option_or x (cond (contains_key laid.emptied q) None (get base q))) (get-insert row_cmp_total laid.set k v q)
    ∙ set_first (eq_by_cmp row_cmp q k) (get laid.set q) (cond (contains_key laid.emptied q) None (get base q)) v
    ∙ ap (cond (eq_by_cmp row_cmp q k) (Some v)) (sym (get_overlaid base laid q))
    ∙ sym (get-insert row_cmp_total (overlaid base laid) k v q))

emptied_first : {A : Type 0} (b : Bool) (x y z : Option A) (v : A) →
    option_or (cond b None x) (cond (is_some (cond b (Some v) y)) None z) ≡ cond b None (option_or x (cond (is_some y) None z))
emptied_first true x y z v = refl
emptied_first false x y z v = refl

-- with a place emptied more
pub overlaid_remove : (base : Rows) (laid more : Laid) (k : List ℕ × List ℕ) (v : List ℕ) → more.set ≡ remove laid.set k → more.emptied ≡ insert laid.emptied k v →
    overlaid base more ≡ remove (overlaid base laid) k
overlaid_remove base laid more k v set_is emptied_is =
    same_map row_cmp_total row_cmp_exact (overlaid base more) (remove (overlaid base laid) k) (λ q. over base more (remove laid.set k) (insert laid.emptied k v) set_is emptied_is q
    ∙ ap (λ x. option_or x (cond (contains_key (insert laid.emptied k v) q) None (get base q))) (get-remove row_cmp_total laid.set k q)
    ∙ ap (λ x. option_or (cond (eq_by_cmp row_cmp q k) None (get laid.set q)) (cond (is_some x) None (get base q))) (get-insert row_cmp_total laid.emptied k v q)
    ∙ emptied_first (eq_by_cmp row_cmp q k) (get laid.set q) (get laid.emptied q) (get base q) v
    ∙ ap (cond (eq_by_cmp row_cmp q k) None) (sym (get_overlaid base laid q))
    ∙ sym (get-remove row_cmp_total (overlaid base laid) k q))

-- at a place with a value set
pub value_set : (base : Rows) (laid : Laid) (q : List ℕ × List ℕ) (v : List ℕ) → get laid.set q ≡ Some v → get (overlaid base laid) q ≡ Some v
value_set base laid q v is = get_overlaid base laid q ∙ ap (λ x. option_or x (cond (contains_key laid.emptied q) None (get base q))) is

-- at a place that was emptied, and has no value set since
pub value_emptied : (base : Rows) (laid : Laid) (q : List ℕ × List ℕ) → get laid.set q ≡ None → contains_key laid.emptied q ≡ true → get (overlaid base laid) q ≡ None
value_emptied base laid q none is =
    get_overlaid base laid q ∙ (λ i. option_or (none i) (cond (is i) None (get base q)))

-- at a place without a change
pub value_below : (base : Rows) (laid : Laid) (q : List ℕ × List ℕ) → get laid.set q ≡ None → contains_key laid.emptied q ≡ false → get (overlaid base laid) q ≡ get base q
value_below base laid q none is =
    get_overlaid base laid q ∙ (λ i. option_or (none i) (cond (is i) None (get base q)))
