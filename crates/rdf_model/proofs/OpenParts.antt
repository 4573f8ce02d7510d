-- The open transactions, read from a part of the trail.
use Rattle.std.proofs.Common.{◌≡◌, ◌≤◌, ℕ, zero, suc, Bool, true, false, not, cond, ◌&&◌, ◌||◌, ◌==◌, List, [], ◌∷◌, ◌++◌, take, drop, filter, refl, sym, ap, ◌∙◌, subst, arith}
use Rattle.std.specs.Cmp.{nat_cmp_total}
use Rattle.std.specs.FinSet.{contains, len, contains-retain, same_set, nat_cmp-IsAntisymmetric}
use Rattle.std.proofs.lemmas.Bool.{eqb-true, or_from}
use Rattle.std.proofs.lemmas.List.{take-append-drop}
use Rattle.std.proofs.lemmas.List.Folds.{list_any-append}
use Rattle.rdf_types.specs.declared.records.Record.{Record}
use Rattle.rdf_types.specs.declared.records.Record.TheVariants.{Image, Commit, Abort}
use Rattle.rdf_model.specs.Contents.{Contents}
use Rattle.rdf_model.specs.Trail.{is_outcome_of, has_image, is_ended, is_open, open_in}
use Rattle.rdf_model.specs.Legal.{LegalAfter, Legal}
use Rattle.rdf_model.specs.Window.{is_kept_image, first_place, low, concerns, part, records, has_kept_image, open_on}
use Rattle.rdf_model.proofs.Positions.{kept_step}
use Rattle.rdf_model.proofs.Windows.{records-part, is_ended-part, running_later}
use Rattle.rdf_model.specs.LegalLaws.{legal_rest}
use Rattle.rdf_model.specs.LoserLaws.{contains-open_in}

-- the images that a part has are those on protected volumes
image_part : (protects : ℕ → Bool) (t : ℕ) (xs : List Record) → has_image t (filter (concerns protects) xs) ≡ has_kept_image protects t xs
image_part protects t [] = refl
image_part protects t (Commit u ∷ xs) = image_part protects t xs
image_part protects t (Abort u ∷ xs) = image_part protects t xs
image_part protects t (Image u v f k b a ∷ xs) =
    elim (protects v) as (λ m. has_image t (cond m (Image u v f k b a ∷ filter (concerns protects) xs) (filter (concerns protects) xs))
    ≡ ((m && (u == t)) || has_kept_image protects t xs)) [
      | true ↦ ap (λ m. (u == t) || m) (image_part protects t xs)
      | false ↦ image_part protects t xs
    ]

less_step : (p u h k : Bool) → (k ≡ true → h ≡ true) → ((p && u) || k) ≡ true → (u || h) ≡ true
less_step p u h k less e = grind arith

kept_is_image : (protects : ℕ → Bool) (t : ℕ) (xs : List Record) → has_kept_image protects t xs ≡ true → has_image t xs ≡ true
kept_is_image protects t [] e = e
kept_is_image protects t (Commit u ∷ xs) e = kept_is_image protects t xs e
kept_is_image protects t (Abort u ∷ xs) e = kept_is_image protects t xs e
kept_is_image protects t (Image u v f k b a ∷ xs) e = less_step (protects v) (u == t) (has_image t xs) (has_kept_image protects t xs) (kept_is_image protects t xs) e

no_kept : (p w u : Bool) → (u ≡ true → w ≡ true) → (p && w) ≡ false → (p && u) ≡ false
no_kept p w u less e = grind arith

not_mine : (protects who : ℕ → Bool) (t : ℕ) → who t ≡ true → (r : Record) → is_kept_image protects who r ≡ false → is_kept_image protects (λ u. u == t) r ≡ false
not_mine protects who t h (Commit u) e = refl
not_mine protects who t h (Abort u) e = refl
not_mine protects who t h (Image u v f k b a) e = no_kept (protects v) (who u) (u == t) (λ s. subst (λ n. who n ≡ true) (sym (eqb-true u t s)) h) e

-- before the first image by one of the transactions none of them has one
none_kept_before : (protects who : ℕ → Bool) (t : ℕ) → who t ≡ true → (n : ℕ) (xs : List Record) → n ≤ first_place (is_kept_image protects who) xs → has_kept_image protects t (take n xs) ≡ false
none_kept_before protects who t h zero xs e = refl
none_kept_before protects who t h (suc n) [] e = refl
none_kept_before protects who t h (suc n) (r ∷ xs) e =
    let s = kept_step (is_kept_image protects who r) n (first_place (is_kept_image protects who) xs) e in
    or_from (is_kept_image protects (λ u. u == t) r) (has_kept_image protects t (take n xs)) (not_mine protects who t h r s.0) (none_kept_before protects who t h n xs s.1)

two_parts : (kx ky ex ey : Bool) → (ky ≡ true → ex ≡ false) → ((ex || ey) ≡ false → kx ≡ false) → (ky && not ey) ≡ ((kx || ky) && not (ex || ey))
two_parts kx ky ex ey later before = grind arith

pub open_of_part : (base : Contents) (protects : ℕ → Bool) (trail : List Record) (start t : ℕ) → Legal base trail → start ≤ low protects trail →
    contains (open_in (records (part protects start trail))) t ≡ (has_kept_image protects t trail && not (is_ended t trail))
open_of_part base protects trail start t legal below =
    let xs = take start trail in
    let ys = drop start trail in
    let whole : xs ++ ys ≡ trail = take-append-drop start trail in
    let later : LegalAfter base xs ys = legal_rest base [] xs ys (subst (LegalAfter base []) (sym whole) legal) in
    let ends : (is_ended t xs || is_ended t ys) ≡ is_ended t trail = sym (list_any-append (is_outcome_of t) xs ys) ∙ ap (is_ended t) whole in
    let images : (has_kept_image protects t xs || has_kept_image protects t ys) ≡ has_kept_image protects t trail =
    sym (list_any-append (is_kept_image protects (λ u. u == t)) xs ys) ∙ ap (has_kept_image protects t) whole in
    contains-open_in (records (part protects start trail)) t
    ∙ ap (is_open t) (records-part protects start ys)
    ∙ (λ i. image_part protects t ys i && not (is_ended-part protects t ys i))
    ∙ two_parts (has_kept_image protects t xs) (has_kept_image protects t ys) (is_ended t xs) (is_ended t ys)
    (λ k. running_later base xs ys later t (kept_is_image protects t ys k))
    (λ e. none_kept_before protects (λ u. not (is_ended u trail)) t (ap not (sym ends ∙ e)) start trail below)
    ∙ (λ i. images i && not (ends i))

kept_of_open : (h k e : Bool) → (k ≡ true → h ≡ true) → ((h && not e) && k) ≡ (k && not e)
kept_of_open h k e less = grind arith

pub contains-open_on : (protects : ℕ → Bool) (trail : List Record) (t : ℕ) → contains (open_on protects trail) t ≡ (has_kept_image protects t trail && not (is_ended t trail))
contains-open_on protects trail t =
    contains-retain (open_in trail) (λ u. has_kept_image protects u trail) t (λ u e. ap (λ n. has_kept_image protects n trail) (sym (nat_cmp-IsAntisymmetric t u e)))
    ∙ ap (λ m. m && has_kept_image protects t trail) (contains-open_in trail t)
    ∙ kept_of_open (has_image t trail) (has_kept_image protects t trail) (is_ended t trail) (kept_is_image protects t trail)

pub count_of_part : (base : Contents) (protects : ℕ → Bool) (trail : List Record) (start : ℕ) → Legal base trail → start ≤ low protects trail →
    len (open_in (records (part protects start trail))) ≡ len (open_on protects trail)
count_of_part base protects trail start legal below =
    ap len (same_set nat_cmp_total nat_cmp-IsAntisymmetric (open_in (records (part protects start trail))) (open_on protects trail)
    (λ t. open_of_part base protects trail start t legal below ∙ sym (contains-open_on protects trail t)))
