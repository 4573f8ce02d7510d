-- A backout, and how it is taken back.
use Rattle.std.proofs.Common.{◌≡◌, ◌≤◌, ℕ, ◌+◌, Bool, true, false, cond, List, [], ◌∷◌, ◌++◌, take, length, Option, Some, None, is_some, Result, Ok, Err, OnOk, OnErr, refl, sym, ap, ◌∙◌, subst, arith, append-nil, append_assoc, length-append}
use Rattle.std.specs.FinMap as map
use Rattle.rdf_types.specs.declared.records.RecKey.{RecKey}
use Rattle.rdf_types.specs.declared.records.Record.{Record}
use Rattle.rdf_types.specs.declared.records.Record.TheVariants.{Image}
use Rattle.rdf_types.specs.Places.{place_cmp_total, place_cmp_exact, same_place, same_place-is, same_place-itself}
use Rattle.rdf_model.specs.Contents.{nothing}
use Rattle.rdf_model.specs.Trail.{raw}
use Rattle.rdf_model.specs.Lines.{after_change}
use Rattle.primary_machine.specs.declared.places.Last.{Last}
use Rattle.primary_machine.specs.Kept.{Lasts, AreLast, value_in}
use Rattle.primary_machine.specs.Backouts.{set_again, all_again, IsOnWay}

-- the last of the log is set back first
pub again_last : (lasts : Lasts) (log : List (RecKey × Option Last)) (k : RecKey) (last : Option Last) → all_again lasts (log ++ (k, last) ∷ []) ≡ all_again (set_again lasts k last) log
again_last lasts [] k last = refl
again_last lasts (e ∷ log) k last = ap (λ m. set_again m e.0 e.1) (again_last lasts log k last)

-- what a place has is set again
pub set_same : (lasts : Lasts) (k : RecKey) → set_again lasts k (map.get lasts k) ≡ lasts
set_same lasts k = by (map.get lasts k) refl
  where
    by : (o : Option Last) → map.get lasts k ≡ o → set_again lasts k o ≡ lasts
    by None e = map.same_map place_cmp_total place_cmp_exact _ _ (λ q. map.get-remove place_cmp_total lasts k q ∙ at q (same_place q k) refl)
      where
        at : (q : RecKey) (m : Bool) → same_place q k ≡ m → cond m None (map.get lasts q) ≡ map.get lasts q
        at q true s = sym (ap (map.get lasts) (same_place-is q k s) ∙ e)
        at q false s = refl
    by (Some last) e =
        ap (λ b. cond b (map.insert lasts k last) lasts) (ap (λ o. is_some o) e)
        ∙ map.same_map place_cmp_total place_cmp_exact _ _ (λ q. map.get-insert place_cmp_total lasts k last q ∙ at q (same_place q k) refl)
      where
        at : (q : RecKey) (m : Bool) → same_place q k ≡ m → cond m (Some last) (map.get lasts q) ≡ map.get lasts q
        at q true s = sym (ap (map.get lasts) (same_place-is q k s) ∙ e)
        at q false s = refl

-- what a place had is set again after an image of it
pub set_back : (lasts : Lasts) (k : RecKey) (new : Last) → set_again (map.insert lasts k new) k (map.get lasts k) ≡ lasts
set_back lasts k new = by (map.get lasts k) refl
  where
    itself : map.get (map.insert lasts k new) k ≡ Some new
    itself = map.get-insert place_cmp_total lasts k new k ∙ ap (λ b. cond b (Some new) (map.get lasts k)) (same_place-itself k)

    by : (o : Option Last) → map.get lasts k ≡ o → set_again (map.insert lasts k new) k o ≡ lasts
    by None e = map.same_map place_cmp_total place_cmp_exact _ _ (λ q. map.get-remove place_cmp_total (map.insert lasts k new) k q ∙ ap (λ o. cond (same_place q k) None o) (map.get-insert place_cmp_total lasts k new q) ∙ at q (same_place q k) refl)
      where
        at : (q : RecKey) (m : Bool) → same_place q k ≡ m → cond m None (cond m (Some new) (map.get lasts q)) ≡ map.get lasts q
        at q true s = sym (ap (map.get lasts) (same_place-is q k s) ∙ e)
        at q false s = refl
    by (Some last) e =
        ap (λ b. cond b (map.insert (map.insert lasts k new) k last) (map.insert lasts k new)) (ap (λ o. is_some o) itself)
        ∙ map.same_map place_cmp_total place_cmp_exact _ _ (λ q. map.get-insert place_cmp_total (map.insert lasts k new) k last q ∙ ap (λ o. cond (same_place q k) (Some last) o) (map.get-insert place_cmp_total lasts k new q) ∙ at q (same_place q k) refl)
      where
        at : (q : RecKey) (m : Bool) → same_place q k ≡ m → cond m (Some last) (cond m (Some new) (map.get lasts q)) ≡ map.get lasts q
        at q true s = sym (ap (map.get lasts) (same_place-is q k s) ∙ e)
        at q false s = refl

-- a first part of a longer trail
pub first_part : (old more : List Record) → take (length old) (old ++ more) ≡ old
first_part [] [] = refl
first_part [] (r ∷ more) = refl
first_part (r ∷ old) more = ap (λ (l : List Record). r ∷ l) (first_part old more)

-- one image further, or not
pub way_on : {E : Type 0} (r : Result Unit E) (old : List Record) (before : Lasts) (trail new : List Record) (lasts lasts' : Lasts) (log log' : List (RecKey × Option Last)) (t : ℕ) (k : RecKey) (after : Option (List ℕ)) →
    OnOk r (value_in lasts k ≡ raw nothing trail k → new ≡ after_change trail t k after) → OnErr r (new ≡ trail) → (AreLast trail lasts → AreLast new lasts') →
    set_again lasts' k (map.get lasts k) ≡ lasts → log' ≡ log ++ (k, map.get lasts k) ∷ [] → IsOnWay old before trail lasts log → IsOnWay old before new lasts' log'
way_on (Ok u) old before trail new lasts lasts' log log' t k after ok err last again noted w = record {
  last = last w.last;
  more = w.more ++ Image t k.vol k.file k.key (raw nothing trail k) after ∷ [];
  longer = ok (w.last.values k) ∙ ap (λ (l : List Record). l ++ Image t k.vol k.file k.key (raw nothing trail k) after ∷ []) w.longer ∙ append_assoc old w.more (Image t k.vol k.file k.key (raw nothing trail k) after ∷ []);
  again = ap (all_again lasts') noted ∙ again_last lasts' log k (map.get lasts k) ∙ ap (λ m. all_again m log) again ∙ w.again;
}
way_on (Err e) old before trail new lasts lasts' log log' t k after ok err last again noted w = record {
  last = last w.last;
  more = w.more;
  longer = err ∙ w.longer;
  again = ap (all_again lasts') noted ∙ again_last lasts' log k (map.get lasts k) ∙ ap (λ m. all_again m log) again ∙ w.again;
}

-- before the first of them
pub begin_way : (trail : List Record) (lasts : Lasts) (log : List (RecKey × Option Last)) → log ≡ [] → AreLast trail lasts → IsOnWay trail lasts trail lasts log
begin_way trail lasts log e h = record { last = h; more = []; longer = sym (append-nil trail); again = ap (all_again lasts) e }

-- all of it is taken back
pub taken_back : {E : Type 0} (r : Result Unit E) (old trail new : List Record) (before lasts lasts' : Lasts) (log : List (RecKey × Option Last)) (n : ℕ) → n ≡ length old → new ≡ take n trail → lasts' ≡ all_again lasts log → IsOnWay old before trail lasts log →
    OnErr r ((new ≡ old) × (lasts' ≡ before))
taken_back (Ok u) old trail new before lasts lasts' log n len cut again w = tt
taken_back (Err e) old trail new before lasts lasts' log n len cut again w = (cut ∙ ap (take n) w.longer ∙ ap (λ m. take m (old ++ w.more)) len ∙ first_part old w.more, again ∙ w.again)

-- the trail on the way is no shorter
pub way_longer : (old : List Record) (before : Lasts) (trail : List Record) (lasts : Lasts) (log : List (RecKey × Option Last)) → IsOnWay old before trail lasts log → length old ≤ length trail
way_longer old before trail lasts log w = subst (λ n. length old ≤ n) (sym (ap length w.longer ∙ length-append old w.more)) (more_is (length old) (length w.more))
  where
    more_is : (a b : ℕ) → a ≤ a + b
    more_is a b = omega arith
