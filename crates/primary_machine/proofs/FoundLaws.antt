-- What one more record does to what transactions found.
use Rattle.std.proofs.Common.{◌≡◌, ℕ, Bool, true, false, cond, ◌&&◌, ◌||◌, ◌==◌, List, [], ◌∷◌, ◌++◌, Option, Some, None, is_some, Result, Ok, Err, OnOk, OnErr, is_err, refl, sym, ap, ◌∙◌, subst, filter_map}
use Rattle.std.proofs.Math.Bool.{or-true, or-false}
use Rattle.std.proofs.lemmas.Bool.{eqb-true, and_parts}
use Rattle.std.specs.Option.{option_or}
use Rattle.std.specs.Ordering.{nat_cmp}
use Rattle.std.specs.Cmp.{nat_eq_equiv}
use Rattle.std.specs.FinSet as set
use Rattle.std.specs.FinMap as map
use Rattle.rdf_types.specs.declared.records.RecKey.{RecKey}
use Rattle.rdf_types.specs.declared.records.Record.{Record}
use Rattle.rdf_types.specs.declared.records.Record.TheVariants.{Image}
use Rattle.rdf_types.specs.Places.{place_cmp, place_cmp_total, place_cmp_exact, same_place, same_place-is}
use Rattle.rdf_model.specs.Contents.{nothing}
use Rattle.rdf_model.specs.Trail.{raw, is_ended, is_open, first_before, before_of}
use Rattle.rdf_model.specs.Lines.{after_change, after_commit, found_of, found_by}
use Rattle.rdf_model.specs.SearchLaws.{first_before-append, is_ended-more, or_none, found-first_before}
use Rattle.rdf_model.specs.LegalLaws.{next_follows}
use Rattle.active_txns.specs.Founds.{FirstBefore, Founds, noted, found_or_none, found_at, found_without}
use Rattle.active_txns.specs.FoundLaws.{at_insert, at_remove}
use Rattle.rdf_model.specs.EndLaws.{Ends, first_of-more, ended_more, commit_ends}
use Rattle.rdf_core.specs.declared.events.Standing.{Standing}
use Rattle.rdf_core.specs.declared.events.Standing.TheVariants.{Up, Down, Lost}
use Rattle.rdf_core.specs.Proper.{IsProperAt}
use Rattle.primary_machine.specs.Kept.{AreFound, found_in}
use Rattle.std.proofs.lemmas.List.{nil_from_length}

get_noted : (f : FirstBefore) (k q : RecKey) (b : Option (List ℕ)) → map.get (noted f k b) q ≡ option_or (map.get f q) (cond (same_place q k) (Some b) None)
get_noted f k q b = at_known (is_some (map.get f k)) refl
  where
    had : (o : Option (Option (List ℕ))) (s : Bool) (n : Option (Option (List ℕ))) → (s ≡ true → is_some o ≡ true) → o ≡ option_or o (cond s (Some b) None)
    had (Some x) s n h = refl
    had None true n h = let e : is_some (let x : Option (Option (List ℕ)) = None in x) ≡ true = h refl in cc
    had None false n h = refl

    fresh : (o : Option (Option (List ℕ))) (s : Bool) → (s ≡ true → is_some o ≡ false) → cond s (Some b) o ≡ option_or o (cond s (Some b) None)
    fresh (Some x) true h = let e = h refl in cc
    fresh (Some x) false h = refl
    fresh None true h = refl
    fresh None false h = refl

    at_known : (m : Bool) → is_some (map.get f k) ≡ m → map.get (cond m f (map.insert f k b)) q ≡ option_or (map.get f q) (cond (same_place q k) (Some b) None)
    at_known true e = had (map.get f q) (same_place q k) None (λ s. ap (λ p. is_some (map.get f p)) (same_place-is q k s) ∙ e)
    at_known false e = map.get-insert place_cmp_total f k b q ∙ fresh (map.get f q) (same_place q k) (λ s. ap (λ p. is_some (map.get f p)) (same_place-is q k s) ∙ e)

-- with an image of a running transaction
found_image : (trail : List Record) (old new : Founds) (t : ℕ) (k : RecKey) (b a : Option (List ℕ)) → is_ended t trail ≡ false → AreFound trail old →
    ((u : ℕ) (q : RecKey) → map.get (found_at new u) q ≡ option_or (map.get (found_at old u) q) (cond ((t == u) && same_place q k) (Some b) None)) →
    AreFound (trail ++ Image t k.vol k.file k.key b a ∷ []) new
found_image trail old new t k b a running h step u q =
    step u q ∙ ap (λ o. option_or o added) (h u q) ∙ by (is_ended u trail) refl
    ∙ ap (λ m. cond m None (first_before (λ w. w == u) q (trail ++ r ∷ []))) (sym ends)
  where
    r : Record
    r = Image t k.vol k.file k.key b a

    added : Option (Option (List ℕ))
    added = cond ((t == u) && same_place q k) (Some b) None

    ends : is_ended u (trail ++ r ∷ []) ≡ is_ended u trail
    ends = is_ended-more u trail r ∙ or-false (is_ended u trail)

    other : (m : Bool) → (t == u) ≡ m → is_ended u trail ≡ true → m ≡ false
    other true e f = let g : t ≡ u = eqb-true t u e in let d : is_ended t trail ≡ true = ap (λ w. is_ended w trail) g ∙ f in cc
    other false e f = refl

    by : (m : Bool) → is_ended u trail ≡ m → option_or (cond m None (first_before (λ w. w == u) q trail)) added ≡ cond m None (first_before (λ w. w == u) q (trail ++ r ∷ []))
    by true e = ap (λ s. cond (s && same_place q k) (Some b) None) (other (t == u) refl e)
    by false e = sym (first_before-append (λ w. w == u) q trail (r ∷ []))

-- of a place that it changed before
pub found_again : (trail : List Record) (founds : Founds) (t : ℕ) (k : RecKey) (b a : Option (List ℕ)) → is_ended t trail ≡ false → AreFound trail founds →
    is_some (map.get (found_at founds t) k) ≡ true → AreFound (trail ++ Image t k.vol k.file k.key b a ∷ []) founds
found_again trail founds t k b a running h known = found_image trail founds founds t k b a running h
    (λ u q. had (map.get (found_at founds u) q) ((t == u) && same_place q k) (λ e. ap (λ p. is_some (map.get (found_at founds p.0) p.1)) (both u q e) ∙ known))
  where
    had : (o : Option (Option (List ℕ))) (s : Bool) → (s ≡ true → is_some o ≡ true) → o ≡ option_or o (cond s (Some b) None)
    had (Some x) s h = refl
    had None true h = let e : is_some (let x : Option (Option (List ℕ)) = None in x) ≡ true = h refl in cc
    had None false h = refl

    both : (u : ℕ) (q : RecKey) → ((t == u) && same_place q k) ≡ true → ◌≡◌ {A = ℕ × RecKey} (u, q) (t, k)
    both u q e = let p = and_parts (t == u) (same_place q k) e in λ i. (sym (eqb-true t u p.0) i, same_place-is q k p.1 i)

-- of a place that it changes first
pub found_first : (trail : List Record) (old new : Founds) (t : ℕ) (k : RecKey) (b a : Option (List ℕ)) → is_ended t trail ≡ false → AreFound trail old →
    new ≡ map.insert old t (noted (found_at old t) k b) → AreFound (trail ++ Image t k.vol k.file k.key b a ∷ []) new
found_first trail old new t k b a running h is = found_image trail old new t k b a running h
    (λ u q. ap (λ n. map.get (found_at n u) q) is ∙ ap (λ f. map.get f q) (at_insert old t u (noted (found_at old t) k b)) ∙ by u q (t == u) refl)
  where
    by : (u : ℕ) (q : RecKey) (m : Bool) → (t == u) ≡ m → map.get (cond m (noted (found_at old t) k b) (found_at old u)) q ≡ option_or (map.get (found_at old u) q) (cond (m && same_place q k) (Some b) None)
    by u q true e = get_noted (found_at old t) k q b ∙ ap (λ w. option_or (map.get (found_at old w) q) (cond (same_place q k) (Some b) None)) (eqb-true t u e)
    by u q false e = sym (or_none (map.get (found_at old u) q))

-- a note that is forgotten
pub found_forgotten : (trail : List Record) (old now new : Founds) (t : ℕ) (k : RecKey) (b : Option (List ℕ)) → AreFound trail old → is_some (map.get (found_at old t) k) ≡ false →
    now ≡ map.insert old t (noted (found_at old t) k b) → ((u : ℕ) (q : RecKey) → map.get (found_at new u) q ≡ map.get (found_without now t k u) q) → AreFound trail new
found_forgotten trail old now new t k b h unknown is forgotten u q =
    forgotten u q ∙ at_txn (u == t) refl ∙ h u q
  where
    f : FirstBefore
    f = noted (found_at old t) k b

    there : found_at now u ≡ cond (t == u) f (found_at old u)
    there = ap (λ n. found_at n u) is ∙ at_insert old t u f

    none_is : (o : Option (Option (List ℕ))) → is_some o ≡ false → None ≡ o
    none_is None e = refl
    none_is (Some x) e = cc

    mine : (m : Bool) → same_place q k ≡ m → cond m None (option_or (map.get (found_at old t) q) (cond m (Some b) None)) ≡ map.get (found_at old t) q
    mine true e = none_is (map.get (found_at old t) q) (ap (λ p. is_some (map.get (found_at old t) p)) (same_place-is q k e) ∙ unknown)
    mine false e = or_none (map.get (found_at old t) q)

    at_txn : (m : Bool) → (u == t) ≡ m → map.get (cond m (map.remove (found_at now u) k) (found_at now u)) q ≡ map.get (found_at old u) q
    at_txn true e =
        map.get-remove place_cmp_total (found_at now u) k q
        ∙ ap (λ o. cond (same_place q k) None o) (ap (λ g. map.get g q) (there ∙ ap (λ s. cond s f (found_at old u)) (nat_eq_equiv.symm t u ∙ e)) ∙ get_noted (found_at old t) k q b)
        ∙ mine (same_place q k) refl ∙ ap (λ w. map.get (found_at old w) q) (sym (eqb-true u t e))
    at_txn false e = ap (λ g. map.get g q) (there ∙ ap (λ s. cond s f (found_at old u)) (nat_eq_equiv.symm t u ∙ e))

-- a transaction that ends
found_ended : (trail new : List Record) (founds : Founds) (t : ℕ) → Ends t trail new → AreFound trail founds → AreFound new (map.remove founds t)
found_ended trail new founds t e h u q =
    subst (λ (l : List Record). map.get (found_at (map.remove founds t) u) q ≡ found_in l u q) (sym e.new_is)
    (ap (λ f. map.get f q) (at_remove founds t u) ∙ by (t == u) refl)
  where
    ends : is_ended u (trail ++ e.more) ≡ (is_ended u trail || (u == t))
    ends = ended_more t trail e.more e.all e.ends u

    by : (m : Bool) → (t == u) ≡ m → map.get (cond m map.empty (found_at founds u)) q ≡ found_in (trail ++ e.more) u q
    by true d =
        map.get-empty place_cmp q
        ∙ ap (λ x. cond x None (first_before (λ w. w == u) q (trail ++ e.more))) (sym (ends ∙ ap (λ x. is_ended u trail || x) (nat_eq_equiv.symm u t ∙ d) ∙ or-true (is_ended u trail)))
    by false d =
        h u q
        ∙ ap (λ x. cond x None (first_before (λ w. w == u) q trail)) (sym (ends ∙ ap (λ x. is_ended u trail || x) (nat_eq_equiv.symm u t ∙ d) ∙ or-false (is_ended u trail)))
        ∙ ap (λ o. cond (is_ended u (trail ++ e.more)) None o) (sym (first_of-more before_of (λ w. w == u) q t trail e.more d e.all))

pub found_commit : (trail : List Record) (founds : Founds) (t : ℕ) → is_open t trail ≡ true → AreFound trail founds → AreFound (after_commit trail t) (map.remove founds t)
found_commit trail founds t open_ h = found_ended trail (after_commit trail t) founds t (commit_ends t trail open_) h

-- what an open transaction found, as a list
pub found_list : (trail : List Record) (founds : Founds) (t : ℕ) → is_ended t trail ≡ false → AreFound trail founds → map.entries (found_at founds t) ≡ found_by trail t
found_list trail founds t running h =
    ap map.entries (map.same_map place_cmp_total place_cmp_exact _ _
    (λ q. h t q ∙ ap (λ m. cond m None (first_before (λ u. u == t) q trail)) running
    ∙ sym (map.get-from_entries place_cmp_total (filter_map (found_of t) trail) q ∙ found-first_before t q trail)))

-- nothing was found in an empty trail
pub found_blank : AreFound [] map.empty
found_blank t q = ap (λ (o : Option FirstBefore). map.get (found_or_none o) q) (map.get-empty nat_cmp t) ∙ map.get-empty place_cmp q

pub by_parts : (trail new : List Record) (founds later : Founds) → new ≡ trail → later ≡ founds → AreFound trail founds → AreFound new later
by_parts trail new founds later e f h = λ u q. ap (λ n. map.get (found_at n u) q) f ∙ h u q ∙ ap (λ (l : List Record). found_in l u q) (sym e)

-- a change, by what it answers
pub known_on : {E : Type 0} (r : Result Unit E) (trail new : List Record) (founds : Founds) (t : ℕ) (k : RecKey) (a : Option (List ℕ)) → OnOk r (new ≡ after_change trail t k a) → OnErr r (new ≡ trail) →
    is_ended t trail ≡ false → AreFound trail founds → is_some (map.get (found_at founds t) k) ≡ true → AreFound new founds
known_on (Ok x) trail new founds t k a ok err running h known = by_parts _ new founds founds ok refl (found_again trail founds t k (raw nothing trail k) a running h known)
known_on (Err x) trail new founds t k a ok err running h known = by_parts trail new founds founds err refl h

pub first_on : {E : Type 0} (r : Result Unit E) (trail new : List Record) (founds later : Founds) (t : ℕ) (k : RecKey) (b a : Option (List ℕ)) → OnOk r (new ≡ after_change trail t k a) → false ≡ is_err r →
    is_ended t trail ≡ false → AreFound trail founds → b ≡ raw nothing trail k → later ≡ map.insert founds t (noted (found_at founds t) k b) → AreFound new later
first_on (Ok x) trail new founds later t k b a ok fine running h reads is =
    by_parts _ new later later ok refl (subst (λ v. AreFound (trail ++ Image t k.vol k.file k.key v a ∷ []) later) reads (found_first trail founds later t k b a running h is))
first_on (Err x) trail new founds later t k b a ok fine running h reads is = cc

pub first_off : {E : Type 0} (r : Result Unit E) (trail new : List Record) (founds now later : Founds) (t : ℕ) (k : RecKey) (b : Option (List ℕ)) → OnErr r (new ≡ trail) → true ≡ is_err r →
    AreFound trail founds → is_some (map.get (found_at founds t) k) ≡ false → now ≡ map.insert founds t (noted (found_at founds t) k b) →
    ((u : ℕ) (q : RecKey) → map.get (found_at later u) q ≡ map.get (found_without now t k u) q) → AreFound new later
first_off (Ok x) trail new founds now later t k b err bad h unknown is forgotten = cc
first_off (Err x) trail new founds now later t k b err bad h unknown is forgotten = by_parts trail new later later err refl (found_forgotten trail founds now later t k b h unknown is forgotten)

-- a transaction that may change a record has no outcome
pub running_of : (standing : Standing) (trail : List Record) (active : set.FinSet nat_cmp) (t : ℕ) (k : RecKey) (a : Option (List ℕ)) → IsProperAt standing (after_change trail t k a) active → is_ended t trail ≡ false
running_of Up trail active t k a p = (next_follows nothing trail (Image t k.vol k.file k.key (raw nothing trail k) a) p.legal).1.running
running_of Down trail active t k a p = (next_follows nothing trail (Image t k.vol k.file k.key (raw nothing trail k) a) p.0).1.running
running_of Lost trail active t k a p = (next_follows nothing trail (Image t k.vol k.file k.key (raw nothing trail k) a) p.0).1.running

pub none_listed : (founds : Founds) (t : ℕ) → None ≡ map.get founds t → map.entries (found_at founds t) ≡ []
none_listed founds t none =
    ap (λ o. map.entries (found_or_none o)) (sym none)
    ∙ nil_from_length (map.entries (found_or_none None)) (sym (map.len-entries (found_or_none None)) ∙ map.len-empty place_cmp (Option (List ℕ)))
