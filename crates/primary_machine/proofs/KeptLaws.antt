-- What one more record does to what the machine keeps.
use Rattle.std.proofs.Common.{◌≡◌, ℕ, Bool, true, false, not, cond, ◌&&◌, ◌||◌, ◌==◌, List, [], ◌∷◌, ◌++◌, Option, Some, None, fold, refl, sym, ap, ◌∙◌, subst, inl, inr, ◌⊎◌, append-nil, append_assoc, arith}
use Rattle.std.proofs.lemmas.Bool.Decides.{nat_tests}
use Rattle.std.proofs.lemmas.Bool.{eqb-true, and_parts, and_from}
use Rattle.std.proofs.lemmas.List.Sums.{fold-append}
use Rattle.std.proofs.lemmas.List.Folds.{list_any-append}
use Rattle.std.specs.Option.{option_or}
use Rattle.std.specs.Ordering.{nat_cmp, eq_by_cmp}
use Rattle.std.specs.Cmp.{nat_cmp_total, nat_eq_equiv, unsigned_tied}
use Rattle.std.specs.FinSet as set
use Rattle.std.specs.FinMap as map
use Rattle.rdf_types.specs.declared.records.RecKey.{RecKey}
use Rattle.rdf_types.specs.declared.records.Record.{Record}
use Rattle.rdf_types.specs.declared.records.Record.TheVariants.{Image, Commit, Abort}
use Rattle.rdf_types.specs.Places.{place_cmp, place_cmp_total, same_place, same_place-is}
use Rattle.rdf_model.specs.Contents.{nothing, place}
use Rattle.rdf_model.specs.Trail.{raw, is_change, txn_of, is_ended, is_open, has_image, first_of, first_before, before_of, owner}
use Rattle.rdf_model.specs.Legal.{CanFollow, LegalAfter, Legal}
use Rattle.rdf_model.specs.Lines.{after_commit}
use Rattle.rdf_model.specs.Running.{is_used, IsRunning}
use Rattle.rdf_model.specs.SearchLaws.{first_of-append, first_of-fewer, first_of-alone, first_before-fewer, is_ended-more, raw-more, or_none, first_txn}
use Rattle.rdf_model.specs.Holding.{by_one, by_running, by_others, IsHeld, OneHolder}
use Rattle.rdf_model.specs.LegalLaws.{legal_more}
use Rattle.primary_machine.specs.declared.places.Last.{Last}
use Rattle.rdf_core.specs.declared.events.Standing.{Standing}
use Rattle.rdf_core.specs.declared.events.Standing.TheVariants.{Up}
use Rattle.rdf_core.specs.Effects.{first}
use Rattle.rdf_core.specs.Primary.{Primary, needs_up, needs_active}
use Rattle.rdf_core.specs.Proper.{IsProperAt, IsProper}
use Rattle.primary_machine.specs.Kept.{Lasts, value_of, by_of, value_in, txn_in, last_txn, AreLast, AreKept, IsFit, if_active}
use Rattle.active_txns.specs.Founds.{Founds}
use Rattle.primary_machine.proofs.FoundLaws.{found_blank}
use Rattle.primary_machine.proofs.Refusals.{idle_parts}

-- one more record of a transaction
used_more : (t u : ℕ) (trail : List Record) (r : Record) (numbers : set.FinSet nat_cmp) → txn_of r ≡ t → set.contains numbers u ≡ is_used u trail → set.contains (set.insert numbers t) u ≡ is_used u (trail ++ r ∷ [])
used_more t u trail r numbers e h =
    set.contains-insert nat_cmp_total numbers t u
    ∙ turned (eq_by_cmp nat_cmp u t) (t == u) (set.contains numbers u) (unsigned_tied u t ∙ nat_eq_equiv.symm u t)
    ∙ ap (λ b. b || ((t == u) || false)) h
    ∙ ap (λ n. is_used u trail || ((n == u) || false)) (sym e)
    ∙ sym (list_any-append (λ x. txn_of x == u) trail (r ∷ []))
  where
    turned : (a b c : Bool) → a ≡ b → (a || c) ≡ (c || (b || false))
    turned true true true e = refl
    turned true true false e = refl
    turned false false true e = refl
    turned false false false e = refl
    turned true false c e = cc
    turned false true c e = cc

last_more : (trail : List Record) (r : Record) (q : RecKey) → last_txn (trail ++ r ∷ []) q ≡ cond (is_change (λ t. true) q r) (Some (txn_of r)) (last_txn trail q)
last_more trail r q = fold-append (λ last x. cond (is_change (λ t. true) q x) (Some (txn_of x)) last) None trail (r ∷ [])

-- an image is the last one of its place
pub last_image : (trail : List Record) (lasts : Lasts) (t : ℕ) (k : RecKey) (before after : Option (List ℕ)) → AreLast trail lasts →
    AreLast (trail ++ Image t k.vol k.file k.key before after ∷ []) (map.insert lasts k (record { value = after; txn = t }))
last_image trail lasts t k before after h = record {
  values = λ q. ap value_of (map.get-insert place_cmp_total lasts k last q) ∙ moved q (same_place q k) ∙ ap (λ v. cond (same_place q k) after v) (h.values q) ∙ sym (ap (λ f. f q) (raw-more nothing trail r));
  txns = λ q. ap by_of (map.get-insert place_cmp_total lasts k last q) ∙ taken q (same_place q k) ∙ ap (λ v. cond (same_place q k) (Some t) v) (h.txns q) ∙ sym (last_more trail r q);
}
  where
    last : Last
    last = record { value = after; txn = t }

    r : Record
    r = Image t k.vol k.file k.key before after

    moved : (q : RecKey) (b : Bool) → value_of (cond b (Some last) (map.get lasts q)) ≡ cond b after (value_in lasts q)
    moved q true = refl
    moved q false = refl

    taken : (q : RecKey) (b : Bool) → by_of (cond b (Some last) (map.get lasts q)) ≡ cond b (Some t) (txn_in lasts q)
    taken q true = refl
    taken q false = refl

pub kept_image : (trail : List Record) (lasts : Lasts) (numbers : set.FinSet nat_cmp) (t : ℕ) (k : RecKey) (before after : Option (List ℕ)) → AreKept trail lasts numbers →
    AreKept (trail ++ Image t k.vol k.file k.key before after ∷ []) (map.insert lasts k (record { value = after; txn = t })) (set.insert numbers t)
kept_image trail lasts numbers t k before after h =
    let last = last_image trail lasts t k before after (record { values = h.values; txns = h.txns }) in
    record { values = last.values; txns = last.txns; used = λ u. used_more t u trail (Image t k.vol k.file k.key before after) numbers refl (h.used u) }

-- an outcome of a transaction that has a record
pub kept_outcome : (trail : List Record) (lasts : Lasts) (numbers : set.FinSet nat_cmp) (r : Record) → ((q : RecKey) → is_change (λ t. true) q r ≡ false) → raw nothing (trail ++ r ∷ []) ≡ raw nothing trail →
    is_used (txn_of r) trail ≡ true → AreKept trail lasts numbers → AreKept (trail ++ r ∷ []) lasts numbers
kept_outcome trail lasts numbers r quiet same had h = record {
  values = λ q. h.values q ∙ sym (ap (λ f. f q) same);
  txns = λ q. h.txns q ∙ sym (last_more trail r q ∙ ap (λ b. cond b (Some (txn_of r)) (last_txn trail q)) (quiet q));
  used = λ u. h.used u ∙ again u (txn_of r == u) refl ∙ sym (list_any-append (λ x. txn_of x == u) trail (r ∷ []));
}
  where
    or_true : (b : Bool) → b ≡ true → b ≡ (b || (true || false))
    or_true true e = refl
    or_true false e = cc

    or_false : (b : Bool) → b ≡ (b || (false || false))
    or_false true = refl
    or_false false = refl

    again : (u : ℕ) (b : Bool) → (txn_of r == u) ≡ b → is_used u trail ≡ (is_used u trail || (b || false))
    again u true e = or_true (is_used u trail) (subst (λ n. is_used n trail ≡ true) (eqb-true (txn_of r) u e) had)
    again u false e = or_false (is_used u trail)

-- in a legal trail the owner of a place is the transaction of its last image, where that has no outcome

abbrev if_running : List Record → Option ℕ → Option ℕ
if_running trail None = None
if_running trail (Some t) = cond (not (is_ended t trail)) (Some t) None

abbrev Owned : List Record → Type 0
Owned trail = (q : RecKey) → owner trail q ≡ if_running trail (last_txn trail q)

who_same : (trail : List Record) (r : Record) → ((u : ℕ) → is_ended u (trail ++ r ∷ []) ≡ is_ended u trail) → ◌≡◌ {A = ℕ → Bool} (λ u. not (is_ended u (trail ++ r ∷ []))) (λ u. not (is_ended u trail))
who_same trail r h = λ i u. not (h u i)

or_one : (t : ℕ) (o : Option ℕ) → (o ≡ None) ⊎ (o ≡ Some t) → option_or o (Some t) ≡ Some t
or_one t o (inl e) = ap (λ x. option_or x (Some t)) e
or_one t o (inr e) = ap (λ x. option_or x (Some t)) e

image_not : (u t v : ℕ) (f k : List ℕ) (b a : Option (List ℕ)) (trail : List Record) → is_ended u (trail ++ Image t v f k b a ∷ []) ≡ is_ended u trail
image_not u t v f k b a trail = is_ended-more u trail (Image t v f k b a) ∙ none (is_ended u trail)
  where
    none : (x : Bool) → (x || (false || false)) ≡ x
    none true = refl
    none false = refl

if_running_same : (trail new : List Record) (o : Option ℕ) → ((u : ℕ) → is_ended u new ≡ is_ended u trail) → if_running new o ≡ if_running trail o
if_running_same trail new None h = refl
if_running_same trail new (Some t) h = ap (λ b. cond (not b) (Some t) None) (h t)

owned_image : (trail : List Record) (t v : ℕ) (f k : List ℕ) (b a : Option (List ℕ)) → CanFollow nothing trail (Image t v f k b a) → Owned trail → Owned (trail ++ Image t v f k b a ∷ [])
owned_image trail t v f k b a can h q =
    ap (λ w. first_of txn_of w q (trail ++ r ∷ [])) (who_same trail r ends)
    ∙ first_of-append txn_of (λ u. not (is_ended u trail)) q trail (r ∷ [])
    ∙ at_place (same_place q (place v f k)) refl
    ∙ ap (if_running (trail ++ r ∷ [])) (sym (last_more trail r q))
  where
    r : Record
    r = Image t v f k b a

    ends : (u : ℕ) → is_ended u (trail ++ r ∷ []) ≡ is_ended u trail
    ends u = image_not u t v f k b a trail

    at_place : (s : Bool) → same_place q (place v f k) ≡ s →
        option_or (owner trail q) (cond (not (is_ended t trail) && s) (Some t) None) ≡ if_running (trail ++ r ∷ []) (cond s (Some t) (last_txn trail q))
    at_place true e =
        ap (λ m. option_or (owner trail q) (cond (not m && true) (Some t) None)) can.running
        ∙ ap (λ o. option_or o (Some t)) (first_of-alone txn_of (λ u. not (is_ended u trail)) t q (ap not can.running) trail (subst (λ p. first_before (λ u. not (is_ended u trail) && not (u == t)) p trail ≡ None) (sym (same_place-is q (place v f k) e)) can.locked))
        ∙ or_one t (first_of txn_of (by_one t) q trail) (first_txn t q trail)
        ∙ sym (ap (λ m. cond (not m) (Some t) None) (ends t ∙ can.running))
    at_place false e =
        ap (option_or (owner trail q)) (never (not (is_ended t trail))) ∙ or_none (owner trail q) ∙ h q ∙ sym (if_running_same trail (trail ++ r ∷ []) (last_txn trail q) ends)
      where
        never : (m : Bool) → cond (m && false) (Some t) None ≡ None
        never true = refl
        never false = refl

owned_outcome : OneHolder → (trail : List Record) (t : ℕ) (r : Record) → ((u : ℕ) → is_ended u (trail ++ r ∷ []) ≡ (is_ended u trail || (t == u))) → ((who : ℕ → Bool) (q : RecKey) → first_of txn_of who q (trail ++ r ∷ []) ≡ first_of txn_of who q trail) →
    ((q : RecKey) → last_txn (trail ++ r ∷ []) q ≡ last_txn trail q) → Legal nothing trail → Owned trail → Owned (trail ++ r ∷ [])
owned_outcome one trail t r ends same last legal h q =
    same who q ∙ by_state (one nothing trail q legal) ∙ ap (if_running (trail ++ r ∷ [])) (sym (last q))
  where
    who : ℕ → Bool
    who u = not (is_ended u (trail ++ r ∷ []))

    fewer : (u : ℕ) → who u ≡ true → by_running trail u ≡ true
    fewer u e = less (is_ended u trail) (t == u) (sym (ap not (ends u)) ∙ e)
      where
        less : (a b : Bool) → not (a || b) ≡ true → not a ≡ true
        less false b e = refl
        less true b e = cc

    ended_now : (o : Option ℕ) → if_running trail o ≡ None → if_running (trail ++ r ∷ []) o ≡ None
    ended_now None e = refl
    ended_now (Some u) e = ap (λ b. cond (not b) (Some u) None) (ends u ∙ still (is_ended u trail) e)
      where
        still : (b : Bool) → cond (not b) (Some u) None ≡ None → (b || (t == u)) ≡ true
        still true f = refl
        still false f = cc

    last_is : (u : ℕ) (o : Option ℕ) → if_running trail o ≡ Some u → o ≡ Some u
    last_is u None e = cc
    last_is u (Some w) e = alike (is_ended w trail) e
      where
        alike : (b : Bool) → cond (not b) (Some w) None ≡ Some u → Some w ≡ Some u
        alike false f = f
        alike true f = cc

    gone : (u : ℕ) → (t == u) ≡ true → IsHeld nothing trail q u → owner trail q ≡ Some u → first_of txn_of who q trail ≡ if_running (trail ++ r ∷ []) (last_txn trail q)
    gone u e held owned =
        first_of-fewer before_of txn_of (by_others trail u) who q
        (λ w f. and_from (not (is_ended w trail)) (not (w == u)) (fewer w f) (apart w f)) trail held.alone
        ∙ sym (ap (if_running (trail ++ r ∷ [])) (last_is u (last_txn trail q) (sym (h q) ∙ owned)) ∙ ap (λ b. cond (not b) (Some u) None) (ends u ∙ ap (λ b. is_ended u trail || b) e ∙ or_true (is_ended u trail)))
      where
        or_true : (b : Bool) → (b || true) ≡ true
        or_true true = refl
        or_true false = refl

        differs : (a b : Bool) → not (a || b) ≡ true → b ≡ false
        differs false false f = refl
        differs false true f = cc
        differs true b f = cc

        other : (w : ℕ) → (t == w) ≡ false → (t == u) ≡ true → not (w == u) ≡ true
        other w f g = grind (arith, nat_tests)

        apart : (w : ℕ) → who w ≡ true → not (w == u) ≡ true
        apart w f = other w (differs (is_ended w trail) (t == w) (sym (ap not (ends w)) ∙ f)) e

    stays : (u : ℕ) → (t == u) ≡ false → IsHeld nothing trail q u → owner trail q ≡ Some u → first_of txn_of who q trail ≡ if_running (trail ++ r ∷ []) (last_txn trail q)
    stays u e held owned =
        first_of-alone txn_of who u q (ap not runs) trail
        (first_before-fewer (by_others trail u) (λ w. who w && not (w == u)) q (λ w f. let p = and_parts (who w) (not (w == u)) f in and_from (not (is_ended w trail)) (not (w == u)) (fewer w p.0) p.1) trail held.alone)
        ∙ sym (first_of-alone txn_of (by_running trail) u q (ap not held.running) trail held.alone)
        ∙ owned
        ∙ sym (ap (if_running (trail ++ r ∷ [])) (last_is u (last_txn trail q) (sym (h q) ∙ owned)) ∙ ap (λ b. cond (not b) (Some u) None) runs)
      where
        runs : is_ended u (trail ++ r ∷ []) ≡ false
        runs = ends u ∙ ap (λ b. b || (t == u)) held.running ∙ e

    by_state : ((owner trail q ≡ None) × (first_before (by_running trail) q trail ≡ None)) ⊎ ((u : ℕ) × (owner trail q ≡ Some u) × IsHeld nothing trail q u) →
        first_of txn_of who q trail ≡ if_running (trail ++ r ∷ []) (last_txn trail q)
    by_state (inl s) = first_of-fewer before_of txn_of (by_running trail) who q fewer trail s.1 ∙ sym (ended_now (last_txn trail q) (sym (h q) ∙ s.0))
    by_state (inr s) = elim (t == s.0) as (λ m. (t == s.0) ≡ m → first_of txn_of who q trail ≡ if_running (trail ++ r ∷ []) (last_txn trail q)) [
      | true ↦ λ e. gone s.0 e s.2 s.1
      | false ↦ λ e. stays s.0 e s.2 s.1
    ] refl

owned_more : OneHolder → (trail : List Record) (r : Record) → CanFollow nothing trail r → Legal nothing trail → Owned trail → Owned (trail ++ r ∷ [])
owned_more one trail (Image t v f k b a) can legal h = owned_image trail t v f k b a can h
owned_more one trail (Commit t) can legal h = owned_outcome one trail t (Commit t) (λ u. is_ended-more u trail (Commit t) ∙ ap (λ b. is_ended u trail || b) (or_no (t == u)))
    (λ who q. first_of-append txn_of who q trail (Commit t ∷ []) ∙ or_none (first_of txn_of who q trail)) (λ q. last_more trail (Commit t) q) legal h
  where
    or_no : (b : Bool) → (b || false) ≡ b
    or_no true = refl
    or_no false = refl
owned_more one trail (Abort t) can legal h = owned_outcome one trail t (Abort t) (λ u. is_ended-more u trail (Abort t) ∙ ap (λ b. is_ended u trail || b) (or_no (t == u)))
    (λ who q. first_of-append txn_of who q trail (Abort t ∷ []) ∙ or_none (first_of txn_of who q trail)) (λ q. last_more trail (Abort t) q) legal h
  where
    or_no : (b : Bool) → (b || false) ≡ b
    or_no true = refl
    or_no false = refl

owned_rest : OneHolder → (trail rest : List Record) → Legal nothing trail → LegalAfter nothing trail rest → Owned trail → Owned (trail ++ rest)
owned_rest one trail [] legal l h = subst Owned (sym (append-nil trail)) h
owned_rest one trail (r ∷ rest) legal l h =
    subst Owned (append_assoc trail (r ∷ []) rest)
    (owned_rest one (trail ++ r ∷ []) rest (legal_more nothing [] trail r legal l.0) l.1 (owned_more one trail r l.0 legal h))

pub owned_last : OneHolder → (trail : List Record) → Legal nothing trail → Owned trail
owned_last one trail legal = owned_rest one [] trail tt legal (λ q. refl)

-- of a running primary the active transactions are those without outcome among those with an image

last_from : (o : Option ℕ) (trail : List Record) (q : RecKey) (t : ℕ) → fold (λ last r. cond (is_change (λ t. true) q r) (Some (txn_of r)) last) o trail ≡ Some t → (o ≡ Some t) ⊎ (has_image t trail ≡ true)
last_from o [] q t e = inl e
last_from o (Commit u ∷ rest) q t e = last_from o rest q t e
last_from o (Abort u ∷ rest) q t e = last_from o rest q t e
last_from o (Image u v f k b a ∷ rest) q t e = elim (last_from (cond (same_place q (place v f k)) (Some u) o) rest q t e) [
  | inl g ↦ here (same_place q (place v f k)) g
  | inr g ↦ inr (later (u == t) (has_image t rest) g)
]
  where
    later : (x y : Bool) → y ≡ true → (x || y) ≡ true
    later true y g = refl
    later false y g = g

    is_it : (a b : ℕ) → Some a ≡ Some b → (a == b) ≡ true
    is_it a b g = let h : a ≡ b = cc in grind (arith, nat_tests)

    first_is : (x y : Bool) → x ≡ true → (x || y) ≡ true
    first_is true y g = refl
    first_is false y g = cc

    here : (s : Bool) → cond s (Some u) o ≡ Some t → (o ≡ Some t) ⊎ (has_image t (Image u v f k b a ∷ rest) ≡ true)
    here true g = inr (first_is (u == t) (has_image t rest) (is_it u t g))
    here false g = inl g

has_last : (trail : List Record) (q : RecKey) (t : ℕ) → last_txn trail q ≡ Some t → has_image t trail ≡ true
has_last trail q t e = elim (last_from None trail q t e) [ inl g ↦ absurd (never t g) | inr g ↦ g ]
  where
    never : (t : ℕ) → (let x : Option ℕ = None in x) ≡ Some t → ⊥
    never t g = cc

runs_or_ended : (trail : List Record) (active : set.FinSet nat_cmp) (t : ℕ) → IsRunning trail active → has_image t trail ≡ true → not (is_ended t trail) ≡ set.contains active t
runs_or_ended trail active t s had = at_active (set.contains active t) (is_ended t trail) refl refl
  where
    at_active : (b m : Bool) → set.contains active t ≡ b → is_ended t trail ≡ m → not m ≡ b
    at_active true false e f = refl
    at_active true true e f = let g : is_ended t trail ≡ false = s.unended t e in cc
    at_active false true e f = refl
    at_active false false e f = let g : set.contains active t ≡ true = s.opened t (ap (λ x. x && not (is_ended t trail)) had ∙ ap not f) in cc

-- the owner of a place is the transaction of its last image, where that is active
pub owner_active : OneHolder → (trail : List Record) (active : set.FinSet nat_cmp) (q : RecKey) → IsRunning trail active → owner trail q ≡ if_active active (last_txn trail q)
owner_active one trail active q s = owned_last one trail s.legal q ∙ by_last (last_txn trail q) refl
  where
    by_last : (o : Option ℕ) → last_txn trail q ≡ o → if_running trail o ≡ if_active active o
    by_last None e = refl
    by_last (Some t) e = ap (λ b. cond b (Some t) None) (runs_or_ended trail active t s (has_last trail q t e))

pub used_is : (t : ℕ) (trail : List Record) → is_used t trail ≡ (has_image t trail || is_ended t trail)
used_is t [] = refl
used_is t (Image u v f k b a ∷ rest) = ap (λ x. (u == t) || x) (used_is t rest) ∙ joined (u == t) (has_image t rest) (is_ended t rest)
  where
    joined : (x y z : Bool) → (x || (y || z)) ≡ ((x || y) || z)
    joined true y z = refl
    joined false y z = refl
used_is t (Commit u ∷ rest) = ap (λ x. (u == t) || x) (used_is t rest) ∙ crossed (u == t) (has_image t rest) (is_ended t rest)
  where
    crossed : (x y z : Bool) → (x || (y || z)) ≡ (y || (x || z))
    crossed true true z = refl
    crossed true false z = refl
    crossed false true z = refl
    crossed false false z = refl
used_is t (Abort u ∷ rest) = ap (λ x. (u == t) || x) (used_is t rest) ∙ crossed (u == t) (has_image t rest) (is_ended t rest)
  where
    crossed : (x y z : Bool) → (x || (y || z)) ≡ (y || (x || z))
    crossed true true z = refl
    crossed true false z = refl
    crossed false true z = refl
    crossed false false z = refl

-- an active transaction is open where it has a record
pub open_used : (trail : List Record) (active : set.FinSet nat_cmp) (t : ℕ) → IsRunning trail active → set.contains active t ≡ true → is_open t trail ≡ is_used t trail
open_used trail active t s e = ap (λ m. has_image t trail && not m) (s.unended t e) ∙ trimmed (has_image t trail) ∙ sym (used_is t trail ∙ ap (λ m. has_image t trail || m) (s.unended t e))
  where
    trimmed : (x : Bool) → (x && true) ≡ (x || false)
    trimmed true = refl
    trimmed false = refl

-- the owner, by what is kept
pub owner_kept : OneHolder → (trail : List Record) (active : set.FinSet nat_cmp) (standing : Standing) (lasts : Lasts) (numbers : set.FinSet nat_cmp) (founds : Founds) (q : RecKey) (o : Option ℕ) →
    IsFit trail active standing lasts numbers founds → standing ≡ Up → o ≡ txn_in lasts q → owner trail q ≡ if_active active o
owner_kept one trail active standing lasts numbers founds q o fit up e =
    owner_active one trail active q (subst (λ (s : Standing). IsProperAt s trail active) up fit.proper) ∙ ap (if_active active) (sym (fit.kept.txns q) ∙ sym e)

-- the start
blank_fit : IsFit [] set.empty Up map.empty set.empty map.empty
blank_fit = record {
  kept = record {
    values = λ q. ap value_of (map.get-empty place_cmp q);
    txns = λ q. ap by_of (map.get-empty place_cmp q);
    used = λ t. set.contains-empty nat_cmp t;
  };
  found = found_blank;
  proper = record { legal = tt; opened = λ t h. cc; unended = λ t h. refl };
}

pub fit_by : (trail : List Record) (active : set.FinSet nat_cmp) (lasts : Lasts) (numbers : set.FinSet nat_cmp) (founds : Founds) → trail ≡ [] → active ≡ set.empty → lasts ≡ map.empty → numbers ≡ set.empty → founds ≡ map.empty →
    IsFit trail active Up lasts numbers founds
fit_by trail active lasts numbers founds e f g h k =
    subst (λ (x : List Record). IsFit x active Up lasts numbers founds) (sym e)
    (subst (λ (x : set.FinSet nat_cmp). IsFit [] x Up lasts numbers founds) (sym f)
    (subst (λ (x : Lasts). IsFit [] set.empty Up x numbers founds) (sym g)
    (subst (λ (x : set.FinSet nat_cmp). IsFit [] set.empty Up map.empty x founds) (sym h)
    (subst (λ (x : Founds). IsFit [] set.empty Up map.empty set.empty x) (sym k) blank_fit))))

pub kept_by : (t s : List Record) (l m : Lasts) (n o : set.FinSet nat_cmp) → t ≡ s → l ≡ m → n ≡ o → AreKept s m o → AreKept t l n
kept_by t s l m n o e f g h =
    subst (λ (x : List Record). AreKept x l n) (sym e) (subst (λ (x : Lasts). AreKept s x n) (sym f) (subst (λ (x : set.FinSet nat_cmp). AreKept s m x) (sym g) h))

-- a commit of a transaction that has a record
pub kept_commit : (trail : List Record) (lasts : Lasts) (numbers : set.FinSet nat_cmp) (t : ℕ) → is_open t trail ≡ set.contains numbers t → AreKept trail lasts numbers → AreKept (after_commit trail t) lasts numbers
kept_commit trail lasts numbers t e h = at_test (set.contains numbers t) e refl
  where
    at_test : (b : Bool) → is_open t trail ≡ b → set.contains numbers t ≡ b → AreKept (after_commit trail t) lasts numbers
    at_test true f g =
        subst (λ m. AreKept (cond m (trail ++ Commit t ∷ []) trail) lasts numbers) (sym f)
        (kept_outcome trail lasts numbers (Commit t) (λ q. refl) (raw-more nothing trail (Commit t)) (sym (h.used t) ∙ g) h)
    at_test false f g = subst (λ m. AreKept (cond m (trail ++ Commit t ∷ []) trail) lasts numbers) (sym f) h

-- an active transaction of a primary that is up is open where it has a record
pub open_kept : (trail : List Record) (active : set.FinSet nat_cmp) (standing : Standing) (lasts : Lasts) (numbers : set.FinSet nat_cmp) (founds : Founds) (t : ℕ) →
    IsFit trail active standing lasts numbers founds → standing ≡ Up → set.contains active t ≡ true → is_open t trail ≡ set.contains numbers t
open_kept trail active standing lasts numbers founds t fit up e =
    open_used trail active t (subst (λ (s : Standing). IsProperAt s trail active) up fit.proper) e ∙ sym (fit.kept.used t)

-- an active transaction that may end, of a primary that shows this
pub open_told : (trail : List Record) (active : set.FinSet nat_cmp) (standing : Standing) (stops : ℕ) (lasts : Lasts) (numbers : set.FinSet nat_cmp) (founds : Founds) (now : Primary) (t : ℕ) →
    record { trail = trail; active = active; standing = standing; stops = stops } ≡ now → None ≡ first (needs_up now ∷ needs_active now t ∷ []) → IsFit trail active standing lasts numbers founds → is_open t trail ≡ set.contains numbers t
open_told trail active standing stops lasts numbers founds now t shows idle fit =
    let parts = idle_parts now.standing (set.contains now.active t) idle in
    open_kept trail active standing lasts numbers founds t fit (ap (λ (p : Primary). p.standing) shows ∙ parts.0) (ap (λ (p : Primary). set.contains p.active t) shows ∙ parts.1)

-- and stays proper with the trail that its line leaves
pub ended_proper : (after : List Record → List Record) (trail new : List Record) (active later : set.FinSet nat_cmp) (standing : Standing) (stops : ℕ) (now : Primary) (t : ℕ) →
    record { trail = trail; active = active; standing = standing; stops = stops } ≡ now → (IsProper now → IsProperAt now.standing (after now.trail) (set.remove now.active t)) → IsProperAt standing trail active →
    new ≡ after trail → later ≡ set.remove active t → IsProperAt standing new later
ended_proper after trail new active later standing stops now t shows keeps proper new_is later_is =
    subst (λ (x : List Record). IsProperAt standing x later) (sym new_is) (subst (λ (x : set.FinSet nat_cmp). IsProperAt standing (after trail) x) (sym later_is)
    (subst (λ (p : Primary). IsProperAt p.standing (after p.trail) (set.remove p.active t)) (sym shows) (keeps (subst (λ (p : Primary). IsProper p) shows proper))))

-- the last images alone
pub kept_last : (trail : List Record) (lasts : Lasts) (numbers : set.FinSet nat_cmp) → AreKept trail lasts numbers → AreLast trail lasts
kept_last trail lasts numbers h = record { values = h.values; txns = h.txns }
