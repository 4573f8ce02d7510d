-- The open transactions, by what is kept of what transactions found.
use Rattle.std.proofs.Common.{◌≡◌, ℕ, Result, Ok, Err, IfOk, Vec, Global, Bool, true, false, not, cond, ◌&&◌, ◌||◌, ◌==◌, T, List, [], ◌∷◌, ◌++◌, length, fold, filter, filter_map, Option, Some, None, is_some, refl, sym, ap, ◌∙◌, subst, arith, append-nil}
use Rattle.std.proofs.lemmas.Bool.{eqb-true, and_parts, and_from, or_left, or_right, eq-eqb, not-true}
use Rattle.std.proofs.lemmas.Bool.Decides.{nat_tests}
use Rattle.std.proofs.lemmas.List.Folds.{list_any-append}
use Rattle.std.proofs.lemmas.List.Elements.{filter_map-append}
use Rattle.std.proofs.lemmas.Map.Lookups.{exact_unsigned, btree_set_from_contains}
use Rattle.std.specs.BTreeSet.{insert_key}
use Rattle.std.specs.declared.cmp.Ordering.{Ordering}
use Rattle.std.specs.declared.cmp.Ordering.TheVariants.{Less, Equal, Greater}
use Rattle.std.specs.Ordering.{nat_cmp, match_ordering, eq_by_cmp, ordering_reverse}
use Rattle.std.specs.Cmp.{nat_cmp_total, unsigned_tied}
use Rattle.std.specs.List.{AllByRecursion, list_any, cons_option}
use Rattle.std.specs.List.Sorted.{IsStrictlySortedBy}
use Rattle.std.specs.FinMap as map
use Rattle.std.specs.FinMap.Entries.{below_all}
use Rattle.std.specs.FinSet as set
use Rattle.rdf_types.specs.declared.records.RecKey.{RecKey}
use Rattle.rdf_types.specs.declared.records.Record.{Record}
use Rattle.rdf_types.specs.declared.records.Record.TheVariants.{Image, Commit, Abort}
use Rattle.rdf_types.specs.Places.{place_cmp, place_cmp_total, place_cmp_exact, same_place, same_place-itself}
use Rattle.rdf_model.specs.Contents.{place, nothing}
use Rattle.rdf_model.specs.Trail.{is_image_of, has_image, is_ended, is_open, first_before, open_in, image_txn}
use Rattle.rdf_model.specs.Losers.{losers}
use Rattle.rdf_model.specs.Lines.{put_back, after_abort, found_of, found_by, after_restart}
use Rattle.rdf_model.specs.Running.{IsRunning}
use Rattle.rdf_model.specs.LoserLaws.{losers_open, contains-open_in}
use Rattle.rdf_types.specs.declared.layout.Layout.{Layout}
use Rattle.rdf_types.specs.declared.records.Node.TheVariants.{A}
use Rattle.plan_lang.specs.declared.lines.Line.TheVariants as line
use Rattle.rdf_core.specs.declared.events.Standing.{Standing}
use Rattle.rdf_core.specs.declared.events.Standing.TheVariants.{Up, Down, Lost}
use Rattle.rdf_core.specs.declared.replies.NoWhy.{NoWhy}
use Rattle.rdf_core.specs.declared.replies.NoWhy.TheVariants as no
use Rattle.rdf_core.specs.declared.replies.Reply.{Reply}
use Rattle.rdf_core.specs.declared.replies.Reply.TheVariants.{Number}
use Rattle.rdf_core.specs.Effects.{IsDone, when, first as first_refusal}
use Rattle.rdf_core.specs.Primary.{Primary, is_lost, is_up, primary_refusal, primary_after, primary_says}
use Rattle.rdf_core.specs.Proper.{IsProperAt, legal_of}
use Rattle.active_txns.specs.Founds.{FirstBefore, Founds, found_or_none, found_at, finder, finders}
use Rattle.primary_machine.specs.Kept.{AreFound}
use Rattle.primary_machine.specs.Backouts.{backed_out, AreOpen}
use Rattle.rdf_model.specs.EndLaws.{AreOf, Ends, ended_more, abort_ends, turned}
use Rattle.primary_machine.proofs.FoundLaws.{found_list}
use Rattle.primary_machine.proofs.TxnSets.{len_keys}
use Rattle.rdf_model.specs.Legal.{Legal}
use Rattle.std.proofs.Math.Facts.{and_yes}
use Rattle.active_txns.specs.KeyLaws.{less_is}

-- numbers that rise

below_inserted : (k : ℕ) (y : ℕ) (xs : List ℕ) → nat_cmp y k ≡ Less → AllByRecursion (λ z. nat_cmp y z ≡ Less) xs → AllByRecursion (λ z. nat_cmp y z ≡ Less) (insert_key nat_cmp xs k)
below_inserted k y [] e h = (e, tt)
below_inserted k y (x ∷ xs) e h = by (nat_cmp k x) (below_inserted k y xs e h.1)
  where
    by : (o : Ordering) → AllByRecursion (λ z. nat_cmp y z ≡ Less) (insert_key nat_cmp xs k) → AllByRecursion (λ z. nat_cmp y z ≡ Less) (match_ordering o (k ∷ x ∷ xs) (x ∷ xs) (x ∷ insert_key nat_cmp xs k))
    by Less rest = (e, h)
    by Equal rest = h
    by Greater rest = (h.0, rest)

all_below : (k x : ℕ) (xs : List ℕ) → nat_cmp k x ≡ Less → AllByRecursion (λ z. nat_cmp x z ≡ Less) xs → AllByRecursion (λ z. nat_cmp k z ≡ Less) xs
all_below k x [] e h = tt
all_below k x (y ∷ xs) e h = (nat_cmp_total.trans k x y e h.0, all_below k x xs e h.1)

sorted_insert : (k : ℕ) (xs : List ℕ) → IsStrictlySortedBy nat_cmp xs → IsStrictlySortedBy nat_cmp (insert_key nat_cmp xs k)
unfolding IsStrictlySortedBy
sorted_insert k [] h = (tt, tt)
sorted_insert k (x ∷ xs) h = by (nat_cmp k x) refl (sorted_insert k xs h.1)
  where
    by : (o : Ordering) → nat_cmp k x ≡ o → IsStrictlySortedBy nat_cmp (insert_key nat_cmp xs k) → IsStrictlySortedBy nat_cmp (match_ordering o (k ∷ x ∷ xs) (x ∷ xs) (x ∷ insert_key nat_cmp xs k))
    by Less e rest = ((e, all_below k x xs e h.0), h)
    by Equal e rest = h
    by Greater e rest = (below_inserted k x xs (nat_cmp_total.antisymm x k ∙ ap ordering_reverse e) h.0, rest)

sorted_fold : (ks xs : List ℕ) → IsStrictlySortedBy nat_cmp ks → IsStrictlySortedBy nat_cmp (fold (insert_key nat_cmp) ks xs)
sorted_fold ks [] h = h
sorted_fold ks (x ∷ xs) h = sorted_fold (insert_key nat_cmp ks x) xs (sorted_insert x ks h)

pub losers_rise : (trail : List Record) → IsStrictlySortedBy nat_cmp (losers trail)
unfolding IsStrictlySortedBy
losers_rise trail = sorted_fold [] (filter (λ t. not (is_ended t trail)) (filter_map image_txn trail)) tt

has_same : (q : ℕ) (xs : List ℕ) → list_any (eq_by_cmp nat_cmp q) xs ≡ list_any (λ u. q == u) xs
has_same q xs = λ i. list_any (λ u. unsigned_tied q u i) xs

same_rising : (xs ys : List ℕ) → IsStrictlySortedBy nat_cmp xs → IsStrictlySortedBy nat_cmp ys → ((q : ℕ) → list_any (λ u. q == u) xs ≡ list_any (λ u. q == u) ys) → xs ≡ ys
same_rising xs ys h g same =
    btree_set_from_contains nat_cmp_total (record { keys = xs }) (record { keys = ys }) h g (λ q. has_same q xs ∙ same q ∙ sym (has_same q ys)) exact_unsigned

-- the transactions that found something

found_any : Option FirstBefore → Bool
found_any None = false
found_any (Some f) = not (map.len f == 0)

finder_is : (e : ℕ × FirstBefore) → finder e ≡ cond (found_any (Some e.1)) (Some e.0) None
unfolding found_any
finder_is e = elim (map.len e.1 == 0) as (λ m. cond m None (Some e.0) ≡ cond (not m) (Some e.0) None) [ true ↦ refl | false ↦ refl ]

finders_below : (k : ℕ) (es : List (ℕ × FirstBefore)) → T (below_all nat_cmp k es) → AllByRecursion (λ z. nat_cmp k z ≡ Less) (finders es)
finders_below k [] h = tt
finders_below k (e ∷ es) h = by (map.len e.1 == 0) (finders_below k es (and_yes _ _ h).1)
  where
    by : (m : Bool) → AllByRecursion (λ z. nat_cmp k z ≡ Less) (finders es) → AllByRecursion (λ z. nat_cmp k z ≡ Less) (cons_option (cond m None (Some e.0)) (finders es))
    by true rest = rest
    by false rest = (less_is (nat_cmp k e.0) (and_yes _ _ h).0, rest)

finders_rise : (es : List (ℕ × FirstBefore)) → T (map.is_sorted nat_cmp es) → IsStrictlySortedBy nat_cmp (finders es)
unfolding IsStrictlySortedBy
finders_rise [] h = tt
finders_rise (e ∷ es) h = by (map.len e.1 == 0) (finders_rise es (and_yes _ _ h).1)
  where
    by : (m : Bool) → IsStrictlySortedBy nat_cmp (finders es) → IsStrictlySortedBy nat_cmp (cons_option (cond m None (Some e.0)) (finders es))
    by true rest = rest
    by false rest = (finders_below e.0 es (and_yes _ _ h).0, rest)

not_among : (k : ℕ) (xs : List ℕ) → AllByRecursion (λ z. nat_cmp k z ≡ Less) xs → list_any (λ u. k == u) xs ≡ false
not_among k [] h = refl
not_among k (x ∷ xs) h = ap (λ m. m || list_any (λ u. k == u) xs) (apart k x h.0) ∙ not_among k xs h.1
  where
    apart : (k x : ℕ) → nat_cmp k x ≡ Less → (k == x) ≡ false
    apart k x e = grind (arith, nat_tests)

has_finder : (t : ℕ) (es : List (ℕ × FirstBefore)) → T (map.is_sorted nat_cmp es) → list_any (λ u. t == u) (finders es) ≡ found_any (map.find nat_cmp t es)
unfolding found_any
has_finder t [] h = refl
has_finder t (e ∷ es) h = by (map.len e.1 == 0) (t == e.0) refl (has_finder t es (and_yes _ _ h).1) ∙ ap (λ m. found_any (cond m (Some e.1) (map.find nat_cmp t es))) (sym (unsigned_tied t e.0))
  where
    none : (t == e.0) ≡ true → list_any (λ u. t == u) (finders es) ≡ false
    none s = ap (λ n. list_any (λ u. n == u) (finders es)) (eqb-true t e.0 s) ∙ not_among e.0 (finders es) (finders_below e.0 es (and_yes _ _ h).0)

    at : (m s : Bool) → (map.len e.1 == 0) ≡ m → (t == e.0) ≡ s → list_any (λ u. t == u) (finders es) ≡ found_any (map.find nat_cmp t es) →
        list_any (λ u. t == u) (cons_option (cond m None (Some e.0)) (finders es)) ≡ found_any (cond s (Some e.1) (map.find nat_cmp t es))
    at true true f s rest = none s ∙ sym (ap not f)
    at true false f s rest = rest
    at false true f s rest = ap (λ b. b || list_any (λ u. t == u) (finders es)) s ∙ sym (ap not f)
    at false false f s rest = ap (λ b. b || list_any (λ u. t == u) (finders es)) s ∙ rest

    by : (m s : Bool) → (t == e.0) ≡ s → list_any (λ u. t == u) (finders es) ≡ found_any (map.find nat_cmp t es) →
        list_any (λ u. t == u) (cons_option (cond (map.len e.1 == 0) None (Some e.0)) (finders es)) ≡ found_any (cond (t == e.0) (Some e.1) (map.find nat_cmp t es))
    by m s f rest = at (map.len e.1 == 0) (t == e.0) refl refl rest

-- a transaction found something just where it is open

any_at : (founds : Founds) (t : ℕ) → found_any (map.get founds t) ≡ not (map.len (found_at founds t) == 0)
unfolding found_any
any_at founds t = by (map.get founds t)
  where
    by : (o : Option FirstBefore) → found_any o ≡ not (map.len (found_or_none o) == 0)
    by None = ap (λ n. not (n == 0)) (sym (map.len-empty place_cmp (Option (List ℕ))))
    by (Some f) = refl

image_first : (t : ℕ) (trail : List Record) → has_image t trail ≡ true → (q : RecKey) × (is_some (first_before (λ w. w == t) q trail) ≡ true)
image_first t [] e = absurd (let f : false ≡ true = e in cc)
image_first t (Commit u ∷ rest) e = image_first t rest e
image_first t (Abort u ∷ rest) e = image_first t rest e
image_first t (Image u v f k b a ∷ rest) e =
    elim (u == t) as (λ m. (m || has_image t rest) ≡ true → (q : RecKey) × (is_some (cond (m && same_place q (place v f k)) (Some b) (first_before (λ w. w == t) q rest)) ≡ true)) [
      | true ↦ λ g. (place v f k, ap (λ s. is_some (cond s (Some b) (first_before (λ w. w == t) (place v f k) rest))) (same_place-itself (place v f k)))
      | false ↦ λ g. image_first t rest g
    ] e

no_image : (t : ℕ) (q : RecKey) (trail : List Record) → has_image t trail ≡ false → first_before (λ w. w == t) q trail ≡ None
no_image t q [] e = refl
no_image t q (Commit u ∷ rest) e = no_image t q rest e
no_image t q (Abort u ∷ rest) e = no_image t q rest e
no_image t q (Image u v f k b a ∷ rest) e =
    elim (u == t) as (λ m. (m || has_image t rest) ≡ false → cond (m && same_place q (place v f k)) (Some b) (first_before (λ w. w == t) q rest) ≡ None) [
      | true ↦ λ g. cc
      | false ↦ λ g. no_image t q rest g
    ] e

none_found : (f : FirstBefore) → ((q : RecKey) → map.get f q ≡ None) → not (map.len f == 0) ≡ false
none_found f h =
    ap (λ n. not (n == 0)) (ap map.len (map.same_map place_cmp_total place_cmp_exact f map.empty (λ q. h q ∙ sym (map.get-empty place_cmp q))) ∙ map.len-empty place_cmp (Option (List ℕ)))

some_found : (f : FirstBefore) (q : RecKey) → is_some (map.get f q) ≡ true → not (map.len f == 0) ≡ true
some_found f q e = elim (map.len f == 0) as (λ m. (map.len f == 0) ≡ m → not m ≡ true) [
  | true ↦ λ z.
      let none : map.get f q ≡ None = ap (λ (g : FirstBefore). map.get g q) (map.empty_of_len f (eqb-true (map.len f) 0 z)) ∙ map.get-empty place_cmp q in
      let bad : false ≡ true = sym (ap (λ o. is_some o) none) ∙ e in
      cc
  | false ↦ λ z. refl
] refl

pub open_found : (trail : List Record) (founds : Founds) (t : ℕ) → AreFound trail founds → not (map.len (found_at founds t) == 0) ≡ is_open t trail
open_found trail founds t h = by (has_image t trail) (is_ended t trail) refl refl
  where
    by : (m e : Bool) → has_image t trail ≡ m → is_ended t trail ≡ e → not (map.len (found_at founds t) == 0) ≡ (m && not e)
    by true false f g =
        let p = image_first t trail f in
        some_found (found_at founds t) p.0 (ap (λ o. is_some o) (h t p.0 ∙ ap (λ x. cond x None (first_before (λ w. w == t) p.0 trail)) g) ∙ p.1)
    by true true f g = none_found (found_at founds t) (λ q. h t q ∙ ap (λ x. cond x None (first_before (λ w. w == t) q trail)) g)
    by false true f g = none_found (found_at founds t) (λ q. h t q ∙ ap (λ x. cond x None (first_before (λ w. w == t) q trail)) g)
    by false false f g = none_found (found_at founds t) (λ q. h t q ∙ ap (λ x. cond x None (first_before (λ w. w == t) q trail)) g ∙ no_image t q trail f)

pub finders_are : (trail : List Record) (founds : Founds) → AreFound trail founds → finders (map.entries founds) ≡ losers trail
finders_are trail founds h = same_rising (finders (map.entries founds)) (losers trail) (finders_rise (map.entries founds) (map.entries_sorted founds)) (losers_rise trail) (λ t.
    has_finder t (map.entries founds) (map.entries_sorted founds) ∙ ap found_any (sym (map.get-entries founds t)) ∙ any_at founds t ∙ open_found trail founds t h
    ∙ sym (losers_open trail t ∙ contains-open_in trail t))

-- just the losers are open

all_in : (trail : List Record) (xs : List ℕ) → ((q : ℕ) → list_any (λ u. q == u) xs ≡ true → is_open q trail ≡ true) → AllByRecursion (λ t. is_open t trail ≡ true) xs
all_in trail [] h = tt
all_in trail (x ∷ xs) h = (h x (or_left (x == x) (list_any (λ u. x == u) xs) (eq-eqb x x refl)), all_in trail xs (λ q e. h q (or_right (q == x) (list_any (λ u. q == u) xs) e)))

pub losers_are_open : (trail : List Record) → AreOpen trail (losers trail)
losers_are_open trail = record {
  rising = losers_rise trail;
  opened = all_in trail (losers trail) (λ q e. sym (losers_open trail q ∙ contains-open_in trail q) ∙ e);
}

pub count_losers : (trail : List Record) → set.len (open_in trail) ≡ length (losers trail)
count_losers trail =
    ap set.len (set.same_set nat_cmp_total set.nat_cmp-IsAntisymmetric (open_in trail) (set.from_list (losers trail)) (λ q. sym (losers_open trail q) ∙ sym (has_same q (losers trail)) ∙ sym (set.contains-from_list nat_cmp_total (losers trail) q)))
    ∙ len_keys (losers trail) (losers_rise trail)

pub one_open : (trail : List Record) (t : ℕ) → is_open t trail ≡ true → AreOpen trail (t ∷ [])
unfolding IsStrictlySortedBy
one_open trail t e = record { rising = (tt, tt); opened = (e, tt) }

-- one backout after another

pub record IsWaiting (founds : Founds) (trail : List Record) (t : ℕ) : Type 0 where
  pub opened : is_open t trail ≡ true
  pub found : map.entries (found_at founds t) ≡ found_by trail t

none_of : (t u : ℕ) → (u == t) ≡ false → (more : List Record) → AreOf t more → filter_map (found_of u) more ≡ []
none_of t u e [] all = refl
none_of t u e (Commit w ∷ more) all = none_of t u e more all.1
none_of t u e (Abort w ∷ more) all = none_of t u e more all.1
none_of t u e (Image w v f k b a ∷ more) all =
    ap (λ m. cons_option (cond m (Some (place v f k, b)) None) (filter_map (found_of u) more)) (ap (λ n. n == u) all.0 ∙ turned t u e) ∙ none_of t u e more all.1

still_waits : (founds : Founds) (trail new : List Record) (t u : ℕ) → (u == t) ≡ false → Ends t trail new → IsWaiting founds trail u → IsWaiting founds new u
still_waits founds trail new t u e ends w = record {
  opened = ap (is_open u) ends.new_is ∙ and_from (has_image u (trail ++ ends.more)) (not (is_ended u (trail ++ ends.more)))
      (list_any-append (is_image_of u) trail ends.more ∙ or_left (has_image u trail) (has_image u ends.more) parts.0)
      (ap not (ended_more t trail ends.more ends.all ends.ends u ∙ ap (λ m. is_ended u trail || m) e ∙ none (is_ended u trail)) ∙ parts.1);
  found = w.found ∙ sym (ap (λ (l : List Record). found_by l u) ends.new_is ∙ ap (λ xs. map.entries (map.from_entries {R = place_cmp} xs))
      (filter_map-append (found_of u) trail ends.more ∙ ap (λ xs. filter_map (found_of u) trail ++ xs) (none_of t u e ends.more ends.all) ∙ append-nil (filter_map (found_of u) trail)));
}
  where
    parts : (has_image u trail ≡ true) × (not (is_ended u trail) ≡ true)
    parts = and_parts (has_image u trail) (not (is_ended u trail)) w.opened

    none : (b : Bool) → (b || false) ≡ b
    none true = refl
    none false = refl

all_wait : (founds : Founds) (trail new : List Record) (t : ℕ) (ts : List ℕ) → Ends t trail new → AllByRecursion (λ z. nat_cmp t z ≡ Less) ts → AllByRecursion (IsWaiting founds trail) ts → AllByRecursion (IsWaiting founds new) ts
all_wait founds trail new t [] ends above h = tt
all_wait founds trail new t (u ∷ ts) ends above h = (still_waits founds trail new t u (apart t u above.0) ends h.0, all_wait founds trail new t ts ends above.1 h.1)
  where
    apart : (t u : ℕ) → nat_cmp t u ≡ Less → (u == t) ≡ false
    apart t u e = grind (arith, nat_tests)

backed_is : (founds : Founds) (trail : List Record) (t : ℕ) → IsWaiting founds trail t → backed_out founds trail t ≡ after_abort trail t
backed_is founds trail t w =
    ap (λ es. put_back t trail es ++ Abort t ∷ []) w.found ∙ sym (ap (λ m. cond m (put_back t trail (found_by trail t) ++ Abort t ∷ []) trail) w.opened)

folded : (founds : Founds) (trail : List Record) (ts : List ℕ) → IsStrictlySortedBy nat_cmp ts → AllByRecursion (IsWaiting founds trail) ts → fold (backed_out founds) trail ts ≡ fold after_abort trail ts
unfolding IsStrictlySortedBy
folded founds trail [] h w = refl
folded founds trail (t ∷ ts) h w =
    ap (λ (l : List Record). fold (backed_out founds) l ts) (backed_is founds trail t w.0)
    ∙ folded founds (after_abort trail t) ts h.1 (all_wait founds trail (after_abort trail t) t ts (abort_ends t trail w.0.opened) h.0 w.1)

waiting : (founds : Founds) (trail : List Record) (ts : List ℕ) → AreFound trail founds → AllByRecursion (λ t. is_open t trail ≡ true) ts → AllByRecursion (IsWaiting founds trail) ts
waiting founds trail [] h o = tt
waiting founds trail (t ∷ ts) h o =
    (record { opened = o.0; found = found_list trail founds t (not-true (is_ended t trail) (and_parts (has_image t trail) (not (is_ended t trail)) o.0).1) h }, waiting founds trail ts h o.1)

pub backed_out_are : (founds : Founds) (trail : List Record) (ts : List ℕ) → AreFound trail founds → AreOpen trail ts → fold (backed_out founds) trail ts ≡ fold after_abort trail ts
backed_out_are founds trail ts h o = folded founds trail ts o.rising (waiting founds trail ts h o.opened)

pub open_on : {E : Type 0} (r : Result (Vec ℕ Global) E) (trail now : List Record) (founds : Founds) → trail ≡ now → AreFound trail founds → IfOk r (λ txns. txns.items ≡ finders (map.entries founds)) → IfOk r (λ txns. txns.items ≡ losers now)
open_on (Ok v) trail now founds e h ok = ok ∙ finders_are trail founds h ∙ ap losers e
open_on (Err x) trail now founds e h ok = tt

-- the primary after a restart

pub down_of : (standing : Standing) → None ≡ first_refusal (when (is_lost standing) no.Lost ∷ when (is_up standing) no.Up ∷ []) → standing ≡ Down
down_of Up e = cc
down_of Down e = refl
down_of Lost e = cc

pub idle_down : (standing : Standing) (trail : List Record) (active : set.FinSet nat_cmp) → IsProperAt standing trail active → standing ≡ Down → active ≡ set.empty
idle_down Up trail active p e = cc
idle_down Down trail active p e = p.1
idle_down Lost trail active p e = p.1

pub restarted_runs : ((trail : List Record) → Legal nothing trail → IsRunning (after_restart trail) set.empty) → (standing : Standing) (trail new : List Record) (active : set.FinSet nat_cmp) (ts : List ℕ) → IsProperAt standing trail active → standing ≡ Down → ts ≡ losers trail → new ≡ fold after_abort trail ts → IsRunning new active
restarted_runs runs standing trail new active ts p e f g =
    subst (λ (s : set.FinSet nat_cmp). IsRunning new s) (sym (idle_down standing trail active p e))
    (subst (λ (l : List Record). IsRunning l set.empty) (sym (g ∙ ap (fold after_abort trail) f)) (runs trail (legal_of standing trail active p)))

done_if_none : {X : Type 0} (refused : Option NoWhy) (kept : NoWhy → X) (end : X) (says : Reply → Type 0) (reply : Reply) (new : X) → None ≡ refused → says reply → new ≡ end → IsDone refused kept end says reply new
done_if_none None kept end says reply new e s n = (s, n)
done_if_none (Some why) kept end says reply new e s n = cc

pub restart_done : (layout : Layout) (a new : Primary) (n : ℕ) (ts : List ℕ) → None ≡ first_refusal (when (is_lost a.standing) no.Lost ∷ when (is_up a.standing) no.Up ∷ []) → ts ≡ losers a.trail → n ≡ length ts → new ≡ primary_after a (line.Restart A) →
    IsDone (primary_refusal layout a (line.Restart A)) (λ _. a) (primary_after a (line.Restart A)) (primary_says a (line.Restart A)) (Number n) new
restart_done layout a new n ts e f g h =
    done_if_none (primary_refusal layout a (line.Restart A)) (λ _. a) (primary_after a (line.Restart A)) (primary_says a (line.Restart A)) (Number n) new e (ap Number (g ∙ ap length f ∙ sym (count_losers a.trail))) h
