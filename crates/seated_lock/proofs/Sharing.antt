-- Seats are split and joined, and a lock begins and ends.
use Rattle.std.proofs.Common.{◌≡◌, ℕ, ◌+◌, ◌-◌, ◌<◌, ◌≤◌, ◌≢◌, List, [], ◌∷◌, ◌++◌, set, Bool, true, false, cond, ◌||◌, ◌&&◌, sym, refl, ap, ◌∙◌, subst, inl, inr, ⊎_elim, le_refl, arith}
use Rattle.std.specs.Prelude.{Option, Some}
use mathlib.Core.Option.{some, none, some-injective, some-ne-none}
use mathlib.Core.Option as maybe
use base.Stored.{Gv}
use lib.ListN.{get_elem?}
use Rattle.atomic_table.specs.Table.{State, Splits, Joins, Final, Seen, opening}
use Rattle.atomic_table.proofs.Lists.{at_set, at_snoc, at_longer, set_else}
use Rattle.seated_lock.specs.declared.story.Story.{Story}
use Rattle.seated_lock.specs.declared.rule.Stage.{Stage}
use Rattle.seated_lock.specs.declared.rule.Stage.TheVariants.{Idle, Holding}
use Rattle.seated_lock.specs.declared.rule.View.{View}
use Rattle.seated_lock.specs.Stories.{Begins, untold}
use Rattle.seated_lock.specs.Rules.{seats_of, writes_of, tickets_of, has_ticket, one, maker, StandsFor, Knows, Slot, IsKept}
use Rattle.seated_lock.specs.Steps.{kept_part, given_part, joined, spent}
use Rattle.seated_lock.proofs.Tallies.{tally_set, tally_snoc, tally_two, tally_none}
use Rattle.seated_lock.specs.StoryLaws.{begins_itself}
use Rattle.seated_lock.proofs.Keeps.{near, slot_stays}

few_ones : (b : Bool) (n : ℕ) → 0 < n → one b ≤ n
few_ones true n h = omega arith
few_ones false n h = omega arith

one_or : (a b : Bool) → one a + one b ≤ 1 → one (a || b) ≡ one a + one b
one_or true true h = absurd (omega arith)
one_or true false h = refl
one_or false true h = refl
one_or false false h = refl

not_both : (a b : Bool) → one a + one b ≤ 1 → (a && b) ≡ false
not_both true true h = absurd (omega arith)
not_both true false h = refl
not_both false b h = refl

whole_or : (a b : Bool) (x y t : Story) → (a ≡ true → x ≡ t) → (b ≡ true → y ≡ t) → (a || b) ≡ true → cond b y x ≡ t
whole_or a true x y t p q e = q refl
whole_or true false x y t p q e = p refl
whole_or false false x y t p q e = absurd (omega (arith, ap one e))

either_begins : (b : Bool) (x y t : Story) → Begins x t → Begins y t → Begins (cond b x y) t
either_begins true x y t p q = p
either_begins false x y t p q = q

true_or : (b : Bool) → (b ≡ false → b ≡ true) → b ≡ true
true_or true h = refl
true_or false h = h refl

no_ticket : (z : Stage) → z ≡ Idle → has_ticket z ≡ 1 → ⊥
no_ticket z e h = let a : has_ticket z ≡ 0 = ap has_ticket e in absurd (omega arith)

not_held : (z : Stage) → z ≡ Idle → z ≡ Holding → ⊥
not_held z e h = no_ticket z e (ap has_ticket h)

module _ {V : Type 0} (code : V → Gv) (stands : V → Story → V → Type 0) (reach : V → ℕ) (first : V) (seats : ℕ) where
  abbrev St : Type 0
  St = State (Option V) View

  abbrev Kept : St → Type 0
  Kept = IsKept code stands reach first seats

  -- views other than those with a ticket come and go
  abbrev Apart : List View → Type 0
  Apart vs = (i j : ℕ) (v w : View) → get_elem? vs i ≡ some v → get_elem? vs j ≡ some w → has_ticket v.stage ≡ 1 → has_ticket w.stage ≡ 1 → v.ticket ≡ w.ticket → i ≡ j

  apart_set : (vs : List View) (id : ℕ) (w : View) → w.stage ≡ Idle → Apart vs → Apart (set vs id w)
  apart_set vs id w idle h i j u x ui xj tu tx same =
      ⊎_elim {C = i ≡ j} (λ a. absurd (no_ticket w.stage idle (ap (λ (z : View). has_ticket z.stage) a.1 ∙ tu)))
      (λ a. ⊎_elim {C = i ≡ j} (λ b. absurd (no_ticket w.stage idle (ap (λ (z : View). has_ticket z.stage) b.1 ∙ tx)))
      (λ b. h i j u x a.1 b.1 tu tx same) (at_set vs id j w x xj)) (at_set vs id i w u ui)

  apart_snoc : (vs : List View) (w : View) → w.stage ≡ Idle → Apart vs → Apart (vs ++ w ∷ [])
  apart_snoc vs w idle h i j u x ui xj tu tx same =
      ⊎_elim {C = i ≡ j} (λ a. ⊎_elim {C = i ≡ j} (λ b. h i j u x a b tu tx same)
      (λ b. absurd (no_ticket w.stage idle (ap (λ (z : View). has_ticket z.stage) b ∙ tx))) (at_snoc vs w x j xj))
      (λ a. absurd (no_ticket w.stage idle (ap (λ (z : View). has_ticket z.stage) a ∙ tu))) (at_snoc vs w u i ui)

  slot_snoc : (t : Story) (hs : List (maybe.Option (Option V))) (vs : List View) (w : View) → Slot stands reach first t hs vs → Slot stands reach first t hs (vs ++ w ∷ [])
  slot_snoc t hs vs w (inl x) = inl x
  slot_snoc t hs vs w (inr y) = inr (y.0, y.1, y.2, at_longer vs (w ∷ []) y.0 y.1 y.3, y.4)

  pub splits : (id : ℕ) (v : View) → v.stage ≡ Idle → 1 < v.seats → Splits Kept id v (kept_part v) (given_part v)
  splits id v idle more s r at =
      let l : View = kept_part v in let g : View = given_part v in let vs : List View = set s.views id l in let k = r.each id v at in
      let off : has_ticket v.stage ≡ 0 = ap has_ticket idle in record {
        story = r.story;
        drawn = r.drawn;
        served = r.served;
        words = r.words;
        few = r.few;
        rises = r.rises;
        all_seats = let a = tally_snoc seats_of vs g in let b = tally_set seats_of s.views id v l at in let c = r.all_seats in omega arith;
        one_writes = let a = tally_snoc writes_of vs g in let b = tally_set writes_of s.views id v l at in let c = r.one_writes in omega arith;
        queue = let a = tally_snoc tickets_of vs g in let b = tally_set tickets_of s.views id v l at in let c = r.queue in omega arith;
        each = λ j u is. ⊎_elim {C = Knows (code first) r.story r.drawn r.served s.homes u}
            (λ x. ⊎_elim {C = Knows (code first) r.story r.drawn r.served s.homes u}
            (λ y. subst (Knows (code first) r.story r.drawn r.served s.homes) y.1 record {
              seen = λ _. k.seen (omega arith);
              beside = λ _. k.beside (omega arith);
              origin_is = λ _. k.origin_is (omega arith);
              whole = k.whole;
              writes = few_ones v.writes (v.seats - 1) (omega arith);
              clash = k.clash;
              queues = (omega arith);
              ticket = λ h. absurd (no_ticket v.stage idle h);
              holds = λ h. absurd (not_held v.stage idle h);
            })
            (λ y. r.each j u y.1) (at_set s.views id j l u x))
            (λ x. subst (Knows (code first) r.story r.drawn r.served s.homes) x record {
              seen = λ _. k.seen (omega arith);
              beside = λ _. k.beside (omega arith);
              origin_is = λ _. k.origin_is (omega arith);
              whole = λ e. absurd (omega (arith, ap one e));
              writes = (omega arith);
              clash = k.clash;
              queues = (omega arith);
              ticket = λ h. absurd (no_ticket v.stage idle h);
              holds = λ h. absurd (not_held v.stage idle h);
            })
            (at_snoc vs g u j is);
        apart = apart_snoc vs g idle (apart_set s.views id l idle r.apart);
        slot = slot_snoc r.story s.homes vs g (slot_stays code stands reach first seats r.story s.homes s.views id v l at (λ h. h) r.slot);
      }

  pub joins : (id : ℕ) (v : View) (other : ℕ) (w : View) (g : Gv) → v.stage ≡ Idle → w.stage ≡ Idle → 0 < v.seats → 0 < w.seats → Joins Kept id v other w (joined v w) (spent g)
  joins id v other w g idle idle' some_seat some_seat' s r at ne there =
      let b : View = joined v w in let z : View = spent g in let vs : List View = set s.views id b in let us : List View = set vs other z in
      let at' : get_elem? s.views other ≡ some w = sym (set_else s.views id other b ne) ∙ there in
      let k = r.each id v at in let k' = r.each other w at' in
      let off : has_ticket v.stage ≡ 0 = ap has_ticket idle in let off' : has_ticket w.stage ≡ 0 = ap has_ticket idle' in
      let one_writer : one v.writes + one w.writes ≤ 1 = (let a = tally_two writes_of s.views id other v w (λ e. ne (sym e)) at at' in let c = r.one_writes in omega arith) in
      let t : Story = r.story in record {
        story = t;
        drawn = r.drawn;
        served = r.served;
        words = r.words;
        few = r.few;
        rises = r.rises;
        all_seats = let a = tally_set seats_of s.views id v b at in let d = tally_set seats_of vs other w z there in let c = r.all_seats in omega arith;
        one_writes = let a = tally_set writes_of s.views id v b at in let d = tally_set writes_of vs other w z there in let c = r.one_writes in let e = one_or v.writes w.writes one_writer in omega arith;
        queue = let a = tally_set tickets_of s.views id v b at in let d = tally_set tickets_of vs other w z there in let c = r.queue in omega arith;
        each = λ j u is. ⊎_elim {C = Knows (code first) t r.drawn r.served s.homes u}
            (λ x. subst (Knows (code first) t r.drawn r.served s.homes) x.1 record {
              seen = λ h. absurd (omega arith);
              beside = λ h. absurd (omega arith);
              origin_is = λ h. absurd (omega arith);
              whole = λ e. absurd (omega (arith, ap one e));
              writes = (omega arith);
              clash = refl;
              queues = (omega arith);
              ticket = λ h. absurd (omega arith);
              holds = λ h. absurd (not_held Idle refl h);
            })
            (λ x. ⊎_elim {C = Knows (code first) t r.drawn r.served s.homes u}
            (λ y. subst (Knows (code first) t r.drawn r.served s.homes) y.1 record {
              seen = λ _. either_begins w.writes w.seen v.seen t (k'.seen some_seat') (k.seen some_seat);
              beside = λ _. either_begins w.writes v.seen w.seen t (k.seen some_seat) (k'.seen some_seat');
              origin_is = λ _. k.origin_is some_seat;
              whole = whole_or v.writes w.writes v.seen w.seen t k.whole k'.whole;
              writes = few_ones (v.writes || w.writes) (v.seats + w.seats) (omega arith);
              clash = not_both v.writes w.writes one_writer;
              queues = (omega arith);
              ticket = λ h. absurd (no_ticket v.stage idle h);
              holds = λ h. absurd (not_held v.stage idle h);
            })
            (λ y. r.each j u y.1) (at_set s.views id j b u x.1))
            (at_set vs other j z u is);
        apart = apart_set vs other z refl (apart_set s.views id b idle r.apart);
        slot = slot_stays code stands reach first seats t s.homes vs other w z there (λ h. absurd (not_held w.stage idle' h)) (slot_stays code stands reach first seats t s.homes s.views id v b at (λ h. h) r.slot);
      }

  -- a pass with all seats writes, no other seat is in line, and the value is at home
  pub closes : (id : ℕ) (v : View) (ws : List ℕ) (xs : List (Option V)) → v.seats ≡ seats → 0 < v.seats → v.stage ≡ Idle → Final (Seen Kept id v) ws xs
      → (x : V) × (get_elem? xs 0 ≡ some (Some x)) × StandsFor stands reach first v.seen x
  closes id v ws xs all some_seat idle f =
      let s : St = f.0 in let r : Kept s = f.1.0 in let at : get_elem? s.views id ≡ some v = f.1.1 in
      let rest_spent : (j : ℕ) (u : View) → id ≢ j → get_elem? s.views j ≡ some u → u.seats ≡ 0 =
      λ j u ne uj. let two = tally_two seats_of s.views id j v u ne at uj in let a = r.all_seats in omega arith in
      let writes : v.writes ≡ true = true_or v.writes (λ no. let zero_all = tally_none writes_of s.views (λ j u uj.
      ⊎_elim {C = one u.writes ≡ 0} (λ (same : id ≡ j). ap (λ (z : View). one z.writes) (some-injective u v (sym uj ∙ ap (get_elem? s.views) (sym same) ∙ at)) ∙ ap one no)
      (λ (ne : id ≢ j). let q = (r.each j u uj).writes in let e = rest_spent j u ne uj in omega arith) (near id j)) in let a = r.one_writes in absurd (omega arith)) in
      let seen : v.seen ≡ r.story = (r.each id v at).whole writes in
      elim r.slot as (λ _. (x : V) × (get_elem? xs 0 ≡ some (Some x)) × StandsFor stands reach first v.seen x) [
        | inl x ↦ (x.0, f.4 0 (Some x.0) (ap (λ (h : List (maybe.Option (Option V))). get_elem? h 0) x.1), subst (λ (t : Story). StandsFor stands reach first t x.0) (sym seen) x.2)
        | inr y ↦ absurd (⊎_elim {C = ⊥} (λ (same : id ≡ y.0). not_held v.stage idle (ap (λ (u : View). u.stage) (some-injective v y.1 (sym at ∙ ap (get_elem? s.views) same ∙ y.3)) ∙ y.4))
            (λ (ne : id ≢ y.0). let q = (r.each y.0 y.1 y.3).queues in let e = rest_spent y.0 y.1 ne y.3 in let h : has_ticket y.1.stage ≡ 1 = ap has_ticket y.4 in absurd (omega arith)) (near id y.0))
      ]

  pub starts : (ws : List ℕ) (xs : List (Option V)) → ws ≡ reach first ∷ 0 ∷ 0 ∷ [] → xs ≡ Some first ∷ [] → 0 < seats → seats < 4294967296 → stands first (untold (reach first)) first
      → Kept (opening ws xs (maker (code first) (reach first) seats))
  starts ws xs words slots some_seat few value =
      let v : View = maker (code first) (reach first) seats in
      subst (λ (z : List (Option V)). Kept (opening ws z v)) (sym slots) record {
        story = untold (reach first);
        drawn = 0;
        served = 0;
        words = words;
        few = few;
        rises = le_refl (reach first);
        all_seats = omega arith;
        one_writes = refl;
        queue = refl;
        each = λ j u is. ⊎_elim {C = Knows (code first) (untold (reach first)) 0 0 (some (Some first) ∷ []) u} (λ x. absurd (some-ne-none u (sym x)))
            (λ x. subst (Knows (code first) (untold (reach first)) 0 0 (some (Some first) ∷ [])) x record {
              seen = λ _. begins_itself _;
              beside = λ _. begins_itself _;
              origin_is = λ _. refl;
              whole = λ _. refl;
              writes = some_seat;
              clash = refl;
              queues = (omega arith);
              ticket = λ h. absurd (omega arith);
              holds = λ h. absurd (not_held Idle refl h);
            })
            (at_snoc [] v u j is);
        apart = λ i j u x ui xj tu tx same. ⊎_elim {C = i ≡ j} (λ a. absurd (some-ne-none u (sym a)))
            (λ a. absurd (no_ticket v.stage refl (ap (λ (z : View). has_ticket z.stage) a ∙ tu))) (at_snoc [] v u i ui);
        slot = inl (first, refl, (value, refl));
      }
