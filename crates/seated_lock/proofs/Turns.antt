-- The steps of a turn keep the rule.
use Rattle.std.proofs.Common.{◌≡◌, ℕ, suc, ◌+◌, ◌%◌, ◌<◌, ◌≤◌, ◌≢◌, List, [], ◌∷◌, set, Bool, true, false, sym, refl, ap, ◌∙◌, subst, inl, inr, max, arith}
use Rattle.std.specs.Prelude.{Option, Some, slice_index}
use mathlib.Core.Option.{some, none, some-injective, some-ne-none}
use mathlib.Core.Option as maybe
use mathlib.Core.Logic.{dite}
use native.Mathlib.Decide.{ℕ_discrete}
use base.Stored.{Gv}
use lib.ListN.{get_elem?}
use Rattle.atomic_table.specs.Table.{State, Me, step, keeps, takes, gives, Act, Valid, stepped, carried_after, Allows}
use Rattle.atomic_table.proofs.Lists.{one_turn}
use Rattle.rdf_types.specs.declared.records.Stamped.{Stamped}
use Rattle.seated_lock.specs.declared.story.Story.{Story}
use Rattle.seated_lock.specs.declared.rule.Stage.{Stage}
use Rattle.seated_lock.specs.declared.rule.Stage.TheVariants.{Idle, Waiting, Holding}
use Rattle.seated_lock.specs.declared.rule.View.{View}
use Rattle.rdf_types.specs.Entries.{Rises}
use Rattle.seated_lock.specs.Stories.{Begins, Grows}
use Rattle.seated_lock.specs.Rules.{seats_of, writes_of, tickets_of, has_ticket, one, StandsFor, Slot, IsKept}
use Rattle.seated_lock.specs.Steps.{sees, waits, holds, rests, drew, learned, raised, passed, looked}
use Rattle.seated_lock.proofs.Tallies.{set_at, tally_has, tally_two, tally_le}
use Rattle.rdf_types.specs.EntryLaws.{rises_le, rises_append}
use Rattle.seated_lock.specs.StoryLaws.{begins_itself, begins_on}
use Rattle.seated_lock.proofs.Keeps.{knows_placed, knows_later, knows_all, slot_stays, revised, stays}

not_two : (b : Bool) → one b ≤ 0 → b ≡ false
not_two true h = absurd (omega arith)
not_two false h = refl

module _ {V : Type 0} (code : V → Gv) (stands : V → Story → V → Type 0) (reach : V → ℕ) (first : V) (seats : ℕ) where
  abbrev St : Type 0
  St = State (Option V) View

  abbrev M : Type 0
  M = Me (Option V) View

  abbrev Kept : St → Type 0
  Kept = IsKept code stands reach first seats

  -- what a step owes at one state: the word i becomes n
  abbrev Goes : St → ℕ → ℕ → M → (M → Type 0) → ℕ → Type 0
  Goes s i id me told n = (w : View) × (a : Act (Option V)) × Valid s.homes me.1 a × Kept (stepped s i n id me.1 w a) × told (w, carried_after me.1 a)

  -- a view's queue number lies in the queue, which is shorter than the ring of tickets
  short : (s : St) (r : Kept s) → r.drawn < r.served + 18446744073709551616
  short s r = let le = tally_le tickets_of seats_of s.views (λ i v e. (r.each i v e).queues) in let q = r.queue in let a = r.all_seats in let f = r.few in omega arith

  idle-holds : Idle ≡ Holding → ⊥
  idle-holds e = subst (λ (y : Stage). elim y as (λ _. Type 0) [ Idle ↦ Unit {0} | Waiting ↦ Unit {0} | Holding ↦ ⊥ ]) e tt

  waiting-holds : (z : Stage) → z ≡ Waiting → z ≡ Holding → ⊥
  waiting-holds z a b = subst (λ (y : Stage). elim y as (λ _. Type 0) [ Idle ↦ ⊥ | Waiting ↦ Unit {0} | Holding ↦ ⊥ ]) (sym a ∙ b) tt

  pub draws : (n id : ℕ) (me : M) → me.0.stage ≡ Idle → 0 < me.0.seats → Allows Kept n id me 1 (λ z. (z + 1) % 18446744073709551616) (drew (step n 1 1 0 none) me)
  draws n id me idle some_seat s r wide at _ =
      let v : View = me.0 in let w : View = waits v r.drawn in let k = r.each id v at in
      let none_yet : has_ticket v.stage ≡ 0 = ap has_ticket idle in
      let order : r.served ≤ r.drawn = (let q = r.queue in omega arith) in (
        w,
        keeps,
        tt,
        revised code stands reach first seats s r id v w r.story (suc r.drawn) r.served _ s.homes at
            (ap (λ (ws : List ℕ). set ws 1 ((slice_index ws 1 + 1) % 18446744073709551616)) r.words
            ∙ ap (λ (x : ℕ). r.story.number ∷ x ∷ r.served % 18446744073709551616 ∷ []) (omega arith))
            r.rises refl refl (omega arith)
            (knows_placed (code first) r.story r.drawn r.served (suc r.drawn) r.served s.homes s.homes v w.turns Waiting r.drawn k some_seat (λ _. (order, omega arith)) (λ h. absurd (waiting-holds Waiting refl h)))
            (λ j u other uj ku. knows_later (code first) r.story r.drawn r.served (suc r.drawn) r.served s.homes s.homes u ku (λ _ a b. (a, omega arith)) (λ _ _ h. (refl, h)))
            (λ _ j u other uj tu same. let t = (r.each j u uj).ticket tu in let t1 = t.1 in let e : r.drawn ≡ u.ticket = same in omega arith)
            (slot_stays code stands reach first seats r.story s.homes s.views id v w at (λ h. absurd (idle-holds (sym idle ∙ h))) r.slot),
        (r.drawn, ap (λ (ws : List ℕ). slice_index ws 1) r.words, refl),
      )

  pub learns : (n id : ℕ) (me : M) → 0 < me.0.seats → Allows Kept n id me 0 (λ z. z) (learned (step n 0 0 0 none) me)
  learns n id me some_seat s r wide at _ =
      let v : View = me.0 in let w : View = sees v r.story in let k = r.each id v at in (
        w,
        keeps,
        tt,
        revised code stands reach first seats s r id v w r.story r.drawn r.served _ s.homes at
            (ap (λ (ws : List ℕ). set ws 0 (slice_index ws 0)) r.words)
            r.rises refl refl (omega arith)
            (knows_all (code first) r.story r.story r.drawn r.served s.homes v k (begins_itself r.story))
            (λ j u other uj ku. ku)
            (λ tw j u other uj tu same. other (sym (r.apart id j v u at uj tw tu same)))
            (slot_stays code stands reach first seats r.story s.homes s.views id v w at (λ h. h) r.slot),
        (r.story, refl, ap (λ (ws : List ℕ). slice_index ws 0) r.words, (let a = tally_has seats_of s.views id v at in let b = r.all_seats in let f = r.few in omega arith), k.clash, k.seen some_seat, k.beside some_seat, λ h. sym (k.whole h)),
      )

  -- the slot is at home where the own ticket is served, and the seat takes it
  taken : (s : St) (r : Kept s) (n id : ℕ) (me : M) → me.0.stage ≡ Waiting → me.1 ≡ [] → 0 < me.0.seats → get_elem? s.views id ≡ some me.0 → r.served ≡ me.0.ticket
      → slice_index s.words 2 ≡ me.0.ticket % 18446744073709551616 → Slot stands reach first r.story s.homes s.views
      → Goes s 2 id me (looked code stands reach (step n 2 0 0 none) me (slice_index s.words 2)) (slice_index s.words 2)
  taken s r n id me waiting empty some_seat at mine hit (inl x) =
      let v : View = me.0 in let w : View = holds v r.story in let k = r.each id v at in let queued : has_ticket v.stage ≡ 1 = ap has_ticket waiting in
      let hs : List (maybe.Option (Option V)) = set s.homes 0 none in let gone : hs ≡ none ∷ [] = ap (λ (h : List (maybe.Option (Option V))). set h 0 none) x.1 in
      let there : get_elem? s.homes 0 ≡ some (some (Some x.0)) = ap (λ (h : List (maybe.Option (Option V))). get_elem? h 0) x.1 in
      let not_out : s.homes ≡ none ∷ [] → ⊥ = λ h. some-ne-none (Some x.0) (some-injective _ _ (sym there ∙ ap (λ (l : List (maybe.Option (Option V))). get_elem? l 0) h)) in (
        w,
        takes 0 (Some x.0),
        there,
        revised code stands reach first seats s r id v w r.story r.drawn r.served _ hs at
            (ap (λ (ws : List ℕ). set ws 2 (slice_index ws 2)) r.words)
            r.rises refl refl (let q : has_ticket v.stage ≡ 1 = queued in omega arith)
            (knows_placed (code first) r.story r.drawn r.served r.drawn r.served s.homes hs (sees v r.story) v.turns Holding v.ticket
            (knows_all (code first) r.story r.story r.drawn r.served s.homes v k (begins_itself r.story)) some_seat (λ _. k.ticket queued) (λ _. (sym mine, refl, gone)))
            (λ j u other uj ku. knows_later (code first) r.story r.drawn r.served r.drawn r.served s.homes hs u ku (λ _ a b. (a, b)) (λ _ _ h. absurd (not_out h)))
            (λ _ j u other uj tu same. other (sym (r.apart id j v u at uj queued tu same)))
            (inr (id, w, gone, set_at s.views id v w at, refl)),
        (
          (λ _. (r.story, first, x.0, (λ i. (w, (0, Some x.0) ∷ empty i)), sym (k.origin_is some_seat), k.seen some_seat, (λ h. sym (k.whole h)), x.2)),
          λ miss. absurd (miss hit),
        ),
      )
  taken s r n id me waiting empty some_seat at mine hit (inr y) =
      let v : View = me.0 in let queued : has_ticket v.stage ≡ 1 = ap has_ticket waiting in let holder = (r.each y.0 y.1 y.3).holds y.4 in
      let same : y.0 ≡ id = r.apart y.0 id y.1 v y.3 at (ap has_ticket y.4) queued (holder.0 ∙ mine) in
      absurd (waiting-holds v.stage waiting (ap (λ (u : View). u.stage) (some-injective v y.1 (sym at ∙ ap (get_elem? s.views) (sym same) ∙ y.3)) ∙ y.4))

  pub looks : (n id : ℕ) (me : M) → me.0.stage ≡ Waiting → me.1 ≡ [] → 0 < me.0.seats → Allows Kept n id me 2 (λ z. z) (looked code stands reach (step n 2 0 0 none) me)
  looks n id me waiting empty some_seat s r wide at _ =
      let v : View = me.0 in let k = r.each id v at in let found : ℕ = slice_index s.words 2 in
      let is : found ≡ r.served % 18446744073709551616 = ap (λ (ws : List ℕ). slice_index ws 2) r.words in
      let t = k.ticket (ap has_ticket waiting) in
      dite (ℕ_discrete found (v.ticket % 18446744073709551616))
      (λ hit. taken s r n id me waiting empty some_seat at
      (one_turn r.served v.ticket 18446744073709551616 t.0 (let a = t.1 in let b = short s r in omega arith) (sym is ∙ hit)) hit r.slot)
      (λ miss. (v, keeps, tt, stays code stands reach first seats s id v _ r at (ap (λ (ws : List ℕ). set ws 2 (slice_index ws 2)) r.words ∙ sym r.words), ((λ hit. absurd (miss hit)), λ _. refl)))

  -- of two seats one at most writes, so a story stays where another seat writes
  idle_story : (s : St) (r : Kept s) (id j : ℕ) (v u : View) → id ≢ j → get_elem? s.views id ≡ some v → get_elem? s.views j ≡ some u → u.writes ≡ true
      → (after : Story) → (v.writes ≡ false → after ≡ v.seen) → after ≡ v.seen
  idle_story s r id j v u other at uj wu after same = same (not_two v.writes
      (let two = tally_two writes_of s.views id j v u other at uj in let a = r.one_writes in let b : one u.writes ≡ 1 = ap one wu in omega arith))

  -- while the slot is out it stays so at any story
  slot_out : (s : St) (r : Kept s) (id : ℕ) (v w : View) → get_elem? s.views id ≡ some v → (v.stage ≡ Holding → w.stage ≡ Holding) → s.homes ≡ none ∷ []
      → (t : Story) → Slot stands reach first t s.homes (set s.views id w)
  slot_out s r id v w at still out t = elim (slot_stays code stands reach first seats r.story s.homes s.views id v w at still r.slot) as (λ _. Slot stands reach first t s.homes (set s.views id w)) [
    | inl x ↦ absurd (some-ne-none (Some x.0) (some-injective _ _ (sym (ap (λ (h : List (maybe.Option (Option V))). get_elem? h 0) x.1) ∙ ap (λ (l : List (maybe.Option (Option V))). get_elem? l 0) out)))
    | inr y ↦ inr y
  ]

  -- the story grows at the step that raises the number
  pub raises : (n id : ℕ) (me : M) (after : Story) (k : ℕ) → me.0.stage ≡ Holding → 0 < me.0.seats → Grows me.0.writes me.0.seen after → k ≡ after.number
      → Allows Kept n id me 0 (λ z. max z k) (raised after (step n 0 k 0 none) me)
  raises n id me after k holding some_seat grows number s r wide at _ =
      let v : View = me.0 in let w : View = sees v after in let kv = r.each id v at in let h = kv.holds holding in
      let queued : has_ticket v.stage ≡ 1 = ap has_ticket holding in
      let on : Begins r.story after = subst (λ (t : Story). Begins t after) h.1 grows.begins in
      let up : r.story.number ≤ after.number = rises_le r.story.number on.later after.number on.rises in
      let one_holder : (j : ℕ) (u : View) → j ≢ id → get_elem? s.views j ≡ some u → u.stage ≡ Holding → ⊥ =
      λ j u other uj hu. other (r.apart j id u v uj at (ap has_ticket hu) queued (((r.each j u uj).holds hu).0 ∙ sym h.0)) in (
        w,
        keeps,
        tt,
        revised code stands reach first seats s r id v w after r.drawn r.served _ s.homes at
            (ap (λ (ws : List ℕ). set ws 0 (max (slice_index ws 0) k)) r.words
            ∙ ap (λ (x : ℕ). x ∷ r.drawn % 18446744073709551616 ∷ r.served % 18446744073709551616 ∷ []) (let e : k ≡ after.number = number in grind (arith, e, up)))
            (subst (λ (es : List Stamped). Rises (reach first) es after.number) (sym on.entries) (rises_append (reach first) r.story.entries r.story.number on.later after.number r.rises on.rises))
            refl refl (omega arith)
            (knows_all (code first) r.story after r.drawn r.served s.homes v kv on)
            (λ j u other uj ku. record {
              seen = λ p. begins_on u.seen r.story after (ku.seen p) on;
              beside = λ p. begins_on u.beside r.story after (ku.beside p) on;
              origin_is = ku.origin_is;
              whole = λ wu. ku.whole wu ∙ sym (idle_story s r id j v u (λ e. other (sym e)) at uj wu after grows.same ∙ h.1);
              writes = ku.writes;
              clash = ku.clash;
              queues = ku.queues;
              ticket = ku.ticket;
              holds = λ hu. absurd (one_holder j u other uj hu);
            })
            (λ _ j u other uj tu same. other (sym (r.apart id j v u at uj queued tu same)))
            (slot_out s r id v w at (λ z. z) h.2 after),
        refl,
      )

  -- the slot comes home with a value that stands for the story
  pub passes : (n id : ℕ) (me : M) (x : V) → me.0.stage ≡ Holding → 0 < me.0.seats → me.1 ≡ (0, Some x) ∷ [] → StandsFor stands reach first me.0.seen x
      → Allows Kept n id me 2 (λ z. (z + 1) % 18446744073709551616) (passed (step n 2 1 0 none) me)
  passes n id me x holding some_seat slot value s r wide at _ =
      let v : View = me.0 in let w : View = rests v in let k = r.each id v at in let h = k.holds holding in let queued : has_ticket v.stage ≡ 1 = ap has_ticket holding in
      let hs : List (maybe.Option (Option V)) = set s.homes 0 (some (Some x)) in let home : hs ≡ some (Some x) ∷ [] = ap (λ (l : List (maybe.Option (Option V))). set l 0 (some (Some x))) h.2 in
      let apart_now : (j : ℕ) (u : View) → j ≢ id → get_elem? s.views j ≡ some u → has_ticket u.stage ≡ 1 → u.ticket ≢ r.served =
      λ j u other uj tu same. other (r.apart j id u v uj at tu queued (same ∙ sym h.0)) in
      subst (λ (c : List (ℕ × Option V)). Goes s 2 id (v, c) (passed (step n 2 1 0 none) (v, c) (slice_index s.words 2)) ((slice_index s.words 2 + 1) % 18446744073709551616)) (sym slot) (
        w,
        gives,
        tt,
        revised code stands reach first seats s r id v w r.story r.drawn (suc r.served) _ hs at
            (ap (λ (ws : List ℕ). set ws 2 ((slice_index ws 2 + 1) % 18446744073709551616)) r.words
            ∙ ap (λ (y : ℕ). r.story.number ∷ r.drawn % 18446744073709551616 ∷ y ∷ []) (omega arith))
            r.rises refl refl (omega arith)
            (knows_placed (code first) r.story r.drawn r.served r.drawn (suc r.served) s.homes hs v v.turns Idle v.ticket k (omega arith) (λ e. absurd (omega arith)) (λ e. absurd (idle-holds e)))
            (λ j u other uj ku. knows_later (code first) r.story r.drawn r.served r.drawn (suc r.served) s.homes hs u ku
            (λ tu a b. let ne = apart_now j u other uj tu in (omega arith, b))
            (λ hu same out. absurd (apart_now j u other uj (ap has_ticket hu) same)))
            (λ e. absurd (omega arith))
            (inl (x, home, subst (λ (t : Story). StandsFor stands reach first t x) h.1 value)),
        refl,
      )
