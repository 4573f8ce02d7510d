-- What a step has to show so that the rule stays.
use Rattle.std.proofs.Common.{◌≡◌, ℕ, ◌+◌, ◌%◌, ◌<◌, ◌≤◌, ◌≢◌, ◌⊎◌, List, [], ◌∷◌, set, refl, sym, ap, ◌∙◌, subst, inl, inr, ⊎_elim, arith}
use Rattle.std.specs.Prelude.{Option}
use mathlib.Core.Option.{some, none, some-injective, some-ne-none}
use mathlib.Core.Option as maybe
use mathlib.Core.Logic.{dite}
use native.Mathlib.Decide.{ℕ_discrete}
use base.Stored.{Gv}
use lib.ListN.{get_elem?}
use Rattle.atomic_table.specs.Table.{State}
use Rattle.atomic_table.proofs.Lists.{at_set, set_else, set_again}
use Rattle.seated_lock.specs.declared.story.Story.{Story}
use Rattle.seated_lock.specs.declared.rule.Stage.{Stage}
use Rattle.seated_lock.specs.declared.rule.Stage.TheVariants.{Holding}
use Rattle.seated_lock.specs.declared.rule.View.{View}
use Rattle.rdf_types.specs.Entries.{Rises}
use Rattle.seated_lock.specs.Stories.{Begins}
use Rattle.seated_lock.specs.Rules.{seats_of, writes_of, tickets_of, has_ticket, one, Knows, Slot, IsKept}
use Rattle.seated_lock.specs.Steps.{sees}
use Rattle.seated_lock.specs.StoryLaws.{begins_itself, begins_on}
use Rattle.seated_lock.proofs.Tallies.{set_at, tally_set}

pub near : (i j : ℕ) → (i ≡ j) ⊎ (i ≢ j)
near i j = dite (ℕ_discrete i j) (λ e. inl e) (λ n. inr n)

-- a view with another place in the queue, where the story stays
pub knows_placed : {S : Type 0} (origin : Gv) (story : Story) (d e d' e' : ℕ) (hs hs' : List (maybe.Option S)) (v : View) (turns : ℕ) (stage : Stage) (ticket : ℕ) → Knows origin story d e hs v → has_ticket stage ≤ v.seats
    → (has_ticket stage ≡ 1 → (e' ≤ ticket) × (ticket < d')) → (stage ≡ Holding → (ticket ≡ e') × (v.seen ≡ story) × (hs' ≡ none ∷ []))
    → Knows origin story d' e' hs' (record v { turns = turns; stage = stage; ticket = ticket })
knows_placed origin story d e d' e' hs hs' v turns stage ticket k queues line hold = record {
  seen = k.seen;
  beside = k.beside;
  origin_is = k.origin_is;
  whole = k.whole;
  writes = k.writes;
  clash = k.clash;
  queues = queues;
  ticket = line;
  holds = hold;
}

-- the same view at other tickets
pub knows_later : {S : Type 0} (origin : Gv) (story : Story) (d e d' e' : ℕ) (hs hs' : List (maybe.Option S)) (v : View) → Knows origin story d e hs v
    → (has_ticket v.stage ≡ 1 → e ≤ v.ticket → v.ticket < d → (e' ≤ v.ticket) × (v.ticket < d'))
    → (v.stage ≡ Holding → (v.ticket ≡ e) → hs ≡ none ∷ [] → (e ≡ e') × (hs' ≡ none ∷ []))
    → Knows origin story d' e' hs' v
knows_later origin story d e d' e' hs hs' v k line hold =
    knows_placed origin story d e d' e' hs hs' v v.turns v.stage v.ticket k k.queues (λ h. let t = k.ticket h in line h t.0 t.1) (λ h. let t = k.holds h in let n = hold h t.0 t.2 in (t.0 ∙ n.0, t.1, n.1))

-- a view that sees the whole story, once that has grown
pub knows_all : {S : Type 0} (origin : Gv) (story after : Story) (d e : ℕ) (hs : List (maybe.Option S)) (v : View) → Knows origin story d e hs v → Begins story after → Knows origin after d e hs (sees v after)
knows_all origin story after d e hs v k on = record {
  seen = λ _. begins_itself after;
  beside = λ p. begins_on v.beside story after (k.beside p) on;
  origin_is = k.origin_is;
  whole = λ _. refl;
  writes = k.writes;
  clash = k.clash;
  queues = k.queues;
  ticket = k.ticket;
  holds = λ h. let t = k.holds h in (t.0, refl, t.2);
}

module _ {V : Type 0} (code : V → Gv) (stands : V → Story → V → Type 0) (reach : V → ℕ) (first : V) (seats : ℕ) where
  abbrev pub St : Type 0
  St = State (Option V) View

  abbrev pub Kept : St → Type 0
  Kept = IsKept code stands reach first seats

  -- a view that held the slot does so still
  pub slot_stays : (t : Story) (hs : List (maybe.Option (Option V))) (views : List View) (id : ℕ) (v w : View) → get_elem? views id ≡ some v → (v.stage ≡ Holding → w.stage ≡ Holding)
      → Slot stands reach first t hs views → Slot stands reach first t hs (set views id w)
  slot_stays t hs views id v w at still (inl x) = inl x
  slot_stays t hs views id v w at still (inr y) = inr (⊎_elim {C = (i : ℕ) × (u : View) × (hs ≡ none ∷ []) × (get_elem? (set views id w) i ≡ some u) × (u.stage ≡ Holding)}
      (λ (same : y.0 ≡ id). (id, w, y.2, set_at views id v w at, still (ap (λ (u : View). u.stage) (some-injective v y.1 (sym at ∙ ap (get_elem? views) (sym same) ∙ y.3)) ∙ y.4)))
      (λ (other : y.0 ≢ id). (y.0, y.1, y.2, set_else views id y.0 w other ∙ y.3, y.4))
      (near y.0 id))

  -- one view changes, with its number of seats and its right to write as they were
  pub revised : (s : St) (r : Kept s) (id : ℕ) (v w : View) (t : Story) (d e : ℕ) (ws : List ℕ) (hs : List (maybe.Option (Option V))) → get_elem? s.views id ≡ some v
      → ws ≡ t.number ∷ d % 18446744073709551616 ∷ e % 18446744073709551616 ∷ [] → Rises (reach first) t.entries t.number → w.seats ≡ v.seats → w.writes ≡ v.writes
      → e + r.drawn + has_ticket w.stage ≡ d + r.served + has_ticket v.stage
      → Knows (code first) t d e hs w
      → ((j : ℕ) (u : View) → j ≢ id → get_elem? s.views j ≡ some u → Knows (code first) r.story r.drawn r.served s.homes u → Knows (code first) t d e hs u)
      → (has_ticket w.stage ≡ 1 → (j : ℕ) (u : View) → j ≢ id → get_elem? s.views j ≡ some u → has_ticket u.stage ≡ 1 → w.ticket ≢ u.ticket)
      → Slot stands reach first t hs (set s.views id w)
      → Kept record { words = ws; homes = hs; views = set s.views id w }
  revised s r id v w t d e ws hs at words rises same_seats same_writes queue mine others apart slot = record {
    story = t;
    drawn = d;
    served = e;
    words = words;
    few = r.few;
    rises = rises;
    all_seats = let q = tally_set seats_of s.views id v w at in let a = r.all_seats in let b : seats_of w ≡ seats_of v = same_seats in omega arith;
    one_writes = let q = tally_set writes_of s.views id v w at in let a = r.one_writes in let b : writes_of w ≡ writes_of v = ap one same_writes in omega arith;
    queue = let q = tally_set tickets_of s.views id v w at in let a = r.queue in let b : e + r.drawn + tickets_of w ≡ d + r.served + tickets_of v = queue in omega arith;
    each = λ j u is. ⊎_elim {C = Knows (code first) t d e hs u} (λ x. subst (Knows (code first) t d e hs) x.1 mine) (λ x. others j u x.0 x.1 (r.each j u x.1)) (at_set s.views id j w u is);
    apart = λ i j u x ui xj tu tx same. ⊎_elim {C = i ≡ j}
        (λ a. ⊎_elim {C = i ≡ j} (λ b. a.0 ∙ sym b.0)
        (λ b. absurd (apart (ap (λ (z : View). has_ticket z.stage) a.1 ∙ tu) j x b.0 b.1 tx (ap (λ (z : View). z.ticket) a.1 ∙ same))) (at_set s.views id j w x xj))
        (λ a. ⊎_elim {C = i ≡ j} (λ b. absurd (apart (ap (λ (z : View). has_ticket z.stage) b.1 ∙ tx) i u a.0 a.1 tu (ap (λ (z : View). z.ticket) b.1 ∙ sym same)))
        (λ b. r.apart i j u x a.1 b.1 tu tx same) (at_set s.views id j w x xj))
        (at_set s.views id i w u ui);
    slot = slot;
  }

  -- nothing changes
  pub stays : (s : St) (id : ℕ) (v : View) (ws : List ℕ) → Kept s → get_elem? s.views id ≡ some v → ws ≡ s.words → Kept record { words = ws; homes = s.homes; views = set s.views id v }
  stays s id v ws r at same = subst (λ (z : List ℕ × List View). Kept record { words = z.0; homes = s.homes; views = z.1 }) (λ k. (sym same k, sym (set_again s.views id v at) k)) r
