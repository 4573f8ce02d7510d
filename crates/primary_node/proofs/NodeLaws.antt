-- What the node does for a line is a step of the machine.
use Rattle.std.proofs.Common.{◌≡◌, ◌≢◌, ◌⊎◌, inl, inr, ℕ, zero, suc, ◌+◌, ◌<◌, ◌≤◌, Bool, true, false, not, ◌||◌, ◌&&◌, ◌==◌, nat_lt, List, [], ◌∷◌, length, Option, Some, None, Result, refl, sym, ap, ◌∙◌, subst}
use Rattle.std.specs.Prelude.{IsTrue, MatchOption}
use Rattle.std.specs.FinSet as set
use Rattle.rdf_model.specs.Running.{is_used}
use Rattle.rdf_types.specs.declared.layout.Layout.{Layout}
use Rattle.rdf_types.specs.declared.records.Record.{Record}
use Rattle.rdf_types.specs.declared.records.RecKey.{RecKey}
use Rattle.rdf_types.specs.declared.records.Node.TheVariants.{A}
use Rattle.rdf_disk.specs.Files.{Disk}
use Rattle.rdf_disk.specs.Counts.{Counts}
use Rattle.rdf_disk.specs.Outcomes.{Narrows}
use Rattle.rdf_disk.specs.declared.disk.Disk.{Ghosts}
use Rattle.rdf_model.specs.Contents.{nothing}
use Rattle.rdf_model.specs.Trail.{raw, owner}
use Rattle.plan_lang.specs.declared.lines.Line.{Line}
use Rattle.plan_lang.specs.declared.lines.Line.TheVariants as line
use Rattle.node_faults.specs.declared.NodeFault.{NodeFault}
use Rattle.tmf_core.specs.declared.store.Store.{Store}
use Rattle.tmf_core.specs.Disks.{disks_of as store_disks}
use Rattle.node_faults.specs.declared.NodeFault.TheVariants as fault
use Rattle.rdf_core.specs.GrowthLaws.{parts_stops}
use Rattle.rdf_core.specs.StopLaws.{primary_unstopped, done_unstopped}
use Rattle.rdf_core.specs.declared.events.Standing.{Standing}
use Rattle.rdf_core.specs.declared.events.Standing.TheVariants.{Up, Down, Lost}
use Rattle.rdf_core.specs.declared.replies.NoWhy.{NoWhy}
use Rattle.rdf_core.specs.declared.replies.NoWhy.TheVariants as no
use Rattle.rdf_core.specs.declared.replies.Reply.{Reply}
use Rattle.rdf_core.specs.declared.replies.Reply.TheVariants.{No, Stopped}
use Rattle.rdf_core.specs.Effects.{IsDone, after_parts, parts_unless, reaches_disks, when, first, count_u64, Whole, Cut}
use Rattle.rdf_core.specs.Primary.{Primary as State, primary_refusal, primary_after, primary_says, primary_fallen, primary_status, got, grown, with_record, needs_active, locked_for, cannot_use, stands}
use Rattle.rdf_core.specs.Step.{disks_of}
use Rattle.rdf_primary.specs.declared.primary.Primary.{Primary}
use Rattle.rdf_primary.specs.States.{state_of, disks_in, IsRunning}
use Rattle.rdf_primary.specs.Standing.{PrimaryStandsFor}
use Rattle.rdf_primary.specs.StandingLaws.{running_stands}
use Rattle.rdf_primary.specs.Replies.{IsAnswered, Goes, Breaks as Broken, primary_parts_of}
use Rattle.primary_node.specs.declared.node.PrimaryNode.{PrimaryNode}
use Rattle.primary_node.specs.Cuts.{Each, AreCut}
use Rattle.primary_node.specs.Nodes.{IsAt, IsUpAt, IsOffAt, standing_off, disks_at, disks_among}
use Rattle.primary_node.specs.Lines.{Follows, Breaks, Ends, stop_told, is_fuse, is_done}
use Rattle.primary_node.proofs.CutLaws.{some_left, still_stands, cut_narrows}

-- a line that a primary answers uses the primary's disks, or none
pub uses : (l : Line) → IsAnswered l → (disks_of l ≡ None) ⊎ (disks_of l ≡ Some A)
uses (line.Begin t) h = inl refl
uses (line.Insert t k value) h = inr refl
uses (line.Update t k value) h = inr refl
uses (line.Delete t k) h = inr refl
uses (line.Get t k) h = inr refl
uses (line.Commit t) h = inr refl
uses (line.Abort t) h = inr refl
uses (line.List node vol) h = inr (ap (λ m. Some m) h)
uses (line.Status node) h = inl refl
uses _ h = absurd h

-- nor does it give a fuse
pub no_fuse : (l : Line) (r : Result Reply NodeFault) → IsAnswered l → (is_fuse l && is_done r) ≡ false
no_fuse (line.Fuse node disk calls tear) r h = absurd h
no_fuse _ r h = refl

abbrev Reaches : Option NoWhy → Type 0
Reaches o = IsTrue (reaches_disks o)

first_reaches : (x : Option NoWhy) (xs : List (Option NoWhy)) → Reaches x → Reaches (first xs) → Reaches (first (x ∷ xs))
first_reaches None xs h k = k
first_reaches (Some why) xs h k = h

when_reaches : (b : Bool) (why : NoWhy) → Reaches (Some why) → Reaches (when b why)
when_reaches true why h = h
when_reaches false why h = refl

locked_reaches : (t : ℕ) (o : Option ℕ) → Reaches (locked_for t o)
locked_reaches t None = refl
locked_reaches t (Some u) = when_reaches (not (u == t)) (no.Locked u) refl

module _ {D : Type 0} {d : Ghosts D} (layout : Layout) (p : Primary D d) (stops : ℕ) where
  abbrev at_it : State
  at_it = state_of stops p

  idle_reaches : (t : ℕ) → Reaches (needs_active at_it t)
  idle_reaches t = when_reaches (not (set.contains at_it.active t)) no.Txn refl

  one_reaches : (b : Bool) (why : NoWhy) → Reaches (Some why) → Reaches (first (when b why ∷ []))
  one_reaches b why h = first_reaches (when b why) [] (when_reaches b why h) refl

  use_reaches : (t : ℕ) (k : RecKey) → Reaches (cannot_use layout at_it t k)
  use_reaches t k = first_reaches (needs_active at_it t) (when (not (nat_lt k.vol layout.volumes)) no.Volume ∷ locked_for t (owner at_it.trail k) ∷ []) (idle_reaches t)
      (first_reaches (when (not (nat_lt k.vol layout.volumes)) no.Volume) (locked_for t (owner at_it.trail k) ∷ []) (when_reaches (not (nat_lt k.vol layout.volumes)) no.Volume refl)
      (first_reaches (locked_for t (owner at_it.trail k)) [] (locked_reaches t (owner at_it.trail k)) refl))

  place_reaches : (t : ℕ) (k : RecKey) (b : Bool) (why : NoWhy) → Reaches (Some why) → Reaches (first (cannot_use layout at_it t k ∷ when b why ∷ []))
  place_reaches t k b why h = first_reaches (cannot_use layout at_it t k) (when b why ∷ []) (use_reaches t k) (one_reaches b why h)

  -- no state of a node refuses a line while it is up
  reaches : (l : Line) → IsAnswered l → Reaches (primary_refusal layout at_it l)
  reaches (line.Begin t) h = one_reaches (set.contains at_it.active t || is_used t at_it.trail) no.Used refl
  reaches (line.Insert t k value) h = place_reaches t k (stands at_it.trail k) no.Exists refl
  reaches (line.Update t k value) h = place_reaches t k (not (stands at_it.trail k)) no.Missing refl
  reaches (line.Delete t k) h = place_reaches t k (not (stands at_it.trail k)) no.Missing refl
  reaches (line.Get t k) h = place_reaches t k (not (stands at_it.trail k)) no.Missing refl
  reaches (line.Commit t) h = first_reaches (needs_active at_it t) [] (idle_reaches t) refl
  reaches (line.Abort t) h = first_reaches (needs_active at_it t) [] (idle_reaches t) refl
  reaches (line.List node vol) h = one_reaches (not (nat_lt vol layout.volumes)) no.Volume refl
  reaches (line.Status node) h = refl
  reaches _ h = absurd h

module _ {D : Type 0} {d : Ghosts D} (files : D → Disk) (layout : Layout) where
  pub at_up : (a : State) (n : PrimaryNode D d) (p : Primary D d) → n.primary ≡ Some p → IsUpAt layout a p → IsAt files layout a n
  at_up a n p e h = subst (λ (o : Option (Primary D d)). MatchOption o (IsOffAt files layout a (standing_off n.lost) n.disks.items) (λ q. IsUpAt layout a q)) (sym e) h

  pub up_at : (a : State) (n : PrimaryNode D d) (p : Primary D d) → n.primary ≡ Some p → IsAt files layout a n → IsUpAt layout a p
  up_at a n p e h = subst (λ (o : Option (Primary D d)). MatchOption o (IsOffAt files layout a (standing_off n.lost) n.disks.items) (λ q. IsUpAt layout a q)) e h

  pub at_off : (a : State) (n : PrimaryNode D d) → n.primary ≡ None → IsOffAt files layout a (standing_off n.lost) n.disks.items → IsAt files layout a n
  at_off a n e h = subst (λ (o : Option (Primary D d)). MatchOption o (IsOffAt files layout a (standing_off n.lost) n.disks.items) (λ q. IsUpAt layout a q)) (sym e) h

  pub off_at : (a : State) (n : PrimaryNode D d) → n.primary ≡ None → IsAt files layout a n → IsOffAt files layout a (standing_off n.lost) n.disks.items
  off_at a n e h = subst (λ (o : Option (Primary D d)). MatchOption o (IsOffAt files layout a (standing_off n.lost) n.disks.items) (λ q. IsUpAt layout a q)) e h

  -- a line that is done, or refused
  pub whole_follows : (a b : State) (l : Line) (rise : ℕ) (reply : Reply) (new : PrimaryNode D d) → IsDone (primary_refusal layout a l) (λ why. a) (primary_after a l) (primary_says a l) reply b →
      IsAt files layout b new → b.stops ≡ a.stops → Follows files layout a l rise reply new
  whole_follows a b l rise reply new done at stops = record { next = b; step = Whole done; at = at; stops = inl (done_unstopped (primary_refusal layout a l) (λ why. a) (primary_after a l) (primary_says a l) reply b (primary_unstopped a l) done A, stops) }

  pub refused_follows : (a : State) (l : Line) (rise : ℕ) (why : NoWhy) (new : PrimaryNode D d) → primary_refusal layout a l ≡ Some why → IsAt files layout a new → Follows files layout a l rise (No why) new
  refused_follows a l rise why new is at = whole_follows a a l rise (No why) new (subst (λ o. IsDone o (λ why. a) (primary_after a l) (primary_says a l) (No why) a) (sym is) (refl, refl)) at refl

  pub done_follows : (a : State) (l : Line) (rise : ℕ) (reply : Reply) (new : PrimaryNode D d) → primary_refusal layout a l ≡ None → primary_says a l reply → IsAt files layout (primary_after a l) new → (primary_after a l).stops ≡ a.stops → Follows files layout a l rise reply new
  done_follows a l rise reply new is says at stops = whole_follows a (primary_after a l) l rise reply new (subst (λ o. IsDone o (λ why. a) (primary_after a l) (primary_says a l) reply (primary_after a l)) (sym is) (says, refl)) at stops

  -- the primary answers and runs on
  pub goes_follows : (a : State) (l : Line) (rise : ℕ) (reply : Reply) (old new : Primary D d) (n : PrimaryNode D d) → n.primary ≡ Some new → IsUpAt layout a old → Goes files l reply old new → Follows files layout a l rise reply n
  goes_follows a l rise reply old new n e u goes = subst (λ s. Follows files layout s l rise reply n) (sym u.state)
      (whole_follows (state_of a.stops old) (state_of a.stops new) l rise reply n (goes.answers layout a.stops u.laid) (at_up (state_of a.stops new) n new e (record { laid = u.laid ∙ sym goes.sized; state = refl })) refl)

  -- the primary falls
  module _ (tells : Type 0) (counts : D → Counts) (they : tells) (a : State) (l : Line) (rise : ℕ) (old new : Primary D d) (n : PrimaryNode D d) (none : n.primary ≡ None) (not_lost : n.lost ≡ false)
      (u : IsUpAt layout a old) (answered : IsAnswered l) (broken : Broken files l old new) (cut : AreCut tells files counts (disks_in new) n.disks.items)
      (runs : IsRunning files old) (still : disks_of l ≡ None → new.tmf.store ≡ old.tmf.store) where
    abbrev was : State
    was = state_of a.stops old

    abbrev fallen_at : ℕ → ℕ → State
    fallen_at many k = primary_fallen many (after_parts was (primary_parts_of layout was l) k)

    fell : (many : ℕ) → (k : ℕ) × ((k ≤ length (primary_parts_of layout was l)) × IsAt files layout (fallen_at many k) n)
    fell many =
        let s = some_left tells files counts they (disks_in new) n.disks.items cut layout (length (primary_parts_of layout was l)) (λ k. fallen_at many k) (broken.stands layout a.stops many u.laid) in
        (s.0, (s.1.0, at_off (fallen_at many s.0) n none (record { stood = sym (ap standing_off not_lost); none_active = refl; stands = s.1.1 })))

    -- a line that uses no disk
    before : disks_of l ≡ None → PrimaryStandsFor files layout was (disks_at n)
    before of =
        let same = ap (λ (s : Store D). store_disks s.trail s.volumes.items) (still of) in
        subst (λ (o : Option (Primary D d)). PrimaryStandsFor files layout was (disks_among o n.disks.items)) (sym none)
        (still_stands files layout was (disks_in old) n.disks.items (subst (λ ds. Each (λ i x y. (m : ℕ) → Narrows (files x m) (files y m)) ds n.disks.items) same (cut_narrows tells files counts they (disks_in new) n.disks.items cut))
        (running_stands files old runs layout a.stops u.laid))

    breaks : Breaks files layout a l n
    breaks =
        let f = fell 0 in
        subst (λ s. Breaks files layout s l n) (sym u.state) (record { unrefused = broken.unrefused layout a.stops u.laid; done = f.0; few = f.1.0; at = f.1.1; before = before })

    stops : disks_of l ≡ Some A → 0 < rise → Follows files layout a l rise (Stopped A) n
    stops of some =
        let f = fell rise in
        subst (λ s. Follows files layout s l rise (Stopped A) n) (sym u.state) (record {
          next = fallen_at rise f.0;
          step = Cut A of f.0 (record { may = reaches layout old a.stops l answered; few = f.1.0; says = refl; rise = rise; some = some; leaves = refl });
          at = f.1.1;
          stops = inr (refl, ap (λ m. count_u64 (m + rise)) (parts_stops was (primary_refusal layout was l) _ f.0));
        })

    by_why : (disks_of l ≡ None) ⊎ (disks_of l ≡ Some A) → 0 < rise → (why : NodeFault) → (disks_of l ≡ None → why ≡ fault.NoMemory) → Ends files layout a l rise (stop_told why) n
    by_why (inl none_of) some (fault.Stopped disk) memory = absurd (not_stopped (memory none_of))
      where
        not_stopped : fault.Stopped disk ≡ fault.NoMemory → ⊥
        not_stopped e = cc
    by_why (inr of) some (fault.Stopped disk) memory = stops of some
    by_why of some (fault.Failed disk) memory = breaks
    by_why of some fault.NoMemory memory = breaks
    by_why of some (fault.Damaged disk file at) memory = breaks

    -- it ends as its fault is told
    pub told_ends : 0 < rise → (why : NodeFault) (r : Result Reply NodeFault) → r ≡ stop_told why → (disks_of l ≡ None → why ≡ fault.NoMemory) → Ends files layout a l rise r n
    told_ends some why r is memory = subst (λ x. Ends files layout a l rise x n) (sym is) (by_why (uses l answered) some why memory)
