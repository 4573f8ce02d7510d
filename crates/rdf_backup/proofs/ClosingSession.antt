-- How a session is closed: what came of its volumes, in their places.
use Rattle.std.proofs.Common.{◌≡◌, ℕ, ◌≤◌, Bool, true, false, List, length, map, get_or, Option, Some, None, IfSome, Ok, Err, refl, sym, ap, ◌∙◌, subst, arith}
use Rattle.std.specs.Prelude.{slice_get}
use Rattle.std.specs.List.{AllZip}
use Rattle.rdf_types.specs.declared.layout.Layout.{Layout}
use Rattle.rdf_types.specs.declared.records.Phase.TheVariants as phase
use Rattle.rdf_types.specs.declared.records.Record.{Record}
use Rattle.rdf_disk.specs.Files.{Disk}
use Rattle.rdf_disk.specs.Counts.{Counts}
use Rattle.rdf_disk.specs.Outcomes.{Durably}
use Rattle.rdf_disk.specs.declared.disk.Disk.{Ghosts}
use Rattle.rdf_gatelog.specs.declared.fault.LogFault.{LogFault}
use Rattle.image_disks.specs.Values.{received}
use Rattle.image_board.specs.Entries.{images_between}
use Rattle.updaters.specs.Seats.{with_images}
use Rattle.rdf_volume.specs.declared.volume.Volume.{Volume}
use Rattle.rdf_volume.specs.StandingLaws.{in_use_durably}
use Rattle.rdf_volume.specs.Views.{rows_of, restart_of, disk_of, InUse}
use Rattle.volume_sessions.specs.Leaving.{HasCome as HasComeTo, HasLeft}
use Rattle.volume_sessions.specs.Rising.{Rose as RoseBy}
use Rattle.volume_sessions.specs.declared.placed.Left.{Left}
use Rattle.volume_sessions.specs.declared.placed.Placed.{Placed}
use Rattle.rdf_core.specs.Layouts.{protects}
use Rattle.rdf_backup.specs.declared.backup.Backup.{Backup}
use Rattle.rdf_backup.specs.declared.session.Session.{Session}
use Rattle.rdf_backup.specs.FirstFaults.{Answer}
use Rattle.rdf_backup.specs.Parting.{Parted, Fits, merged, spread, IfCome}
use Rattle.rdf_backup.specs.Raised.{MayRise, RoseIf, StandsRaised, AreRisen, AreLeftRisen}
use Rattle.rdf_backup.specs.Replies.{IfBoth}
use Rattle.rdf_backup.specs.Rising.{HasCaughtUp}
use Rattle.rdf_backup.specs.States.{layout_of, value_of, Serves}
use Rattle.rdf_backup.specs.Taking.{AreInUse}
use Rattle.rdf_backup.specs.Sessions.{looked_at, shown_in, open_of, IsPlaceOf, IsFed, MayGoOn}
use Rattle.rdf_backup.proofs.OpenLaws.{shown_items}
use Rattle.rdf_backup.proofs.PartingLaws.{parted_then, parted_fits, have_come}
use Rattle.rdf_backup.proofs.RisingLaws.{AppliedShows, risen_to}
use Rattle.rdf_backup.proofs.RisingLists.{may_rise}
use Rattle.rdf_backup.proofs.RisingStates.{none_risen, caught_up}
use Rattle.rdf_backup.proofs.LookLaws.{StepApplies, images_applied, rise_on}

no_err : (why : LogFault) → (let r : Answer = Err why in r) ≡ Ok tt → ⊥
no_err why e = cc

module _ {D : Type 0} {d : Ghosts D} (tells : Type 0) (files : D → Disk) (counts : D → Counts) (c : Session D d) (goes : MayGoOn tells files c) (ended : List (Left D))
    (lefts : AllZip (HasLeft tells files counts c.watch.entries c.watch.end) c.watch.volumes ended) where
  abbrev old : Backup D d
  old = shown_in c

  abbrev layout : Layout
  layout = layout_of old

  abbrev xs : List (Volume D)
  xs = looked_at c.flags.now c.watch.volumes c.apart.value.items

  -- the volumes in their places again, and the answer of each
  abbrev pub news : List (Volume D)
  news = merged c.flags.now (map (λ l. l.volume) ended) c.apart.value.items

  abbrev pub answers : List Answer
  answers = spread (Ok tt) c.flags.now (map (λ l. l.answer) ended)

  -- what came of one
  abbrev pub Came : ℕ → Answer → Volume D → Volume D → Type 0
  Came n answer was is = HasComeTo tells files counts n c.watch.entries c.watch.end was answer is

  came_of : (n : ℕ) (x : Volume D) (p : Placed D) (l : Left D) → IsPlaceOf n x p → HasLeft tells files counts c.watch.entries c.watch.end p l → Came n l.answer x l.volume
  came_of n x p l h g = subst (λ k. Came k l.answer x l.volume) h.1 (subst (λ (v : Volume D). Came p.vol l.answer v l.volume) h.0 g)

  ended_so : Parted (λ n x l. Came n l.answer x l.volume) 0 c.flags.now xs ended c.apart.value.items
  ended_so = parted_then IsPlaceOf (HasLeft tells files counts c.watch.entries c.watch.end) (λ n x l. Came n l.answer x l.volume) came_of 0 c.flags.now xs c.watch.volumes ended c.apart.value.items goes.parted lefts

  pub ended_fit : Fits c.flags.now ended c.apart.value.items
  ended_fit = parted_fits (λ n x l. Came n l.answer x l.volume) 0 c.flags.now xs ended c.apart.value.items ended_so

  -- what came of each volume, by its place
  pub came : (i : ℕ) → IfCome Came i (get_or c.flags.now i false) (get_or answers i (Ok tt)) (slice_get old.volumes.items i) (slice_get news i)
  came i = subst (λ l. IfCome Came i (get_or c.flags.now i false) (get_or answers i (Ok tt)) (slice_get l i) (slice_get news i)) (sym (shown_items c goes.flags_are goes.parted))
      (have_come Came (λ l. l.volume) (λ l. l.answer) c.flags.now xs ended c.apart.value.items ended_so i)

  flag_is : (i : ℕ) → get_or c.flags.now i false ≡ protects layout i
  flag_is i = ap (λ fs. get_or fs i false) goes.flags_are

  -- where each ended well, all may be used
  in_use_at : tells → (i : ℕ) (p : Bool) (a : Answer) (o q : Option (Volume D)) → a ≡ Ok tt → IfSome o (λ volume. InUse files volume) → IfCome Came i p a o q → IfSome q (λ volume. InUse files volume)
  in_use_at t i true (Ok x) (Some u) (Some v) ok use_ h = h.0.in_use t
  in_use_at t i true (Err why) (Some u) (Some v) ok use_ h = absurd (no_err why ok)
  in_use_at t i true a (Some u) None ok use_ h = absurd h
  in_use_at t i true a None q ok use_ h = absurd h
  in_use_at t i false a (Some u) (Some v) ok use_ h = subst (λ (w : Volume D). InUse files w) (sym h.0) use_
  in_use_at t i false a (Some u) None ok use_ h = tt
  in_use_at t i false a None None ok use_ h = tt
  in_use_at t i false a None (Some v) ok use_ h = absurd h

  pub all_in_use : tells → ((k : ℕ) → get_or answers k (Ok tt) ≡ Ok tt) → AreInUse files news
  all_in_use t ok i = in_use_at t i (get_or c.flags.now i false) (get_or answers i (Ok tt)) (slice_get old.volumes.items i) (slice_get news i) (ok i) ((goes.going.usable t).volume i) (came i)

  module _ (law : AppliedShows) (step : StepApplies) (t : tells) (trail : List Record) (serves : Serves files trail old) (fed : IsFed trail (open_of c)) where
    runs : (value_of old).phase ≡ phase.Running
    runs = goes.going.running t

    abbrev end : ℕ
    end = received (value_of old)

    at_end : c.watch.end ≡ end
    at_end = goes.upto ∙ goes.end_is t

    may : (i : ℕ) (was : Volume D) → protects layout i ≡ true → slice_get old.volumes.items i ≡ Some was → MayRise layout trail i end c.watch.entries (rows_of was) (restart_of was)
    may i was on there = may_rise layout trail end c.watch.entries 0 i old.volumes.items old.volumes.items was on fed.behind (none_risen files trail old runs serves) there

    risen_at : (done i : ℕ) (p : Bool) (a : Answer) (o q : Option (Volume D)) → protects layout i ≡ p → slice_get old.volumes.items i ≡ o → a ≡ Ok tt → IfCome Came i p a o q →
        IfBoth (λ was is. RoseIf p trail done end i (rows_of was) (restart_of was) (rows_of is) (restart_of is)) o q
    risen_at done i true (Ok x) (Some u) (Some v) on there ok h =
        let rose = subst (λ n. RoseBy tells files counts i c.watch.entries n u v) at_end h.0 in
        let rises = rise_on tells files counts law step layout trail i end c.watch.entries u v (may i u on there) rose in
        (rose.behind, rises.within, (λ less. h.1 ∙ at_end), rises.shows)
    risen_at done i true (Err why) (Some u) (Some v) on there ok h = absurd (no_err why ok)
    risen_at done i true a (Some u) None on there ok h = absurd h
    risen_at done i true a None q on there ok h = absurd h
    risen_at done i false a (Some u) (Some v) on there ok h = (ap (λ (w : Volume D). rows_of w) h.0, ap (λ (w : Volume D). restart_of w) h.0)
    risen_at done i false a (Some u) None on there ok h = absurd h
    risen_at done i false a None None on there ok h = tt
    risen_at done i false a None (Some v) on there ok h = absurd h

    -- where each ended well, each protected volume has come to all that was received
    pub all_risen : (done : ℕ) → ((k : ℕ) → get_or answers k (Ok tt) ≡ Ok tt) → AreRisen layout trail done end old.volumes.items news
    all_risen done ok i = risen_at done i (protects layout i) (get_or answers i (Ok tt)) (slice_get old.volumes.items i) (slice_get news i) refl refl (ok i)
        (subst (λ p. IfCome Came i p (get_or answers i (Ok tt)) (slice_get old.volumes.items i) (slice_get news i)) (flag_is i) (came i))

    pub all_caught_up : (new : Backup D d) → new.trails ≡ old.trails → new.txns ≡ old.txns → new.volumes.items ≡ news → ((k : ℕ) → get_or answers k (Ok tt) ≡ Ok tt) → HasCaughtUp files trail old new
    all_caught_up new trails txns items ok = caught_up files trail old runs serves new trails txns (length new.volumes.items)
        (subst (λ l. AreRisen layout trail (length new.volumes.items) end old.volumes.items l) (sym items) (all_risen (length new.volumes.items) ok)) (omega arith) (subst (λ l. AreInUse files l) (sym items) (all_in_use t ok))

    left_at : (i : ℕ) (p : Bool) (a : Answer) (o q : Option (Volume D)) → protects layout i ≡ p → slice_get old.volumes.items i ≡ o → IfSome o (λ volume. InUse files volume) → IfCome Came i p a o q →
        IfBoth (λ was is. Durably (files (disk_of is)) (StandsRaised p trail end i (rows_of was) (restart_of was))) o q
    left_at i true (Ok x) (Some u) (Some v) on there use_ h =
        let rose = subst (λ n. RoseBy tells files counts i c.watch.entries n u v) at_end h.0 in
        let rises = rise_on tells files counts law step layout trail i end c.watch.entries u v (may i u on there) rose in
        λ held may_be. record { rows = rows_of v; at = restart_of v; behind = rose.behind; within = rises.within; shows = rises.shows; stands = in_use_durably files v (rose.in_use t) held may_be }
    left_at i true (Err why) (Some u) (Some v) on there use_ h = λ held may_be.
        let s = h.stands t held may_be in
        let within = subst (λ n. s.at ≤ n) at_end s.within in
        let rises = risen_to layout trail i end c.watch.entries law (rows_of u) (with_images (rows_of u) (images_between i (restart_of u) s.at c.watch.entries)) (restart_of u) s.at s.at (may i u on there) s.behind within
        (images_applied step i (restart_of u) s.at (rows_of u) c.watch.entries) refl in
        record { rows = with_images (rows_of u) (images_between i (restart_of u) s.at c.watch.entries); at = s.at; behind = s.behind; within = within; shows = rises.shows; stands = s.stands }
    left_at i true a (Some u) None on there use_ h = absurd h
    left_at i true a None q on there use_ h = absurd h
    left_at i false a (Some u) (Some v) on there use_ h = subst (λ (w : Volume D). Durably (files (disk_of w)) (StandsRaised false trail end i (rows_of u) (restart_of u))) (sym h.0) (λ held may_be. in_use_durably files u use_ held may_be)
    left_at i false a (Some u) None on there use_ h = absurd h
    left_at i false a None None on there use_ h = tt
    left_at i false a None (Some v) on there use_ h = absurd h

    -- whatever came of them, each protected volume's disk durably stands for what it has risen to
    pub all_left : AreLeftRisen files layout trail end old.volumes.items news
    all_left i = left_at i (protects layout i) (get_or answers i (Ok tt)) (slice_get old.volumes.items i) (slice_get news i) refl refl ((goes.going.usable t).volume i)
        (subst (λ p. IfCome Came i p (get_or answers i (Ok tt)) (slice_get old.volumes.items i) (slice_get news i)) (flag_is i) (came i))
