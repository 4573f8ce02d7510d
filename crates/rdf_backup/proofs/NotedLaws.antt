-- A session whose volumes are shown as their updaters have noted them.
use Rattle.std.proofs.Common.{◌≡◌, ◌≢◌, ℕ, zero, suc, ◌≤◌, Bool, true, false, List, [], ◌∷◌, map, get_or, Option, Some, None, is_some, IfSome, IsTrue, Ok, refl, sym, ap, ◌∙◌, subst, arith}
use Rattle.std.specs.Prelude.{slice_get}
use Rattle.std.proofs.lemmas.Bool.{true≢false}
use Rattle.rdf_types.specs.declared.records.Phase.TheVariants as phase
use Rattle.rdf_types.specs.declared.records.Record.{Record}
use Rattle.rdf_disk.specs.Files.{Disk}
use Rattle.rdf_disk.specs.Counts.{Counts}
use Rattle.rdf_disk.specs.declared.disk.Disk.{Ghosts}
use Rattle.image_disks.specs.Values.{received}
use Rattle.rdf_volume.specs.declared.volume.Volume.{Volume}
use Rattle.rdf_volume.specs.Views.{rows_of, restart_of, disk_of, InUse}
use Rattle.volume_sessions.specs.Rising.{Rose as RoseBy, AreRisen as AreNoted}
use Rattle.volume_sessions.specs.Shown.{Shown}
use Rattle.volume_sessions.specs.declared.placed.Placed.{Placed}
use Rattle.rdf_core.specs.Layouts.{protects}
use Rattle.rdf_backup.specs.declared.backup.Backup.{Backup}
use Rattle.rdf_backup.specs.declared.session.Session.{Session}
use Rattle.rdf_backup.specs.FirstFaults.{Answer}
use Rattle.rdf_backup.specs.Parting.{Parted, merged, spread, IfCome}
use Rattle.rdf_backup.specs.Raised.{MayRise, RoseIf, AreRisen}
use Rattle.rdf_backup.specs.Replies.{IfBoth}
use Rattle.rdf_backup.specs.Sessions.{Open, HasCome, looked_at, shown_in, open_of, with_watch, IsPlaceOf, IsFed, MayGoOn, RisesOpen, HasRisenOpen}
use Rattle.rdf_backup.specs.States.{layout_of, value_of, disks_in, MayUse, Serves}
use Rattle.rdf_backup.specs.StandingLaws.{serving_stands}
use Rattle.rdf_backup.proofs.LookLaws.{StepApplies, rise_on}
use Rattle.rdf_backup.proofs.OpenLaws.{shown_items, goes_shown, mapped}
use Rattle.rdf_backup.proofs.PartingLaws.{parted_then, have_come}
use Rattle.rdf_backup.proofs.RisingLaws.{AppliedShows}
use Rattle.rdf_backup.proofs.RisingLists.{may_rise}
use Rattle.rdf_backup.proofs.RisingStates.{none_risen, has_risen, risen_serves}
use Rattle.node_disks.specs.CutLaws.{both_then}

-- something was met
pub some_met : {X : Type 0} (o : Option X) → is_some o ≡ true → o ≢ None
some_met {X = X} o on none = true≢false (sym on ∙ ap (λ (x : Option X). is_some x) none)

-- nothing is shown anew
pub rises_not : {D : Type 0} {d : Ghosts D} (tells : Type 0) (files : D → Disk) (counts : D → Counts) (o : Open D d) → o.met ≢ None → (tells → MayUse files o.shown) → RisesOpen tells files counts o o
rises_not {D = D} tells files counts o some usable = record {
  shut = λ met. refl;
  trails = refl;
  disk = refl;
  met = refl;
  usable = usable;
  counts_are = λ i. same_at (slice_get (disks_in o.shown) i);
  comes = λ first h. h;
  risen = λ t unmet. absurd (some unmet);
}
  where
    same_at : (x : Option D) → IfBoth (λ x y. counts y ≡ counts x) x x
    same_at None = tt
    same_at (Some x) = refl

-- the volumes of places are where these are
parted_looked : {D : Type 0} (R : ℕ → Volume D → Placed D → Type 0) → ((n : ℕ) (x : Volume D) (p : Placed D) → R n x p → p.vol ≡ n) → (n : ℕ) (flags : List Bool) (xs : List (Volume D)) (ws : List (Placed D)) (others : List (Volume D)) → Parted R n flags xs ws others →
    Parted IsPlaceOf n flags (merged flags (map (λ p. p.volume) ws) others) ws others
parted_looked R f n [] [] [] [] h = tt
parted_looked R f n [] [] [] (y ∷ others) h = absurd h
parted_looked R f n [] [] (w ∷ ws) others h = absurd h
parted_looked R f n [] (x ∷ xs) ws others h = absurd h
parted_looked R f n (true ∷ flags) [] ws others h = absurd h
parted_looked R f n (true ∷ flags) (x ∷ xs) [] others h = absurd h
parted_looked R f n (true ∷ flags) (x ∷ xs) (w ∷ ws) others h = ((refl, f n x w h.0), parted_looked R f (suc n) flags xs ws others h.1)
parted_looked R f n (false ∷ flags) [] ws others h = absurd h
parted_looked R f n (false ∷ flags) (x ∷ xs) ws [] h = absurd h
parted_looked R f n (false ∷ flags) (x ∷ xs) ws (y ∷ others) h = (refl, parted_looked R f (suc n) flags xs ws others h.1)

module _ {D : Type 0} {d : Ghosts D} (tells : Type 0) (files : D → Disk) (counts : D → Counts) (s : Session D d) (goes : MayGoOn tells files s) (unmet : s.met ≡ None) (volumes noted : List (Placed D))
    (all : AreNoted tells files counts s.watch.entries s.watch.end s.watch.volumes volumes) where
  abbrev old : Backup D d
  old = shown_in s

  abbrev xs : List (Volume D)
  xs = looked_at s.flags.now s.watch.volumes s.apart.value.items

  abbrev watch : Shown D
  watch = record s.watch { volumes = volumes; noted = noted }

  abbrev next : Session D d
  next = with_watch s watch

  abbrev news : List (Volume D)
  news = looked_at s.flags.now volumes s.apart.value.items

  -- what became of the volume of that number
  abbrev Rises : ℕ → Answer → Volume D → Volume D → Type 0
  Rises n answer was is = RoseBy tells files counts n s.watch.entries s.watch.end was is

  abbrev HasPlace : ℕ → Volume D → Placed D → Type 0
  HasPlace n x p = (p.vol ≡ n) × RoseBy tells files counts n s.watch.entries s.watch.end x p.volume

  one_so : (n : ℕ) (x : Volume D) (p q : Placed D) → IsPlaceOf n x p → (q.vol ≡ p.vol) × RoseBy tells files counts p.vol s.watch.entries s.watch.end p.volume q.volume → HasPlace n x q
  one_so n x p q h g = (g.0 ∙ h.1, subst (λ k. RoseBy tells files counts k s.watch.entries s.watch.end x q.volume) h.1 (subst (λ (v : Volume D). RoseBy tells files counts p.vol s.watch.entries s.watch.end v q.volume) h.0 g.1))

  placed_so : Parted HasPlace 0 s.flags.now xs volumes s.apart.value.items
  placed_so = parted_then IsPlaceOf (λ p q. (q.vol ≡ p.vol) × RoseBy tells files counts p.vol s.watch.entries s.watch.end p.volume q.volume) HasPlace one_so 0 s.flags.now xs s.watch.volumes volumes s.apart.value.items goes.parted all

  risen_so : Parted (λ n x p. Rises n (Ok tt) x p.volume) 0 s.flags.now xs volumes s.apart.value.items
  risen_so = parted_then IsPlaceOf (λ p q. (q.vol ≡ p.vol) × RoseBy tells files counts p.vol s.watch.entries s.watch.end p.volume q.volume) (λ n x p. Rises n (Ok tt) x p.volume) (λ n x p q h g. (one_so n x p q h g).1)
      0 s.flags.now xs s.watch.volumes volumes s.apart.value.items goes.parted all

  parted_next : Parted IsPlaceOf 0 s.flags.now news volumes s.apart.value.items
  parted_next = parted_looked HasPlace (λ n x p h. h.0) 0 s.flags.now xs volumes s.apart.value.items placed_so

  items_next : (shown_in next).volumes.items ≡ news
  items_next = shown_items next goes.flags_are parted_next

  abbrev answers : List Answer
  answers = spread (Ok tt) s.flags.now (map (λ (p : Placed D). let a : Answer = Ok tt in a) volumes)

  came : (i : ℕ) → IfCome Rises i (get_or s.flags.now i false) (get_or answers i (Ok tt)) (slice_get old.volumes.items i) (slice_get (shown_in next).volumes.items i)
  came i = subst (λ l. IfCome Rises i (get_or s.flags.now i false) (get_or answers i (Ok tt)) (slice_get old.volumes.items i) (slice_get l i)) (sym items_next)
      (subst (λ l. IfCome Rises i (get_or s.flags.now i false) (get_or answers i (Ok tt)) (slice_get l i) (slice_get news i)) (sym (shown_items s goes.flags_are goes.parted))
      (have_come Rises (λ p. p.volume) (λ p. Ok tt) s.flags.now xs volumes s.apart.value.items risen_so i))

  flag_is : (i : ℕ) → get_or s.flags.now i false ≡ protects (layout_of old) i
  flag_is i = ap (λ fs. get_or fs i false) goes.flags_are

  came_so : (i : ℕ) → IfCome Rises i (protects (layout_of old) i) (get_or answers i (Ok tt)) (slice_get old.volumes.items i) (slice_get (shown_in next).volumes.items i)
  came_so i = subst (λ p. IfCome Rises i p (get_or answers i (Ok tt)) (slice_get old.volumes.items i) (slice_get (shown_in next).volumes.items i)) (flag_is i) (came i)

  in_use_at : tells → (i : ℕ) (p : Bool) (a : Answer) (o q : Option (Volume D)) → IfSome o (λ volume. InUse files volume) → IfCome Rises i p a o q → IfSome q (λ volume. InUse files volume)
  in_use_at t i true a (Some u) (Some v) use_ h = h.in_use t
  in_use_at t i true a (Some u) None use_ h = absurd h
  in_use_at t i true a None q use_ h = absurd h
  in_use_at t i false a (Some u) (Some v) use_ h = subst (λ (w : Volume D). InUse files w) (sym h.0) use_
  in_use_at t i false a (Some u) None use_ h = tt
  in_use_at t i false a None None use_ h = tt
  in_use_at t i false a None (Some v) use_ h = absurd h

  pub usable_next : tells → MayUse files (shown_in next)
  usable_next t = record {
    trails = (goes.going.usable t).trails;
    volume = λ i. in_use_at t i (protects (layout_of old) i) (get_or answers i (Ok tt)) (slice_get old.volumes.items i) (slice_get (shown_in next).volumes.items i) ((goes.going.usable t).volume i) (came_so i);
  }

  -- the session may go on
  pub goes_next : MayGoOn tells files next
  goes_next = goes_shown tells files s volumes noted goes usable_next parted_next

  abbrev Same : Volume D → Volume D → Type 0
  Same x y = counts (disk_of y) ≡ counts (disk_of x)

  counts_at : (i : ℕ) (p : Bool) (a : Answer) (o q : Option (Volume D)) → IfCome Rises i p a o q → IfBoth Same o q
  counts_at i true a (Some u) (Some v) h = h.counts_are
  counts_at i true a (Some u) None h = absurd h
  counts_at i true a None q h = absurd h
  counts_at i false a (Some u) (Some v) h = ap (λ (w : Volume D). counts (disk_of w)) h.0
  counts_at i false a (Some u) None h = absurd h
  counts_at i false a None None h = tt
  counts_at i false a None (Some v) h = absurd h

  counts_next : (i : ℕ) → IfBoth Same (slice_get old.volumes.items i) (slice_get (shown_in next).volumes.items i)
  counts_next i = counts_at i (protects (layout_of old) i) (get_or answers i (Ok tt)) (slice_get old.volumes.items i) (slice_get (shown_in next).volumes.items i) (came_so i)

  disks_next : (i : ℕ) → IfBoth (λ x y. counts y ≡ counts x) (slice_get (disks_in old) i) (slice_get (disks_in (shown_in next)) i)
  disks_next zero = refl
  disks_next (suc v) = mapped (λ volume. disk_of volume) (λ x y. counts y ≡ counts x) old.volumes.items (shown_in next).volumes.items counts_next v

  come_next : (first : Backup D d) → HasCome counts first (open_of s) → HasCome counts first (open_of next)
  come_next first h = record {
    laid = h.laid;
    phase = h.phase;
    volumes = λ v. both_then Same Same Same (λ x y z a b. b ∙ a) (slice_get first.volumes.items v) (slice_get old.volumes.items v) (slice_get (shown_in next).volumes.items v) (h.volumes v) (counts_next v);
    trails = h.trails;
    own = h.own;
    sound = h.sound;
  }

  module _ (law : AppliedShows) (step : StepApplies) (t : tells) (trail : List Record) (serves : Serves files trail old) (fed : IsFed trail (open_of s)) where
    runs : (value_of old).phase ≡ phase.Running
    runs = goes.going.running t

    abbrev end : ℕ
    end = received (value_of old)

    may : (i : ℕ) (was : Volume D) → protects (layout_of old) i ≡ true → slice_get old.volumes.items i ≡ Some was → MayRise (layout_of old) trail i end s.watch.entries (rows_of was) (restart_of was)
    may i was on there = may_rise (layout_of old) trail end s.watch.entries 0 i old.volumes.items old.volumes.items was on fed.behind (none_risen files trail old runs serves) there

    risen_at : (i : ℕ) (p : Bool) (a : Answer) (o q : Option (Volume D)) → protects (layout_of old) i ≡ p → slice_get old.volumes.items i ≡ o → IfCome Rises i p a o q →
        IfBoth (λ was is. RoseIf p trail 0 end i (rows_of was) (restart_of was) (rows_of is) (restart_of is)) o q
    risen_at i true a (Some u) (Some v) on there h =
        let rose = subst (λ n. RoseBy tells files counts i s.watch.entries n u v) (goes.upto ∙ goes.end_is t) h in
        let rises = rise_on tells files counts law step (layout_of old) trail i end s.watch.entries u v (may i u on there) rose in
        (rose.behind, rises.within, (λ less. absurd (omega (arith, less))), rises.shows)
    risen_at i true a (Some u) None on there h = absurd h
    risen_at i true a None q on there h = absurd h
    risen_at i false a (Some u) (Some v) on there h = (ap (λ (w : Volume D). rows_of w) h.0, ap (λ (w : Volume D). restart_of w) h.0)
    risen_at i false a (Some u) None on there h = absurd h
    risen_at i false a None None on there h = tt
    risen_at i false a None (Some v) on there h = absurd h

    risen : AreRisen (layout_of old) trail 0 end old.volumes.items (shown_in next).volumes.items
    risen i = risen_at i (protects (layout_of old) i) (get_or answers i (Ok tt)) (slice_get old.volumes.items i) (slice_get (shown_in next).volumes.items i) refl refl (came_so i)

    serves_next : Serves files trail (shown_in next)
    serves_next = risen_serves files trail old runs serves (shown_in next) refl refl 0 risen (usable_next t).volume

    early : (i : ℕ) → IsTrue (protects (layout_of old) i) → IfSome (slice_get (shown_in next).volumes.items i) (λ volume. fed.start ≤ restart_of volume)
    early i on = behind_at i (slice_get old.volumes.items i) (slice_get (shown_in next).volumes.items i) (fed.early i on)
        (subst (λ p. IfCome Rises i p (get_or answers i (Ok tt)) (slice_get old.volumes.items i) (slice_get (shown_in next).volumes.items i)) on (came_so i))
      where
        behind_at : (i : ℕ) (o q : Option (Volume D)) → IfSome o (λ volume. fed.start ≤ restart_of volume) → IfCome Rises i true (get_or answers i (Ok tt)) o q → IfSome q (λ volume. fed.start ≤ restart_of volume)
        behind_at i (Some u) (Some v) low h = omega (arith, low, h.behind)
        behind_at i (Some u) None low h = absurd h
        behind_at i None q low h = absurd h

    pub risen_next : HasRisenOpen files trail (open_of s) (open_of next)
    risen_next = record {
      rise = has_risen files trail old runs serves (shown_in next) refl refl 0 risen;
      serves = serves_next;
      stands = serving_stands files trail (shown_in next) serves_next;
      fed = record { behind = record { start = fed.start; entries_are = fed.entries_are; early = early }; within = fed.within };
    }

  pub rises_next : AppliedShows → StepApplies → RisesOpen tells files counts (open_of s) (open_of next)
  rises_next law step = record {
    shut = λ some. absurd (some unmet);
    trails = refl;
    disk = refl;
    met = refl;
    usable = usable_next;
    counts_are = disks_next;
    comes = come_next;
    risen = λ t none trail serves fed. risen_next law step t trail serves fed;
  }

-- by what the calls on the watch say
module _ {D : Type 0} {d : Ghosts D} (tells : Type 0) (files : D → Disk) (counts : D → Counts) (s : Session D d) (goes : MayGoOn tells files s) (unmet : s.met ≡ None) (asked now : Shown D)
    (same : asked ≡ record s.watch { noted = asked.noted }) (all : AreNoted tells files counts s.watch.entries s.watch.end s.watch.volumes asked.noted) (accepted : now ≡ record asked { volumes = asked.noted }) where
  is_next : now ≡ record s.watch { volumes = asked.noted; noted = asked.noted }
  is_next = accepted ∙ ap (λ (x : Shown D). record x { volumes = asked.noted }) same

  pub goes_noted : MayGoOn tells files (with_watch s now)
  goes_noted = subst (λ (x : Shown D). MayGoOn tells files (with_watch s x)) (sym is_next) (goes_next tells files counts s goes unmet asked.noted asked.noted all)

  pub rises_noted : AppliedShows → StepApplies → RisesOpen tells files counts (open_of s) (open_of (with_watch s now))
  rises_noted law step = subst (λ (x : Shown D). RisesOpen tells files counts (open_of s) (open_of (with_watch s x))) (sym is_next) (rises_next tells files counts s goes unmet asked.noted asked.noted all law step)
