-- A session from its beginning to its end.
use Rattle.std.proofs.Common.{◌≡◌, ℕ, zero, suc, ◌≤◌, Bool, true, false, List, [], ◌∷◌, length, map, get_or, Option, Some, None, IfSome, Result, Ok, Err, IfOk, IfErr, refl, sym, ap, ap₂, ◌∙◌, subst, arith}
use Rattle.std.specs.Prelude.{slice_get}
use Rattle.std.specs.List.{AllZip}
use Rattle.rdf_types.specs.declared.records.Record.{Record}
use Rattle.rdf_types.specs.declared.records.Stamped.{Stamped}
use Rattle.rdf_disk.specs.Files.{Disk}
use Rattle.rdf_disk.specs.Counts.{Counts, Causes}
use Rattle.rdf_disk.specs.Counts.Ending.{Fine}
use Rattle.rdf_disk.specs.declared.disk.Disk.{Ghosts}
use Rattle.rdf_gatelog.specs.LogCauses.{ending}
use Rattle.node_faults.specs.declared.NodeFault.{NodeFault}
use Rattle.node_faults.specs.Faults.{ending_for, is_damage, IsSound, IsNamed, NamesOwn}
use Rattle.image_disks.specs.Values.{received}
use Rattle.image_trails.specs.declared.trails.ImageTrails.{ImageTrails}
use Rattle.image_trails.specs.Trails.{trails_value, trails_disk, AreInUse}
use Rattle.rdf_volume.specs.declared.volume.Volume.{Volume}
use Rattle.rdf_volume.specs.Views.{disk_of, InUse}
use Rattle.volume_sessions.specs.Leaving.{HasLeft}
use Rattle.volume_sessions.specs.Shown.{Shown}
use Rattle.volume_sessions.specs.declared.placed.Left.{Left}
use Rattle.volume_sessions.specs.declared.placed.Placed.{Placed}
use Rattle.rdf_core.specs.declared.replies.Reply.{Reply}
use Rattle.rdf_core.specs.declared.replies.Reply.TheVariants.{Number}
use Rattle.rdf_backup.specs.declared.backup.Backup.{Backup}
use Rattle.rdf_backup.specs.declared.session.Session.{Session}
use Rattle.rdf_backup.specs.declared.session.Met.{Met}
use Rattle.rdf_backup.specs.declared.session.Met.TheVariants as met_in
use Rattle.rdf_backup.specs.FirstFaults.{Answer, first_fault}
use Rattle.rdf_backup.specs.Parting.{IfCome, merged, spread}
use Rattle.rdf_backup.specs.Raised.{AreBehind, AreLeftRisen}
use Rattle.rdf_backup.specs.Replies.{IfBoth}
use Rattle.rdf_backup.specs.Rising.{is_of_protected}
use Rattle.rdf_backup.specs.States.{layout_of, value_of, MayUse, Serves}
use Rattle.rdf_backup.specs.Sessions.{Open, shown_in, open_of, trails_answer, end_of, LeavesTrails, IsFed, IsFedBy, Begins, HasCome, SessionEnds, HasRun, HasRunInside, MayGoOn}
use Rattle.rdf_backup.proofs.FirstFaultLaws.{all_ok, own_at, own_named}
use Rattle.rdf_backup.proofs.Naming.{first_own}
use Rattle.rdf_backup.proofs.RisingLaws.{AppliedShows}
use Rattle.rdf_backup.proofs.LookLaws.{StepApplies}
use Rattle.rdf_backup.proofs.ClosingSession.{Came, answers, news, came, all_in_use, all_caught_up, all_left}
use Rattle.rdf_backup.proofs.OpenLaws.{same_counts}
use Rattle.rdf_backup.proofs.ClosingCauses.{ends, closed_beside, closed_caused, closed_sound}

-- what the answer at the end tells
ok_so : (first : Result (Unit {0}) NodeFault) (m : Option Met) (n : ℕ) (P : Type 0) → (first ≡ Ok tt → m ≡ None → P) → IfOk (end_of first m n) (λ reply. P)
ok_so (Err f) m n P h = tt
ok_so (Ok x) None n P h = h refl refl
ok_so (Ok x) (Some what) n P h = tt

number_so : (first : Result (Unit {0}) NodeFault) (m : Option Met) (n k : ℕ) → (m ≡ None → n ≡ k) → IfOk (end_of first m n) (λ reply. reply ≡ Number k)
number_so (Err f) m n k h = tt
number_so (Ok x) None n k h = ap (λ i. let r : Reply = Number i in r) (h refl)
number_so (Ok x) (Some what) n k h = tt

err_so : (e : Result Reply NodeFault) (P : Type 0) → P → IfErr e (λ why. P)
err_so (Ok x) P h = tt
err_so (Err f) P h = h

named_so : (first : Result (Unit {0}) NodeFault) (m : Option Met) (n many : ℕ) → NamesOwn many first → NamesOwn many (end_of first m n)
named_so (Err f) m n many h = h
named_so (Ok x) None n many h = tt
named_so (Ok x) (Some what) n many h = tt

own_so : (first : Result (Unit {0}) NodeFault) (m : Option Met) (n i : ℕ) → ending_for i first ≡ Fine → ending_for i (end_of first m n) ≡ Fine
own_so (Err f) m n i h = h
own_so (Ok x) None n i h = refl
own_so (Ok x) (Some what) n i h = refl

-- where the image trails' disk met nothing its answer is well
trails_well : (m : Option Met) → LeavesTrails m → (i : ℕ) → ending_for i (trails_answer m) ≡ Fine
trails_well None h i = refl
trails_well (Some (met_in.Trails fault)) h i = absurd h
trails_well (Some met_in.Volume) h i = refl

-- a volume that takes no part answers well
well_apart : {X : Type 0} (R : ℕ → Answer → X → X → Type 0) (i : ℕ) (p : Bool) (a : Answer) (o q : Option X) → p ≡ false → IfCome R i p a o q → a ≡ Ok tt
well_apart R i true a o q e h = absurd (differ e)
  where
    differ : true ≡ false → ⊥
    differ e = cc
well_apart R i false a None None e h = h
well_apart R i false a None (Some y) e h = absurd h
well_apart R i false a (Some x) None e h = absurd h
well_apart R i false a (Some x) (Some y) e h = h.1

sound_so : (first : Result (Unit {0}) NodeFault) (m : Option Met) (n : ℕ) → IfErr first (λ f. is_damage f ≡ false) → IsSound (end_of first m n)
sound_so (Err f) m n h = h
sound_so (Ok x) None n h = tt
sound_so (Ok x) (Some what) n h = refl

sound_first : (r : Result (Unit {0}) NodeFault) → IsSound r → IfErr r (λ f. is_damage f ≡ false)
sound_first (Ok x) h = tt
sound_first (Err f) h = h

none_beyond : {X : Type 0} (xs : List X) (v : ℕ) → length xs ≤ v → slice_get xs v ≡ None
none_beyond [] v le = refl
none_beyond (x ∷ xs) zero le = absurd (omega (arith, le))
none_beyond (x ∷ xs) (suc v) le = none_beyond xs v (omega (arith, le))

well_beyond : {X : Type 0} (R : ℕ → Answer → X → X → Type 0) (i : ℕ) (p : Bool) (a : Answer) (o q : Option X) → o ≡ None → IfCome R i p a o q → a ≡ Ok tt
well_beyond R i true a None q e h = absurd h
well_beyond R i false a None None e h = h
well_beyond R i false a None (Some y) e h = absurd h
well_beyond R i p a (Some x) q e h = absurd (some_none x e)
  where
    some_none : {X : Type 0} (y : X) → Some y ≡ None → ⊥
    some_none y c = cc

module _ {D : Type 0} {d : Ghosts D} (tells : Type 0) (files : D → Disk) (counts : D → Counts) (c : Session D d) (goes : MayGoOn tells files c) (ended : List (Left D))
    (lefts : AllZip (HasLeft tells files counts c.watch.entries c.watch.end) c.watch.volumes ended) (law : AppliedShows) (step : StepApplies) (from : Backup D d) (come : HasCome counts from (open_of c))
    (n : ℕ) (told : n ≡ received (trails_value c.trails.now)) (new : Backup D d) (trails : new.trails ≡ c.trails.now) (txns : new.txns ≡ c.txns.now) (items : new.volumes.items ≡ news tells files counts c goes ended lefts) where
  abbrev old : Backup D d
  old = shown_in c

  abbrev all : List Answer
  all = answers tells files counts c goes ended lefts

  abbrev first : Result (Unit {0}) NodeFault
  first = first_fault 1 (trails_answer c.met) all

  old_trails : c.met ≡ None → new.trails ≡ old.trails
  old_trails none = trails ∙ goes.trails_are none

  usable : tells → first ≡ Ok tt → c.met ≡ None → MayUse files new
  usable t ok none = record {
    trails = subst (λ x. AreInUse files x) (sym (old_trails none)) (goes.going.usable t).trails;
    volume = subst (λ vs. (v : ℕ) → IfSome (slice_get vs v) (λ volume. InUse files volume)) (sym items) (all_in_use tells files counts c goes ended lefts t (all_ok 1 (trails_answer c.met) all ok));
  }

  beyond : (v : ℕ) → (layout_of old).volumes ≤ v → get_or all v (Ok tt) ≡ Ok tt
  beyond v past = well_beyond (Came tells files counts c goes ended lefts) v (get_or c.flags.now v false) (get_or all v (Ok tt)) (slice_get old.volumes.items v) (slice_get (news tells files counts c goes ended lefts) v)
      (none_beyond old.volumes.items v (omega (arith, past, old.sized))) (came tells files counts c goes ended lefts v)

  fine_at : LeavesTrails c.met → (i : ℕ) → is_of_protected (layout_of old) i ≡ false → ends tells files counts c goes ended lefts i ≡ Fine
  fine_at leaves zero off = trails_well c.met leaves 0
  fine_at leaves (suc v) off = ap (λ (r : Answer). ending r)
      (well_apart (Came tells files counts c goes ended lefts) v (get_or c.flags.now v false) (get_or all v (Ok tt)) (slice_get old.volumes.items v) (slice_get (news tells files counts c goes ended lefts) v)
      (ap (λ fs. get_or fs v false) goes.flags_are ∙ off) (came tells files counts c goes ended lefts v))

  pub session_ends : SessionEnds tells files counts (open_of c) (end_of first c.met n) new
  session_ends = record {
    disk = ap (λ t. trails_disk t) trails;
    laid = ap (λ t. t.memory.layout) trails ∙ goes.laid;
    phase = ok_so first c.met n ((value_of new).phase ≡ (value_of old).phase) (λ ok none. ap (λ t. (trails_value t).phase) (old_trails none));
    unmet = ok_so first c.met n (c.met ≡ None) (λ ok none. none);
    says = number_so first c.met n (received (value_of old)) (λ none. told ∙ ap (λ t. received (trails_value t)) (goes.trails_are none));
    usable = λ t. ok_so first c.met n (MayUse files new) (usable t);
    caught = λ t trail serves fed. ok_so first c.met n _ (λ ok none. all_caught_up tells files counts c goes ended lefts law step t trail serves fed new (old_trails none) (txns ∙ goes.txns_are none) items (all_ok 1 (trails_answer c.met) all ok));
    left = λ t trail serves fed. err_so (end_of first c.met n) _ (subst (λ l. AreLeftRisen files (layout_of old) trail (received (value_of old)) old.volumes.items l) (sym items) (all_left tells files counts c goes ended lefts law step t trail serves fed));
    cause = λ was h. closed_caused tells files counts c goes ended lefts was h n new (ap (λ t. trails_disk t) trails) items fine_at;
    named = named_so first c.met n (layout_of old).volumes (own_named (layout_of old).volumes (trails_answer c.met) all (first_own (layout_of old).volumes (trails_answer c.met) come.own) beyond);
    own = λ leaves i off. own_so first c.met n i (own_at first (ends tells files counts c goes ended lefts) (closed_beside tells files counts c goes ended lefts from come) i (fine_at leaves i off));
    sound = λ t. sound_so first c.met n (closed_sound tells files counts c goes ended lefts t (sound_first (trails_answer c.met) come.sound));
  }

module _ {D O : Type 0} {d : Ghosts D} (tells : Type 0) (files : D → Disk) (counts : D → Counts) (drives : Open D d → O → Open D d → Type 0) (first : Backup D d) (flags : List Bool) (apart : List (Volume D)) (placed : List (Placed D)) (start : ℕ) (entries : List Stamped) (end : ℕ)
    (ended : List (Left D)) (out : O) (met : Option Met) (trails : ImageTrails D) (txns : List (ℕ × ℕ)) (r : HasRunInside tells files counts drives first flags apart placed start entries end ended out met trails txns)
    (fed : tells → (trail : List Record) → Serves files trail first → IsFedBy entries trail first) (law : AppliedShows) (step : StepApplies) (n : ℕ) (told : n ≡ received (trails_value trails))
    (new : Backup D d) (trails_new : new.trails ≡ trails) (txns_new : new.txns ≡ txns) (items_new : new.volumes.items ≡ merged flags (map (λ l. l.volume) ended) apart) where
  abbrev c : Session D d
  c = r.driven.closed

  lefts : AllZip (HasLeft tells files counts c.watch.entries c.watch.end) c.watch.volumes ended
  lefts = subst (λ (w : Shown D). AllZip (HasLeft tells files counts w.entries w.end) w.volumes ended) (sym r.driven.watch_is) r.lefts

  begins : Begins tells files first r.driven.opened
  begins = record {
    trails = r.driven.trails_shown;
    volumes = r.driven.volumes_shown;
    txns = r.driven.txns_shown;
    disk = r.driven.disk_is;
    met = r.driven.unmet;
    fed = λ t trail serves. is_fed trail (fed t trail serves);
  }
    where
      is_fed : (trail : List Record) → IsFedBy entries trail first → IsFed trail r.driven.opened
      is_fed trail f =
          let value = ap (λ x. received (trails_value x)) r.driven.trails_shown in
          record {
            behind = subst (λ x. AreBehind x.memory.layout trail (received (trails_value x)) r.driven.opened.entries r.driven.opened.shown.volumes.items) (sym r.driven.trails_shown)
                (subst (λ vs. AreBehind (layout_of first) trail (received (value_of first)) r.driven.opened.entries vs) (sym r.driven.volumes_shown)
                (record { start = f.0.start; entries_are = r.driven.entries_are ∙ r.opens.entries ∙ f.0.entries_are; early = f.0.early }));
            within = omega (arith, f.1, value);
          }

  come : HasCome counts first (open_of c)
  come = r.driven.comes first (record {
    laid = ap (λ t. t.memory.layout) r.driven.trails_shown;
    phase = ap (λ t. (trails_value t).phase) r.driven.trails_shown;
    volumes = subst (λ vs. (v : ℕ) → IfBoth (λ x y. counts (disk_of y) ≡ counts (disk_of x)) (slice_get first.volumes.items v) (slice_get vs v)) (sym r.driven.volumes_shown) (same_counts counts first.volumes.items);
    trails = subst (λ m. Causes (ending_for 0 (trails_answer m)) (counts (trails_disk first.trails)) (counts r.driven.opened.disk)) (sym r.driven.unmet) (ap counts r.driven.disk_is);
    own = subst (λ m. IfErr (trails_answer m) (λ why. IsNamed 1 why)) (sym r.driven.unmet) tt;
    sound = subst (λ m. IsSound (trails_answer m)) (sym r.driven.unmet) tt;
  })

  -- the whole of it
  pub has_run : HasRun tells files counts drives out (end_of (first_fault 1 (trails_answer met) (spread (Ok tt) flags (map (λ l. l.answer) ended))) met n) first new
  has_run = record {
    opened = r.driven.opened;
    closed = open_of c;
    begins = begins;
    driven = r.driven.driven;
    goes = r.driven.goes.going;
    comes = come;
    ends = subst (λ m. SessionEnds tells files counts (open_of c) (end_of (first_fault 1 (trails_answer m) (spread (Ok tt) flags (map (λ l. l.answer) ended))) m n) new) r.driven.met_is
        (subst (λ fs. SessionEnds tells files counts (open_of c) (end_of (first_fault 1 (trails_answer c.met) (spread (Ok tt) fs (map (λ l. l.answer) ended))) c.met n) new) r.driven.flags_are
        (session_ends tells files counts c r.driven.goes ended lefts law step first come n (told ∙ ap (λ t. received (trails_value t)) (sym r.driven.trails_are)) new (trails_new ∙ sym r.driven.trails_are) (txns_new ∙ sym r.driven.txns_are)
        (items_new ∙ ap₂ (λ (fs : List Bool) (xs : List (Volume D)). merged fs (map (λ l. l.volume) ended) xs) (sym r.driven.flags_are) (sym r.driven.apart_is))));
  }
