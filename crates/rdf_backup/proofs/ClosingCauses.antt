-- How the disks ended in a session that is closed.
use Rattle.std.proofs.Common.{◌≡◌, ◌≢◌, ℕ, zero, suc, ◌<◌, Bool, true, false, List, [], ◌∷◌, map, get_or, Option, Some, None, Result, Ok, Err, IfErr, refl, sym, ap, ◌∙◌, subst, arith}
use Rattle.std.specs.Prelude.{slice_get}
use Rattle.std.specs.List.{AllZip}
use Rattle.rdf_disk.specs.Files.{Disk}
use Rattle.rdf_disk.specs.Counts.{Counts, Causes, Ending}
use Rattle.rdf_disk.specs.Counts.Ending.{Fine, Fault}
use Rattle.rdf_disk.specs.declared.disk.Disk.{Ghosts}
use Rattle.rdf_gatelog.specs.declared.fault.LogFault.{LogFault}
use Rattle.rdf_gatelog.specs.declared.fault.LogFault.TheVariants as log
use Rattle.rdf_gatelog.specs.LogCauses.{ending}
use Rattle.node_faults.specs.declared.NodeFault.{NodeFault}
use Rattle.node_faults.specs.Faults.{fault_at, ending_for, is_damage}
use Rattle.image_trails.specs.Trails.{trails_disk}
use Rattle.rdf_volume.specs.declared.volume.Volume.{Volume}
use Rattle.rdf_volume.specs.Views.{disk_of}
use Rattle.volume_sessions.specs.Leaving.{HasLeft}
use Rattle.volume_sessions.specs.declared.placed.Left.{Left}
use Rattle.rdf_backup.specs.declared.backup.Backup.{Backup}
use Rattle.rdf_backup.specs.declared.session.Session.{Session}
use Rattle.rdf_backup.specs.declared.session.Met.{Met}
use Rattle.rdf_backup.specs.Beside.{EndsBeside}
use Rattle.rdf_backup.specs.BesideLaws.{one_beside}
use Rattle.rdf_backup.specs.FirstFaults.{Answer, answer_at, first_fault}
use Rattle.rdf_backup.specs.Parting.{IfCome}
use Rattle.rdf_backup.specs.Replies.{IfBoth}
use Rattle.rdf_backup.specs.States.{layout_of, disks_in}
use Rattle.rdf_backup.specs.Sessions.{shown_in, open_of, trails_answer, HasCome, MayGoOn, OnlyProtected, CausedInSession, end_of}
use Rattle.rdf_backup.proofs.FirstFaultLaws.{beside, every}
use Rattle.rdf_backup.proofs.ClosingSession.{news, answers, Came, came}
use Rattle.rdf_backup.proofs.Naming.{ends_behind}

fine_fault : Fine ≢ Fault
fine_fault e = cc

-- the answer at the end tells the same
pub end_beside : (first : Result (Unit {0}) NodeFault) (met : Option Met) (n : ℕ) (ends : ℕ → Ending) → EndsBeside first ends → EndsBeside (end_of first met n) ends
end_beside (Err f) met n ends h = h
end_beside (Ok x) None n ends h = h
end_beside (Ok x) (Some what) n ends h = λ i e. fine_fault (sym (h i) ∙ e)

-- each element of two lists of which the same is said, mapped
mapped_by : {X Y : Type 0} (f : X → Y) (R : ℕ → Y → Y → Type 0) (xs ys : List X) → ((i : ℕ) → IfBoth (λ x y. R i (f x) (f y)) (slice_get xs i) (slice_get ys i)) → (i : ℕ) → IfBoth (R i) (slice_get (map f xs) i) (slice_get (map f ys) i)
mapped_by f R [] [] h i = tt
mapped_by f R [] (y ∷ ys) h i = absurd (h 0)
mapped_by f R (x ∷ xs) [] h i = absurd (h 0)
mapped_by f R (x ∷ xs) (y ∷ ys) h zero = h 0
mapped_by f R (x ∷ xs) (y ∷ ys) h (suc i) = mapped_by f (λ k. R (suc k)) xs ys (λ k. h (suc k)) i

-- a fault that is no damage of its disk is none of the node
undamaged : (disk : ℕ) (why : LogFault) → ((file at : ℕ) → why ≡ log.Damaged file at → ⊥) → is_damage (fault_at disk why) ≡ false
undamaged disk log.Stopped h = refl
undamaged disk log.Failed h = refl
undamaged disk log.NoMemory h = refl
undamaged disk (log.Damaged file at) h = absurd (h file at refl)

module _ {D : Type 0} {d : Ghosts D} (tells : Type 0) (files : D → Disk) (counts : D → Counts) (c : Session D d) (goes : MayGoOn tells files c) (ended : List (Left D))
    (lefts : AllZip (HasLeft tells files counts c.watch.entries c.watch.end) c.watch.volumes ended) where
  abbrev old : Backup D d
  old = shown_in c

  abbrev all : List Answer
  all = answers tells files counts c goes ended lefts

  abbrev behind : List (Volume D)
  behind = news tells files counts c goes ended lefts

  -- how each disk ended
  abbrev pub ends : ℕ → Ending
  ends zero = ending_for 0 (trails_answer c.met)
  ends (suc v) = ending (get_or all v (Ok tt))

  abbrev Same : Volume D → Volume D → Type 0
  Same x y = counts (disk_of y) ≡ counts (disk_of x)

  caused_at : (i : ℕ) (p : Bool) (a : Answer) (w o q : Option (Volume D)) → IfBoth Same w o → IfCome (Came tells files counts c goes ended lefts) i p a o q → IfBoth (λ x y. Causes (ending a) (counts (disk_of x)) (counts (disk_of y))) w q
  caused_at i p a None (Some u) q same h = absurd same
  caused_at i p a (Some z) None q same h = absurd same
  caused_at i true (Ok x) (Some z) (Some u) (Some v) same h = h.0.counts_are ∙ same
  caused_at i true (Err why) (Some z) (Some u) (Some v) same h = subst (λ k. Causes (ending {T = Unit {0}} (Err why)) k (counts (disk_of v))) same h.cause
  caused_at i true a (Some z) (Some u) None same h = absurd h
  caused_at i true a None None q same h = absurd h
  caused_at i false a (Some z) (Some u) (Some v) same h = subst (λ (r : Answer). Causes (ending r) (counts (disk_of z)) (counts (disk_of v))) (sym h.1) (ap (λ (x : Volume D). counts (disk_of x)) h.0 ∙ same)
  caused_at i false a (Some z) (Some u) None same h = absurd h
  caused_at i false a None None None same h = tt
  caused_at i false a None None (Some v) same h = absurd h

  -- the first of all faults is answered, and has its cause
  pub closed_beside : (was : Backup D d) → HasCome counts was (open_of c) → EndsBeside (first_fault 1 (trails_answer c.met) all) ends
  closed_beside was h = beside all 1 (trails_answer c.met) (λ i. ending_for i (trails_answer c.met)) ends (one_beside (trails_answer c.met) (λ i. ending_for i (trails_answer c.met)) (λ i. refl))
      (λ i le. ends_behind 1 i (trails_answer c.met) h.own le) below (λ k i e. ap (λ n. ends n) (let s : i ≡ suc k = omega (arith, e) in s))
    where
      below : (i : ℕ) → i < 1 → ends i ≡ ending_for i (trails_answer c.met)
      below zero less = refl
      below (suc i) less = absurd (omega (arith, less))

  pub closed_caused : (was : Backup D d) → HasCome counts was (open_of c) → (n : ℕ) (new : Backup D d) → trails_disk new.trails ≡ trails_disk c.trails.now → new.volumes.items ≡ behind → OnlyProtected (layout_of old) c.met ends →
      CausedInSession counts (layout_of old) c.met (end_of (first_fault 1 (trails_answer c.met) all) c.met n) was new
  closed_caused was h n new disk items only = (ends, (end_beside (first_fault 1 (trails_answer c.met) all) c.met n ends (closed_beside was h), only, at))
    where
      each : (i : ℕ) → IfBoth (λ x y. Causes (ending (get_or all i (Ok tt))) (counts (disk_of x)) (counts (disk_of y))) (slice_get was.volumes.items i) (slice_get new.volumes.items i)
      each i = subst (λ l. IfBoth (λ x y. Causes (ending (get_or all i (Ok tt))) (counts (disk_of x)) (counts (disk_of y))) (slice_get was.volumes.items i) (slice_get l i)) (sym items)
          (caused_at i (get_or c.flags.now i false) (get_or all i (Ok tt)) (slice_get was.volumes.items i) (slice_get old.volumes.items i) (slice_get behind i) (h.volumes i) (came tells files counts c goes ended lefts i))

      at : (i : ℕ) → IfBoth (λ x y. Causes (ends i) (counts x) (counts y)) (slice_get (disks_in was) i) (slice_get (disks_in new) i)
      at zero = subst (λ x. Causes (ending_for 0 (trails_answer c.met)) (counts (trails_disk was.trails)) (counts x)) (sym disk) h.trails
      at (suc v) = mapped_by (λ volume. disk_of volume) (λ i x y. Causes (ending (get_or all i (Ok tt))) (counts x) (counts y)) was.volumes.items new.volumes.items each v

  sound_at : tells → (disk i : ℕ) (p : Bool) (a : Answer) (o q : Option (Volume D)) → IfCome (Came tells files counts c goes ended lefts) i p a o q → IfErr (answer_at disk a) (λ f. is_damage f ≡ false)
  sound_at t disk i p (Ok x) o q h = tt
  sound_at t disk i true (Err why) (Some u) (Some v) h = undamaged disk why (h.sound t)
  sound_at t disk i true (Err why) (Some u) None h = absurd h
  sound_at t disk i true (Err why) None q h = absurd h
  sound_at t disk i false (Err why) (Some u) (Some v) h = absurd (differ why h.1)
    where
      differ : (w : LogFault) → (let r : Answer = Err w in r) ≡ Ok tt → ⊥
      differ w e = cc
  sound_at t disk i false (Err why) (Some u) None h = absurd h
  sound_at t disk i false (Err why) None None h = absurd (differ why h)
    where
      differ : (w : LogFault) → (let r : Answer = Err w in r) ≡ Ok tt → ⊥
      differ w e = cc
  sound_at t disk i false (Err why) None (Some v) h = absurd h

  -- no damage is told
  pub closed_sound : tells → IfErr (trails_answer c.met) (λ f. is_damage f ≡ false) → IfErr (first_fault 1 (trails_answer c.met) all) (λ f. is_damage f ≡ false)
  closed_sound t met = every (λ f. is_damage f ≡ false) 1 (trails_answer c.met) all met
      (λ k disk e. sound_at t disk k (get_or c.flags.now k false) (get_or all k (Ok tt)) (slice_get old.volumes.items k) (slice_get behind k) (came tells files counts c goes ended lefts k))
