-- An open session as contracts see it, and what its lines keep.
use Rattle.std.proofs.Common.{◌≡◌, ◌≢◌, ℕ, zero, suc, Bool, true, false, is_some, List, [], ◌∷◌, length, map, Option, Some, None, Result, Ok, Err, refl, sym, ap, ◌∙◌, subst, IfErr}
use Rattle.std.specs.Prelude.{slice_get}
use Rattle.std.proofs.lemmas.List.{with_items_is}
use Rattle.rdf_types.specs.declared.layout.Layout.{Layout}
use Rattle.rdf_disk.specs.Files.{Disk}
use Rattle.rdf_disk.specs.Counts.{Counts, Causes}
use Rattle.rdf_disk.specs.Counts.Ending.{Fine}
use Rattle.rdf_disk.specs.declared.disk.Disk.{Ghosts}
use Rattle.node_faults.specs.declared.NodeFault.{NodeFault}
use Rattle.node_faults.specs.Faults.{ending_for, IsSound, IsNamed, NamesOwn}
use Rattle.image_trails.specs.declared.trails.ImageTrails.{ImageTrails}
use Rattle.image_trails.specs.Trails.{trails_disk}
use Rattle.rdf_volume.specs.declared.volume.Volume.{Volume}
use Rattle.rdf_volume.specs.Views.{disk_of}
use Rattle.volume_sessions.specs.declared.placed.Placed.{Placed}
use Rattle.rdf_core.specs.declared.replies.NoWhy.{NoWhy}
use Rattle.rdf_core.specs.declared.replies.NoWhy.TheVariants as no
use Rattle.rdf_core.specs.declared.replies.Reply.{Reply}
use Rattle.rdf_core.specs.declared.replies.Reply.TheVariants.{No}
use Rattle.rdf_backup.specs.declared.backup.Backup.{Backup}
use Rattle.rdf_backup.specs.declared.session.Session.{Session}
use Rattle.rdf_backup.specs.declared.session.Met.{Met}
use Rattle.rdf_backup.specs.States.{layout_of, value_of, disks_in, MayUse}
use Rattle.rdf_backup.specs.Replies.{IfBoth}
use Rattle.rdf_backup.specs.Answers.{IsNoStop}
use Rattle.rdf_backup.specs.Parting.{Parted}
use Rattle.rdf_backup.specs.Sessions.{Open, looked_at, trails_by, shown_in, IsPlaceOf, trails_answer, with_watch, MayGoOn, HasCome, HasMet, KeepsSession}
use Rattle.rdf_backup.proofs.TakeoverCauses.{none_risen, volumes_caused}
use Rattle.rdf_backup.proofs.PlaceLaws.{parted_length}

-- ---- what is shown

module _ {D : Type 0} {d : Ghosts D} (s : Session D d) where
  -- the volumes are those that were last looked at, and the others
  pub shown_items : s.flags.now ≡ (layout_of (shown_in s)).protect → Parted IsPlaceOf 0 s.flags.now (looked_at s.flags.now s.watch.volumes s.apart.value.items) s.watch.volumes s.apart.value.items →
      (shown_in s).volumes.items ≡ looked_at s.flags.now s.watch.volumes s.apart.value.items
  shown_items flags parted = with_items_is s.first.value.volumes (looked_at s.flags.now s.watch.volumes s.apart.value.items)
      (parted_length IsPlaceOf 0 s.flags.now (looked_at s.flags.now s.watch.volumes s.apart.value.items) s.watch.volumes s.apart.value.items parted
      ∙ ap (λ (l : List Bool). length l) flags ∙ (layout_of (shown_in s)).a_flag_each ∙ sym s.first.value.sized ∙ sym s.first.value.volumes.ok.0)

-- a session that may go on may go on where other volumes are shown in their places, and may be used
pub goes_shown : {D : Type 0} {d : Ghosts D} (tells : Type 0) (files : D → Disk) (s : Session D d) (volumes noted : List (Placed D)) → MayGoOn tells files s →
    (tells → MayUse files (shown_in (with_watch s (record s.watch { volumes = volumes; noted = noted })))) →
    Parted IsPlaceOf 0 s.flags.now (looked_at s.flags.now volumes s.apart.value.items) volumes s.apart.value.items →
    MayGoOn tells files (with_watch s (record s.watch { volumes = volumes; noted = noted }))
goes_shown tells files s volumes noted goes usable parted = record {
  going = record { usable = usable; running = goes.going.running; disk_is = goes.going.disk_is };
  unlent = goes.unlent;
  rises = goes.rises;
  end_is = goes.end_is;
  upto = goes.upto;
  laid = goes.laid;
  flags_are = goes.flags_are;
  parted = parted;
  trails_are = goes.trails_are;
  txns_are = goes.txns_are;
}

-- image trails by their own layout
pub by_own : {D : Type 0} (layout : Layout) (t : ImageTrails D) → t.memory.layout ≡ layout → t ≡ trails_by layout t
by_own layout t e = ap (λ l. trails_by l t) e

-- ---- what lines keep

-- counts of lists of disks, by those of the volumes
pub mapped : {X Y : Type 0} (f : X → Y) (R : Y → Y → Type 0) (xs ys : List X) → ((i : ℕ) → IfBoth (λ x y. R (f x) (f y)) (slice_get xs i) (slice_get ys i)) → (i : ℕ) → IfBoth R (slice_get (map f xs) i) (slice_get (map f ys) i)
mapped f R [] [] h i = tt
mapped f R [] (y ∷ ys) h i = absurd (h 0)
mapped f R (x ∷ xs) [] h i = absurd (h 0)
mapped f R (x ∷ xs) (y ∷ ys) h zero = h 0
mapped f R (x ∷ xs) (y ∷ ys) h (suc i) = mapped f R xs ys (λ k. h (suc k)) i

-- the counts of the disks of volumes are what they are
pub same_counts : {D : Type 0} (counts : D → Counts) (volumes : List (Volume D)) (i : ℕ) → IfBoth (λ x y. counts (disk_of y) ≡ counts (disk_of x)) (slice_get volumes i) (slice_get volumes i)
same_counts {D = D} counts volumes i = by_case (slice_get volumes i)
  where
    by_case : (o : Option (Volume D)) → IfBoth (λ x y. counts (disk_of y) ≡ counts (disk_of x)) o o
    by_case None = tt
    by_case (Some x) = refl

module _ {D : Type 0} {d : Ghosts D} (tells : Type 0) (files : D → Disk) (counts : D → Counts) (meets : NodeFault → Met) where
  -- nothing has changed
  pub keeps_same : (reply : Reply) (old new : Open D d) → new ≡ old → IsNoStop reply → (tells → MayUse files old.shown) → (old.met ≢ None → reply ≡ No no.Down) → KeepsSession tells files counts meets (Ok reply) old new
  keeps_same reply old new e plain usable down = subst (λ (o : Open D d). KeepsSession tells files counts meets (Ok reply) old o) (sym e) (record {
    shut = λ met. (ap (λ (r : Reply). let x : Result Reply NodeFault = Ok r in x) (down met), refl);
    done = λ none. (
      record {
        keeps = record { usable = usable; laid = refl; cause = λ i. none_risen counts (slice_get (disks_in old.shown) i); named = tt };
        plain = plain;
        phase = refl;
      },
      none,
    );
    broken = λ none. tt;
    refused = λ is. refl;
    laid = refl;
    named = tt;
    comes = λ first h. h;
    plain = plain;
  })

  -- something was met
  pub keeps_met : (fault : NodeFault) (old new : Open D d) → old.met ≡ None → HasMet counts (meets fault) old new → IsSound (trails_answer (Some (meets fault))) → NamesOwn {T = Reply} (layout_of old.shown).volumes (Err fault) → KeepsSession tells files counts meets (Err fault) old new
  keeps_met fault old new none met sound named = record {
    shut = λ some. absurd (some none);
    done = λ n. tt;
    broken = λ n. met;
    refused = λ is. absurd is;
    laid = ap (λ b. layout_of b) met.shown;
    named = named;
    comes = λ first h. come first h;
    plain = tt;
  }
    where
      come : (first : Backup D d) → HasCome counts first old → HasCome counts first new
      come first h =
          let still : Causes Fine (counts (trails_disk first.trails)) (counts old.disk) = subst (λ m. Causes (ending_for 0 (trails_answer m)) (counts (trails_disk first.trails)) (counts old.disk)) none h.trails in
          record {
            laid = ap (λ b. layout_of b) met.shown ∙ h.laid;
            phase = ap (λ b. (value_of b).phase) met.shown ∙ h.phase;
            volumes = subst (λ (b : Backup D d). (v : ℕ) → IfBoth (λ x y. counts (disk_of y) ≡ counts (disk_of x)) (slice_get first.volumes.items v) (slice_get b.volumes.items v)) (sym met.shown) h.volumes;
            trails = subst (λ m. Causes (ending_for 0 (trails_answer m)) (counts (trails_disk first.trails)) (counts new.disk)) (sym met.met)
                (subst (λ k. Causes (ending_for 0 (trails_answer (Some (meets fault)))) k (counts new.disk)) still met.cause);
            own = subst (λ m. IfErr (trails_answer m) (λ why. IsNamed 1 why)) (sym met.met) met.own;
            sound = subst (λ m. IsSound (trails_answer m)) (sym met.met) sound;
          }

  -- it is done
  pub keeps_done : (reply : Reply) (old new : Open D d) → old.met ≡ None → new.met ≡ None → IsNoStop reply → ((why : NoWhy) → reply ≡ No why → ⊥) → (tells → MayUse files new.shown) → layout_of new.shown ≡ layout_of old.shown →
      old.disk ≡ trails_disk old.shown.trails → new.disk ≡ trails_disk new.shown.trails → counts new.disk ≡ counts old.disk →
      ((v : ℕ) → IfBoth (λ x y. counts (disk_of y) ≡ counts (disk_of x)) (slice_get old.shown.volumes.items v) (slice_get new.shown.volumes.items v)) →
      ((first : List (Volume D)) → ((v : ℕ) → IfBoth (λ x y. counts (disk_of y) ≡ counts (disk_of x)) (slice_get first v) (slice_get old.shown.volumes.items v)) → (v : ℕ) → IfBoth (λ x y. counts (disk_of y) ≡ counts (disk_of x)) (slice_get first v) (slice_get new.shown.volumes.items v)) →
      (value_of new.shown).phase ≡ (value_of old.shown).phase → KeepsSession tells files counts meets (Ok reply) old new
  keeps_done reply old new none unmet plain really usable laid was is same volumes then phase_is = record {
    shut = λ some. absurd (some none);
    done = λ n. (
      record {
        keeps = record {
          usable = usable;
          laid = laid;
          cause = volumes_caused counts (λ i. Fine) (trails_disk old.shown.trails) (trails_disk new.shown.trails) (map (λ volume. disk_of volume) old.shown.volumes.items) (map (λ volume. disk_of volume) new.shown.volumes.items)
              (ap counts (sym is) ∙ same ∙ ap counts was) refl
              (mapped (λ volume. disk_of volume) (λ x y. counts y ≡ counts x) old.shown.volumes.items new.shown.volumes.items volumes);
          named = tt;
        };
        plain = plain;
        phase = phase_is;
      },
      unmet,
    );
    broken = λ n. tt;
    refused = λ why. absurd (really why.0 why.1);
    laid = laid;
    named = tt;
    comes = λ first h. come first h;
    plain = plain;
  }
    where
      come : (first : Backup D d) → HasCome counts first old → HasCome counts first new
      come first h =
          let still : Causes Fine (counts (trails_disk first.trails)) (counts old.disk) = subst (λ m. Causes (ending_for 0 (trails_answer m)) (counts (trails_disk first.trails)) (counts old.disk)) none h.trails in
          record {
            laid = laid ∙ h.laid;
            phase = phase_is ∙ h.phase;
            volumes = then first.volumes.items h.volumes;
            trails = subst (λ m. Causes (ending_for 0 (trails_answer m)) (counts (trails_disk first.trails)) (counts new.disk)) (sym unmet) (same ∙ still);
            own = subst (λ m. IfErr (trails_answer m) (λ why. IsNamed 1 why)) (sym unmet) tt;
            sound = subst (λ m. IsSound (trails_answer m)) (sym unmet) tt;
          }

-- nothing was met
pub none_met : {X : Type 0} (o : Option X) (b : Bool) → b ≡ is_some o → b ≡ false → o ≡ None
none_met None b is off = refl
none_met (Some x) b is off = absurd (not_so (sym is ∙ off))
  where
    not_so : true ≡ false → ⊥
    not_so e = cc
