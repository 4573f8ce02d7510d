-- How a session begins.
use Rattle.std.proofs.Common.{◌≡◌, ℕ, suc, Bool, true, false, List, [], ◌∷◌, IfSome, refl, sym, ap, ◌∙◌, subst}
use Rattle.std.specs.Prelude.{slice_get}
use Rattle.rdf_disk.specs.Files.{Disk}
use Rattle.rdf_disk.specs.declared.disk.Disk.{Ghosts}
use Rattle.image_disks.specs.Values.{received}
use Rattle.image_trails.specs.Trails.{trails_value, trails_disk, AreInUse}
use Rattle.rdf_volume.specs.declared.volume.Volume.{Volume}
use Rattle.rdf_volume.specs.Views.{InUse}
use Rattle.volume_sessions.specs.declared.placed.Placed.{Placed}
use Rattle.rdf_backup.specs.declared.backup.Backup.{Backup}
use Rattle.rdf_backup.specs.declared.session.Session.{Session}
use Rattle.rdf_backup.specs.Parting.{Parted}
use Rattle.rdf_backup.specs.Sessions.{looked_at, trails_by, shown_in, IsPlaceOf, MayOpen, MayGoOn}
use Rattle.rdf_backup.proofs.OpenLaws.{shown_items}

-- the volumes in their places are those that were taken out of them
pub parted_merged : {D : Type 0} (n : ℕ) (flags : List Bool) (xs : List (Volume D)) (ws : List (Placed D)) (others : List (Volume D)) → Parted IsPlaceOf n flags xs ws others → looked_at flags ws others ≡ xs
parted_merged n [] [] [] [] h = refl
parted_merged n [] [] [] (y ∷ others) h = absurd h
parted_merged n [] [] (w ∷ ws) others h = absurd h
parted_merged n [] (x ∷ xs) ws others h = absurd h
parted_merged n (true ∷ flags) [] ws others h = absurd h
parted_merged n (true ∷ flags) (x ∷ xs) [] others h = absurd h
parted_merged {D = D} n (true ∷ flags) (x ∷ xs) (w ∷ ws) others h = ap (λ (y : Volume D). y ∷ looked_at flags ws others) h.0.0 ∙ ap (λ (l : List (Volume D)). x ∷ l) (parted_merged (suc n) flags xs ws others h.1)
parted_merged n (false ∷ flags) [] ws others h = absurd h
parted_merged n (false ∷ flags) (x ∷ xs) ws [] h = absurd h
parted_merged {D = D} n (false ∷ flags) (x ∷ xs) ws (y ∷ others) h = ap (λ (z : Volume D). z ∷ looked_at flags ws others) h.0 ∙ ap (λ (l : List (Volume D)). x ∷ l) (parted_merged (suc n) flags xs ws others h.1)

module _ {D : Type 0} {d : Ghosts D} (tells : Type 0) (files : D → Disk) (s : Session D d) (may : MayOpen tells files s.first.value s.flags.now s.apart.value.items s.end s.trails.now s.txns.now s.watch)
    (trails_are : s.trails_shown.value ≡ s.trails.now) (txns_are : s.txns_shown.value ≡ s.txns.now) where
  abbrev first : Backup D d
  first = s.first.value

  -- what is shown is the backup
  pub first_trails : (shown_in s).trails ≡ first.trails
  first_trails = ap (λ t. trails_by first.trails.memory.layout t) (trails_are ∙ may.trails_are)

  looked : looked_at s.flags.now s.watch.volumes s.apart.value.items ≡ first.volumes.items
  looked = parted_merged 0 s.flags.now first.volumes.items s.watch.volumes s.apart.value.items may.parted

  parted : Parted IsPlaceOf 0 s.flags.now (looked_at s.flags.now s.watch.volumes s.apart.value.items) s.watch.volumes s.apart.value.items
  parted = subst (λ l. Parted IsPlaceOf 0 s.flags.now l s.watch.volumes s.apart.value.items) (sym looked) may.parted

  pub first_items : (shown_in s).volumes.items ≡ first.volumes.items
  first_items = shown_items s may.flags_are parted ∙ looked

  pub may_begin : MayGoOn tells files s
  may_begin = record {
    going = record {
      usable = λ t. record {
        trails = subst (λ x. AreInUse files x) (sym first_trails) (may.usable t).trails;
        volume = subst (λ vs. (v : ℕ) → IfSome (slice_get vs v) (λ volume. InUse files volume)) (sym first_items) (may.usable t).volume;
      };
      running = λ t. ap (λ x. (trails_value x).phase) first_trails ∙ may.running;
      disk_is = λ none. ap (λ x. trails_disk x) (may.trails_are ∙ sym first_trails);
    };
    unlent = may.unlent;
    rises = may.rises;
    end_is = λ t. may.end_is ∙ sym (ap (λ x. received (trails_value x)) first_trails);
    upto = may.upto;
    laid = ap (λ t. t.memory.layout) may.trails_are;
    flags_are = may.flags_are;
    parted = parted;
    trails_are = λ none. may.trails_are ∙ sym first_trails;
    txns_are = λ none. sym txns_are;
  }
