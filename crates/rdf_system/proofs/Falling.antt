-- What the disks of the nodes go on to stand for where a node falls.
use Rattle.std.proofs.Common.{◌≡◌, ◌⊎◌, inl, inr, ℕ, zero, suc, ◌+◌, Bool, false, List, Option, Some, None, refl, sym, ap, subst}
use Rattle.std.specs.Prelude.{slice_get, IfSome, MatchOption}
use Rattle.rdf_types.specs.declared.layout.Layout.{Layout}
use Rattle.rdf_types.specs.declared.records.Record.{Record}
use Rattle.rdf_disk.specs.Files.{Disk, Contents}
use Rattle.rdf_disk.specs.Outcomes.{Durably}
use Rattle.rdf_disk.specs.declared.disk.Disk.{Ghosts}
use Rattle.rdf_core.specs.Primary.{Primary, primary_fallen}
use Rattle.rdf_core.specs.Backup.{Backup, backup_fallen}
use Rattle.rdf_core.specs.Effects.{count_u64}
use Rattle.by_node.specs.Each.{at}
use Rattle.rdf_core.specs.State.{State}
use Rattle.rdf_primary.specs.Standing.{PrimaryStandsFor, DiskStandsFor}
use Rattle.rdf_backup.specs.Standing.{BackupStandsFor, DiskStandsFor as BackupDiskStandsFor, VolumeStandsFor, TrailsStandFor}
use Rattle.rdf_backup.specs.StandingLaws.{shown_again}
use Rattle.primary_node.specs.Nodes.{disks_at}
use Rattle.rdf_primary.specs.StandingLaws.{stands_off}
use Rattle.backup_node.specs.declared.node.BackupNode.{BackupNode}
use Rattle.backup_node.specs.Nodes.{disks_at as backup_disks}
use Rattle.rdf_system.specs.declared.site.Site.{Site}
use Rattle.rdf_system.specs.declared.system.System.{System}
use Rattle.rdf_system.specs.OnNodes.{site_at}
use Rattle.rdf_system.specs.States.{DisksStandFor, SiteStandsFor}
use Rattle.rdf_system.proofs.Leaving.{AreLeft}

-- what stands for a primary stands for it once it is down
pub primary_falls : {D : Type 0} (files : D → Disk) (layout : Layout) (n : ℕ) (a : Primary) (disks : List D) → PrimaryStandsFor files layout a disks → PrimaryStandsFor files layout (primary_fallen n a) disks
primary_falls {D = D} files layout n a disks h = record { trail = h.trail; count = h.count; disk = λ i. each i (slice_get disks i) (h.disk i) }
  where
    each : (i : ℕ) (o : Option D) → IfSome o (λ x. Durably (files x) (DiskStandsFor a i)) → IfSome o (λ x. Durably (files x) (DiskStandsFor (primary_fallen n a) i))
    each i None h = tt
    each zero (Some x) h = h
    each (suc v) (Some x) h = λ c m. stands_off a.standing v a.trail c (h c m)

-- what stands for a backup stands for it whether it is up or down, and however often its disks stopped
pub backup_turned : {D : Type 0} (files : D → Disk) (layout : Layout) (trail : List Record) (up : Bool) (stops : ℕ) (b : Backup) (disks : List D) → BackupStandsFor files layout trail b disks → BackupStandsFor files layout trail (record b { up = up; stops = stops }) disks
backup_turned {D = D} files layout trail up stops b disks h = record {
  legal = h.legal;
  sound = record { within = h.sound.within; some = h.sound.some; low = h.sound.low; volumes = h.sound.volumes };
  count = h.count;
  disk = λ i. each i (slice_get disks i) (h.disk i);
}
  where
    each : (i : ℕ) (o : Option D) → IfSome o (λ x. Durably (files x) (BackupDiskStandsFor layout trail b i)) → IfSome o (λ x. Durably (files x) (BackupDiskStandsFor layout trail (record b { up = up; stops = stops }) i))
    each i None g = tt
    each zero (Some x) g = λ c m. trails_turned c (g c m)
      where
        trails_turned : (c : Contents) → TrailsStandFor layout trail b c → TrailsStandFor layout trail (record b { up = up; stops = stops }) c
        trails_turned c k = record { value = k.value; stands = k.stands; tells = record { received_is = k.tells.received_is; starts_are = k.tells.starts_are; number_is = k.tells.number_is; phase_is = k.tells.phase_is }; holds = k.holds }
    each (suc v) (Some x) g = λ c m. volume_turned c (g c m)
      where
        volume_turned : (c : Contents) → VolumeStandsFor layout trail b v c → VolumeStandsFor layout trail (record b { up = up; stops = stops }) v c
        volume_turned c k = record { rows = k.rows; at = k.at; shows = shown_again layout trail b (record b { up = up; stops = stops }) v k.rows k.at refl refl refl k.shows; stands = k.stands }

pub site_turned : {D : Type 0} {d : Ghosts D} (files : D → Disk) (layout : Layout) (trail : List Record) (up : Bool) (stops : ℕ) (b : Backup) (site : Site D d) → SiteStandsFor files layout trail b site → SiteStandsFor files layout trail (record b { up = up; stops = stops }) site
site_turned {D = D} {d = d} files layout trail up stops b site h = go site.node h
  where
    go : (o : Option (BackupNode D d)) → MatchOption o (Unit {0}) (λ x. BackupStandsFor files layout trail b (backup_disks x)) → MatchOption o (Unit {0}) (λ x. BackupStandsFor files layout trail (record b { up = up; stops = stops }) (backup_disks x))
    go None k = tt
    go (Some x) k = backup_turned files layout trail up stops b (backup_disks x) k

-- so it stands for it once it is down
pub site_falls : {D : Type 0} {d : Ghosts D} (files : D → Disk) (layout : Layout) (trail : List Record) (n : ℕ) (b : Backup) (site : Site D d) → SiteStandsFor files layout trail b site → SiteStandsFor files layout trail (backup_fallen n b) site
site_falls files layout trail n b site h = site_turned files layout trail false (count_u64 (b.stops + n)) b site h

module _ {D : Type 0} {d : Ghosts D} (files : D → Disk) (layout : Layout) (next left : State) (new : System D d) (are : AreLeft next left) (h : DisksStandFor files layout next new) where
  same_trail : left.primary.trail ≡ next.primary.trail
  same_trail = go are.primary
    where
      go : ((left.primary ≡ next.primary) ⊎ (left.primary ≡ primary_fallen 0 next.primary)) → left.primary.trail ≡ next.primary.trail
      go (inl e) = ap (λ (a : Primary). a.trail) e
      go (inr e) = ap (λ (a : Primary). a.trail) e

  of_a : ((left.primary ≡ next.primary) ⊎ (left.primary ≡ primary_fallen 0 next.primary)) → PrimaryStandsFor files layout left.primary (disks_at new.primary)
  of_a (inl e) = subst (λ (a : Primary). PrimaryStandsFor files layout a (disks_at new.primary)) (sym e) h.primary
  of_a (inr e) = subst (λ (a : Primary). PrimaryStandsFor files layout a (disks_at new.primary)) (sym e) (primary_falls files layout 0 next.primary (disks_at new.primary) h.primary)

  of_site : (site : Site D d) (b b' : Backup) → (b' ≡ b) ⊎ (b' ≡ backup_fallen 0 b) → SiteStandsFor files layout next.primary.trail b site → SiteStandsFor files layout left.primary.trail b' site
  of_site site b b' (inl e) k = subst (λ (t : List Record). SiteStandsFor files layout t b' site) (sym same_trail) (subst (λ (x : Backup). SiteStandsFor files layout next.primary.trail x site) (sym e) k)
  of_site site b b' (inr e) k = subst (λ (t : List Record). SiteStandsFor files layout t b' site) (sym same_trail)
      (subst (λ (x : Backup). SiteStandsFor files layout next.primary.trail x site) (sym e) (site_falls files layout next.primary.trail 0 b site k))

  -- disks that stand for what a step left stand for what is left of it
  pub left_stands : DisksStandFor files layout left new
  left_stands = record {
    laid = h.laid;
    primary = of_a are.primary;
    sites = λ node. of_site (site_at new node) (at next.backups node) (at left.backups node) (are.backups node) (h.sites node);
  }
