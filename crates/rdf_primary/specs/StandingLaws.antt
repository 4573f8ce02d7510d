-- Laws of what a primary stands for.
use Rattle.std.proofs.Common.{ℕ, zero, suc, List, IfSome, sym, ap, ◌∙◌, subst}
use Rattle.std.specs.Prelude.{slice_get}
use Rattle.std.specs.List.{AllByRecursion}
use Rattle.std.proofs.lemmas.List.{length-map}
use Rattle.std.proofs.lemmas.Option.{IfSome_then}
use Rattle.rdf_types.specs.declared.records.Record.{Record}
use Rattle.rdf_disk.specs.Files.{Disk, Contents}
use Rattle.rdf_disk.specs.Outcomes.{Durably}
use Rattle.rdf_disk.specs.declared.disk.Disk.{Ghosts}
use Rattle.audit_trail.specs.InUse.{disk_of as trail_disk}
use Rattle.audit_trail.specs.SpelledLaws.{trail_durable}
use Rattle.rdf_volume.specs.declared.volume.Volume.{Volume}
use Rattle.rdf_volume.specs.StandingLaws.{in_use_durably}
use Rattle.rdf_volume.specs.Views.{rows_of, restart_of, disk_of}
use Rattle.node_disks.specs.OpeningLaws.{each_mapped}
use Rattle.tmf_core.specs.Stores.{Shows, IsPlaced, StandsWithin}
use Rattle.tmf_core.specs.States.{tmf_trail}
use Rattle.rdf_core.specs.declared.events.Standing.{Standing}
use Rattle.rdf_core.specs.declared.events.Standing.TheVariants.{Up, Down, Lost}
use Rattle.rdf_primary.specs.declared.primary.Primary.{Primary}
use Rattle.rdf_primary.specs.States.{state_of, disks_in, IsRunning}
use Rattle.rdf_primary.specs.Standing.{DiskStandsFor, VolumeStandsFor}
use Rattle.rdf_primary.specs.Replies.{Stands}

-- a primary that runs durably stands for itself on its disks
pub running_stands : {D : Type 0} {d : Ghosts D} (files : D → Disk) (s : Primary D d) → IsRunning files s → Stands files s
running_stands {D = D} files s runs layout stops laid = record {
  trail = record {
    legal = runs.running.legal;
    placed = subst (λ n. AllByRecursion (λ r. IsPlaced n r) (tmf_trail s.tmf)) (sym laid) runs.stored.placed;
  };
  count = ap suc (length-map s.tmf.store.volumes.items (λ volume. disk_of volume) ∙ sym laid);
  disk = at;
}
  where
    shown : (v : ℕ) (volume : Volume D) → Shows files (tmf_trail s.tmf) v volume → Durably (files (disk_of volume)) (DiskStandsFor (state_of stops s) (suc v))
    shown v volume h = λ c may. (
      restart_of volume,
      (
        rows_of volume,
        (
          h.behind,
          h.stood,
          h.shows,
          in_use_durably files volume h.in_use c may,
        ),
      ),
    )

    at : (i : ℕ) → IfSome (slice_get (disks_in s) i) (λ d. Durably (files d) (DiskStandsFor (state_of stops s) i))
    at zero = trail_durable s.tmf.store.trail.log.end (tmf_trail s.tmf) (files (trail_disk s.tmf.store.trail)) runs.stored.in_use.log runs.stored.in_use.records runs.stored.alone
    at (suc v) = each_mapped (λ volume. disk_of volume) (λ i d. Durably (files d) (DiskStandsFor (state_of stops s) (suc i))) s.tmf.store.volumes.items (λ i. IfSome_then (slice_get s.tmf.store.volumes.items i) (runs.stored.volume i) (shown i)) v

-- what stands for a volume of a primary that is up stands for one of a primary that is not
pub stands_off : (s : Standing) (v : ℕ) (trail : List Record) (c : Contents) → VolumeStandsFor s v trail c → StandsWithin v trail c
stands_off Up v trail c (p, (rows, (behind, stood, now, stands))) = (p, (rows, (behind, stood, stands)))
stands_off Down v trail c h = h
stands_off Lost v trail c h = h
