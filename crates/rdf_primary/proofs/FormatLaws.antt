-- A primary over blank disks.
use Rattle.std.proofs.Common.{◌≡◌, ℕ, zero, suc, ◌+◌, false, List, [], ◌∷◌, length, map, IfSome, sym, ap, subst, arith}
use Rattle.std.specs.Prelude.{slice_get}
use Rattle.std.specs.FinSet as set
use Rattle.std.specs.List.{AllByRecursion}
use Rattle.rdf_types.specs.declared.layout.Layout.{Layout}
use Rattle.rdf_types.specs.declared.records.Record.{Record}
use Rattle.rdf_disk.specs.Files.{Disk}
use Rattle.rdf_disk.specs.Counts.{Counts}
use Rattle.rdf_disk.specs.declared.disk.Disk.{Ghosts}
use Rattle.rdf_gatelog.specs.declared.fault.LogFault.{LogFault}
use Rattle.rdf_model.specs.Contents.{nothing}
use Rattle.rdf_model.specs.Trail.{open_in}
use Rattle.rdf_model.specs.Legal.{Legal}
use Rattle.audit_trail.specs.declared.trail.AuditTrail.{AuditTrail}
use Rattle.audit_trail.specs.InUse.{disk_of as trail_disk}
use Rattle.rdf_volume.specs.declared.volume.Volume.{Volume}
use Rattle.rdf_volume.specs.Views.{disk_of}
use Rattle.node_faults.specs.Openings.{IsCaused, AreOn}
use Rattle.node_disks.specs.declared.opening.Opening.{Opening}
use Rattle.node_disks.specs.Opening.{AreOpened}
use Rattle.node_disks.specs.OpeningLaws.{many_open, all_open, each_mapped, pairs_whole}
use Rattle.node_disks.specs.Formatting.{IsNewVolume, IsNotNew}
use Rattle.tmf_core.specs.declared.store.Store.{Store}
use Rattle.tmf_core.specs.Stores.{Shows, IsPlaced}
use Rattle.tmf_core.specs.declared.tmf.Tmf.{Tmf}
use Rattle.tmf_core.specs.States.{RunsWith}
use Rattle.tmf_core.specs.Disks.{disks_of}
use Rattle.rdf_primary.specs.declared.primary.Primary.{Primary}
use Rattle.rdf_primary.specs.Opening.{IsNewTrail, IsJoined}
use Rattle.rdf_primary.specs.Restarting.{IsFormatted}
use Rattle.rdf_primary.specs.StandingLaws.{running_stands}
use Rattle.rdf_primary.proofs.Answering.{state_is}
use Rattle.rdf_primary.proofs.OpeningLaws.{shows_none, joined_disks, joined_runs}

module _ {D : Type 0} {d : Ghosts D} (tells : Type 0) (files : D → Disk) (counts : D → Counts) (layout : Layout) (all rest : List D) (x : D) (split : all ≡ x ∷ rest) (many : length all ≡ layout.volumes + 1)
    (trail : AuditTrail D) (new : IsNewTrail tells files counts x trail) (o : Opening D (Volume D)) (is : AreOpened (λ n. IsNewVolume tells files counts) (λ n. IsNotNew counts) 0 rest o.opened.items o.left.items o.fault)
    (s : Tmf D d) (joined : IsJoined tells files trail o s) where
  abbrev Opens : ℕ → D → Volume D → Type 0
  Opens n = IsNewVolume tells files counts

  abbrev Fails : ℕ → D → D → LogFault → Type 0
  Fails n = IsNotNew counts

  abbrev p : Primary D d
  p = record { tmf = s }

  runs_with : tells → RunsWith files [] set.empty s
  runs_with t = subst (λ (l : List Record). RunsWith files l (open_in l) s) new.empty
      (joined_runs tells files trail o s joined t (new.in_use t) (new.alone t) (subst (λ l. Legal nothing l) (sym new.empty) tt) (subst (λ l. AllByRecursion (λ r. IsPlaced (length o.opened.items) r) l) (sym new.empty) tt)
      (λ v. subst (λ (l : List Record). IfSome (slice_get o.opened.items v) (λ volume. Shows files l v volume)) (sym new.empty)
      (all_open Opens Fails (λ v volume. Shows files [] v volume) rest o.opened.items o.left.items o.fault (λ i x v h. shows_none files i v (h.in_use t) h.rows h.restart) is v)))

  on : AreOn counts (trail_disk trail ∷ map (λ volume. disk_of volume) o.opened.items)
  on zero = new.on
  on (suc i) = each_mapped (λ volume. disk_of volume) (λ j disk. (counts disk).off ≡ false) o.opened.items (all_open Opens Fails (λ j volume. (counts (disk_of volume)).off ≡ false) rest o.opened.items o.left.items o.fault (λ j x v h. h.on) is) i

  -- it runs with an empty trail, over all disks
  pub formatted : IsFormatted tells files counts layout all p
  formatted =
      let disks = joined_disks tells files trail o s joined in
      record {
        state = λ t. state_is files p [] set.empty 0 (runs_with t);
        runs = λ t. (runs_with t).runs;
        up = joined.up;
        laid =
            let opened = many_open Opens Fails 0 rest o.opened.items o.left.items o.fault joined.no_fault is in
            let long = ap (λ (l : List D). length l) split in
            let store = ap (λ (t : Store D). length t.volumes.items) joined.store in
            omega (arith, many, opened, long, store);
        on = subst (λ (l : List D). AreOn counts l) (sym disks) on;
        stands = λ t. running_stands files p (runs_with t).runs;
        cause = pairs_whole Opens Fails (λ volume. disk_of volume) (IsCaused counts) (λ n x v h. h.counts_are) all rest (disks_of s.store.trail s.store.volumes.items) x (trail_disk trail) o.opened.items o.left.items o.fault split disks joined.no_fault new.counts_are is;
      }
