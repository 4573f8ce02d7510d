-- What the disks of a primary that is cut stand for.
use Rattle.std.proofs.Common.{◌≡◌, ℕ, zero, suc, ◌≤◌, List, sym, ◌∙◌, subst, arith}
use Rattle.rdf_types.specs.declared.layout.Layout.{Layout}
use Rattle.rdf_types.specs.declared.records.Record.{Record}
use Rattle.rdf_disk.specs.Files.{Disk, Contents}
use Rattle.rdf_disk.specs.Counts.{Counts}
use Rattle.rdf_disk.specs.Outcomes.{Durably, Narrows}
use Rattle.rdf_disk.specs.OutcomeLaws.{durably_narrows}
use Rattle.audit_trail.specs.Spelled.{Spells}
use Rattle.tmf_core.specs.Stores.{StandsWithin}
use Rattle.rdf_core.specs.Primary.{Primary as State}
use Rattle.rdf_primary.specs.StandingLaws.{stands_off}
use Rattle.rdf_primary.specs.Standing.{IsTrailOf, VolumeStandsFor, DiskStandsFor, PrimaryStandsFor, SomeStandsFor}
use Rattle.primary_node.specs.Cuts.{Each, IsCut, AreCut}
use Rattle.node_disks.specs.CutLaws.{held, held_before, held_after}
pub use Rattle.node_disks.specs.CutLaws.{same_length, each_then, each_so, each_same, each_after, each_with, each_put, where_there, cut_narrows}

-- the disks of a primary that goes down, where no more may be left of them than before
module _ {D : Type 0} (files : D → Disk) (layout : Layout) (a b : State) (old new : List D) (same : b.trail ≡ a.trail) (off : (v : ℕ) (c : Contents) → StandsWithin v b.trail c → VolumeStandsFor b.standing v b.trail c) where
  disk_off : (i : ℕ) (c : Contents) → DiskStandsFor a i c → DiskStandsFor b i c
  disk_off zero c h = subst (λ (t : List Record). Spells t c) (sym same) h
  disk_off (suc v) c h = off v c (subst (λ (t : List Record). StandsWithin v t c) (sym same) (stands_off a.standing v a.trail c h))

  pub goes_off : Each (λ i x y. (m : ℕ) → Narrows (files x m) (files y m)) old new → PrimaryStandsFor files layout a old → PrimaryStandsFor files layout b new
  goes_off narrow h = record {
    trail = subst (λ (t : List Record). IsTrailOf layout t) (sym same) h.trail;
    count = same_length (λ i x y. (m : ℕ) → Narrows (files x m) (files y m)) old new narrow ∙ h.count;
    disk = each_after (λ i x y. (m : ℕ) → Narrows (files x m) (files y m)) (λ i d. Durably (files d) (DiskStandsFor a i)) (λ i d. Durably (files d) (DiskStandsFor b i)) old new
        (λ i x y narrows stands c may. disk_off i c (durably_narrows (DiskStandsFor a i) (files x) (files y) stands narrows c may)) narrow h.disk;
  }

-- disks of which no more may be left than before go on to stand for it
pub still_stands : {D : Type 0} (files : D → Disk) (layout : Layout) (a : State) (old new : List D) → Each (λ i x y. (m : ℕ) → Narrows (files x m) (files y m)) old new → PrimaryStandsFor files layout a old → PrimaryStandsFor files layout a new
still_stands files layout a old new narrow h = record {
  trail = h.trail;
  count = same_length (λ i x y. (m : ℕ) → Narrows (files x m) (files y m)) old new narrow ∙ h.count;
  disk = each_after (λ i x y. (m : ℕ) → Narrows (files x m) (files y m)) (λ i d. Durably (files d) (DiskStandsFor a i)) (λ i d. Durably (files d) (DiskStandsFor a i)) old new
      (λ i x y narrows stands c may. durably_narrows (DiskStandsFor a i) (files x) (files y) stands narrows c may) narrow h.disk;
}

-- disks that are cut
module _ {D : Type 0} (tells : Type 0) (files : D → Disk) (counts : D → Counts) (yes : tells) (old new : List D) (cut : AreCut tells files counts old new) where
  -- what may be left of them stands for one of these, and so does what is left
  pub some_left : (layout : Layout) (most : ℕ) (states : ℕ → State) → SomeStandsFor files layout most states old → (n : ℕ) × ((n ≤ most) × PrimaryStandsFor files layout (states n) new)
  some_left layout most states s =
      let f = s.some (held tells files counts yes old new cut) (held_before tells files counts yes old new cut) in
      let many = same_length (λ i x y. IsCut tells files counts x y) old new cut ∙ s.count in (
        f.0,
        (
          f.1.0,
          record {
            trail = f.1.1.trail;
            count = many;
            disk = λ i. where_there new i (λ d. Durably (files d) (DiskStandsFor (states f.0) i)) (λ few. held_after tells files counts yes old new cut i (DiskStandsFor (states f.0) i) (f.1.1.disk i (omega (arith, few, many))));
          },
        ),
      )
