-- Laws of what disks count over calls and cuts.
use Rattle.std.proofs.Common.{◌≡◌, ℕ, ◌≤◌, true, false, List, Option, Some, None, IfSome, sym, ap, ◌∙◌, subst}
use Rattle.std.specs.Prelude.{slice_get}
use Rattle.rdf_types.specs.Counts.{Rose}
use Rattle.rdf_disk.specs.Files.{Disk}
use Rattle.rdf_disk.specs.Counts.{Counts, Ending, Causes, turned_off}
use Rattle.rdf_disk.specs.Counts.Ending.{Fine, Stop, Fault}
use Rattle.node_faults.specs.declared.NodeFault.{NodeFault}
use Rattle.node_faults.specs.Faults.{ending_at}
use Rattle.node_disks.specs.Cuts.{Each, IsCut, AreCut}
use Rattle.node_disks.specs.Counting.{Tells}
use Rattle.node_disks.specs.CutLaws.{each_then, each_so, each_with, each_after}

module _ {D : Type 0} (counts : D → Counts) where
  tells_cut : (e : Ending) (c m n : Counts) → c.off ≡ false → Causes e c m → n ≡ turned_off m → Tells e c n
  tells_cut Fine c m n on h is = (ap (λ k. k.faults) is ∙ ap (λ k. k.faults) h, ap (λ k. k.stops) is ∙ ap (λ k. k.stops) h)
  tells_cut Stop c m n on h is = (ap (λ k. k.faults) is ∙ h.faults, subst (λ s. c.stops ≤ s) (sym (ap (λ k. k.stops) is)) h.no_less, subst (λ s. Rose c.stops s) (sym (ap (λ k. k.stops) is)) (h.rose on))
  tells_cut Fault c m n on h is = (subst (λ s. c.faults ≤ s) (sym (ap (λ k. k.faults) is)) h.no_less, subst (λ s. Rose c.faults s) (sym (ap (λ k. k.faults) is)) h.rose, ap (λ k. k.stops) is ∙ h.stops)

  fuses_cut : (e : Ending) (c m n : Counts) → Causes e c m → n ≡ turned_off m → n.fuses ≡ c.fuses
  fuses_cut Fine c m n h is = ap (λ k. k.fuses) is ∙ ap (λ k. k.fuses) h
  fuses_cut Stop c m n h is = ap (λ k. k.fuses) is ∙ h.fuses
  fuses_cut Fault c m n h is = ap (λ k. k.fuses) is ∙ h.fuses

  -- a call that failed, and a cut after it
  module _ (tells : Type 0) (files : D → Disk) (why : NodeFault) (xs ys zs : List D) (caused : Each (λ i x y. Causes (ending_at i why) (counts x) (counts y)) xs ys) (cut : AreCut tells files counts ys zs) where
    both : Each (λ i x z. (m : Counts) × (Causes (ending_at i why) (counts x) m × (counts z ≡ turned_off m))) xs zs
    both = each_then (λ i x y. Causes (ending_at i why) (counts x) (counts y)) (λ i y z. IsCut tells files counts y z) (λ i x z. (m : Counts) × (Causes (ending_at i why) (counts x) m × (counts z ≡ turned_off m))) xs ys zs
        (λ i x y z h k. (counts y, (h, k.counts_are))) caused cut

    -- they count what the call told of them
    pub fails_cut : ((i : ℕ) → IfSome (slice_get xs i) (λ x. (counts x).off ≡ false)) → Each (λ i x z. Tells (ending_at i why) (counts x) (counts z)) xs zs
    fails_cut on = each_with (λ i x z. (m : Counts) × (Causes (ending_at i why) (counts x) m × (counts z ≡ turned_off m))) (λ i x z. Tells (ending_at i why) (counts x) (counts z)) (λ i x. (counts x).off ≡ false) xs zs
        (λ i x z off h. tells_cut (ending_at i why) (counts x) h.0 (counts z) off h.1.0 h.1.1) on both

    -- they were given no fuse
    pub fuses_stay : Each (λ i x z. (counts z).fuses ≡ (counts x).fuses) xs zs
    fuses_stay = each_so (λ i x z. (m : Counts) × (Causes (ending_at i why) (counts x) m × (counts z ≡ turned_off m))) (λ i x z. (counts z).fuses ≡ (counts x).fuses) xs zs
        (λ i x z h. fuses_cut (ending_at i why) (counts x) h.0 (counts z) h.1.0 h.1.1) both

  -- disks that are cut are off
  pub cut_off : (tells : Type 0) (files : D → Disk) (ys zs : List D) → AreCut tells files counts ys zs → (i : ℕ) → IfSome (slice_get zs i) (λ z. (counts z).off ≡ true)
  cut_off tells files ys zs cut = each_after (λ i y z. IsCut tells files counts y z) (λ i y. Unit {0}) (λ i z. (counts z).off ≡ true) ys zs (λ i y z h t. ap (λ k. k.off) h.counts_are) cut (λ i. unit_each (slice_get ys i))
    where
      unit_each : (o : Option D) → IfSome o (λ x. Unit {0})
      unit_each None = tt
      unit_each (Some x) = tt

  fine_is : (i : ℕ) (c m : Counts) → m ≡ c → Tells Fine c m
  fine_is i c m h = (ap (λ k. k.faults) h, ap (λ k. k.stops) h)

  -- a call that is done leaves all counts
  pub none_fails : (xs ys : List D) → Each (λ i x y. counts y ≡ counts x) xs ys → Each (λ i x y. Tells Fine (counts x) (counts y)) xs ys
  none_fails xs ys h = each_so (λ i x y. counts y ≡ counts x) (λ i x y. Tells Fine (counts x) (counts y)) xs ys (λ i x y k. fine_is i (counts x) (counts y) k) h

  -- and gives no disk a fuse
  pub none_fuses : (xs ys : List D) → Each (λ i x y. counts y ≡ counts x) xs ys → Each (λ i x y. (counts y).fuses ≡ (counts x).fuses) xs ys
  none_fuses xs ys h = each_so (λ i x y. counts y ≡ counts x) (λ i x y. (counts y).fuses ≡ (counts x).fuses) xs ys (λ i x y k. ap (λ c. c.fuses) k) h

  -- and each disk that is on stays on
  pub still_on : (xs ys : List D) → Each (λ i x y. counts y ≡ counts x) xs ys → ((i : ℕ) → IfSome (slice_get xs i) (λ x. (counts x).off ≡ false)) → (i : ℕ) → IfSome (slice_get ys i) (λ x. (counts x).off ≡ false)
  still_on xs ys h on = each_after (λ i x y. counts y ≡ counts x) (λ i x. (counts x).off ≡ false) (λ i x. (counts x).off ≡ false) xs ys (λ i x y k off. ap (λ c. c.off) k ∙ off) h on

  -- the counts of disks that are cut, which did not fail
  pub cut_fine : (tells : Type 0) (files : D → Disk) (xs ys : List D) → AreCut tells files counts xs ys → Each (λ i x y. Tells Fine (counts x) (counts y)) xs ys
  cut_fine tells files xs ys cut = each_so (λ i x y. IsCut tells files counts x y) (λ i x y. Tells Fine (counts x) (counts y)) xs ys (λ i x y h. (ap (λ k. k.faults) h.counts_are, ap (λ k. k.stops) h.counts_are)) cut

  -- a cut gives no disk a fuse
  pub cut_fuses : (tells : Type 0) (files : D → Disk) (xs ys : List D) → AreCut tells files counts xs ys → Each (λ i x y. (counts y).fuses ≡ (counts x).fuses) xs ys
  cut_fuses tells files xs ys cut = each_so (λ i x y. IsCut tells files counts x y) (λ i x y. (counts y).fuses ≡ (counts x).fuses) xs ys (λ i x y h. ap (λ k. k.fuses) h.counts_are) cut
