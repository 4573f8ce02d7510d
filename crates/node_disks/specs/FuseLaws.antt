-- Laws of fuses of the disks of a node.
use Rattle.std.proofs.Common.{◌≡◌, ℕ, ◌==◌, ◌<◌, Bool, true, false, if◌then◌else◌, List, length, IfSome, refl, sym, ap, ◌∙◌, subst}
use Rattle.std.specs.Prelude.{slice_get, get_or, set}
use Rattle.std.proofs.lemmas.Bool.{ne_eqb, eq-eqb}
use Rattle.rdf_disk.specs.Files.{Disk}
use Rattle.rdf_disk.specs.Calls.{Same}
use Rattle.rdf_disk.specs.Counts.{Counts, fused}
use Rattle.rdf_disk.specs.Counts.Ending.{Fine}
use Rattle.rdf_disk.specs.Outcomes.{Narrows}
use Rattle.rdf_disk.specs.OutcomeLaws.{narrows_same}
use Rattle.node_disks.specs.Cuts.{Each}
use Rattle.node_disks.specs.Counting.{Tells}
use Rattle.node_disks.specs.CutLaws.{each_so, each_after, each_put}

-- the counts of one disk after a fuse of it or of another
abbrev pub after_fuse : Bool → Counts → Counts
after_fuse b c = if b then fused c else c

off_same : (b : Bool) (c : Counts) → (after_fuse b c).off ≡ c.off
off_same true c = refl
off_same false c = refl

faults_same : (b : Bool) (c : Counts) → (after_fuse b c).faults ≡ c.faults
faults_same true c = refl
faults_same false c = refl

stops_same : (b : Bool) (c : Counts) → (after_fuse b c).stops ≡ c.stops
stops_same true c = refl
stops_same false c = refl

fuses_are : (b : Bool) (c : Counts) → (after_fuse b c).fuses ≡ (if b then (fused c).fuses else c.fuses)
fuses_are true c = refl
fuses_are false c = refl

module _ {D : Type 0} (counts : D → Counts) (disk : ℕ) where
  module _ (xs ys : List D) (h : Each (λ i x y. counts y ≡ after_fuse (i == disk) (counts x)) xs ys) where
    -- a fuse turns no disk off or on
    pub still_off : (b : Bool) → ((i : ℕ) → IfSome (slice_get xs i) (λ x. (counts x).off ≡ b)) → (i : ℕ) → IfSome (slice_get ys i) (λ x. (counts x).off ≡ b)
    still_off b on = each_after (λ i x y. counts y ≡ after_fuse (i == disk) (counts x)) (λ i x. (counts x).off ≡ b) (λ i x. (counts x).off ≡ b) xs ys (λ i x y k off. ap (λ c. c.off) k ∙ off_same (i == disk) (counts x) ∙ off) h on

    -- no fault and no stop is counted
    pub fuse_fine : Each (λ i x y. Tells Fine (counts x) (counts y)) xs ys
    fuse_fine = each_so (λ i x y. counts y ≡ after_fuse (i == disk) (counts x)) (λ i x y. Tells Fine (counts x) (counts y)) xs ys
        (λ i x y k. (ap (λ c. c.faults) k ∙ faults_same (i == disk) (counts x), ap (λ c. c.stops) k ∙ stops_same (i == disk) (counts x))) h

    -- the disk counts one fuse more, and the others as many as before
    pub fuse_raises : Each (λ i x y. (counts y).fuses ≡ (if i == disk then (fused (counts x)).fuses else (counts x).fuses)) xs ys
    fuse_raises = each_so (λ i x y. counts y ≡ after_fuse (i == disk) (counts x)) (λ i x y. (counts y).fuses ≡ (if i == disk then (fused (counts x)).fuses else (counts x).fuses)) xs ys
        (λ i x y k. ap (λ c. c.fuses) k ∙ fuses_are (i == disk) (counts x)) h

-- one disk that is given a fuse, among disks of a node that is down
module _ {D : Type 0} (counts : D → Counts) (xs : List D) (disk : ℕ) (w d : D) (there : disk < length xs) (is : d ≡ get_or xs disk d) where
  -- its counts are those of a fuse, and the others stay
  pub put_fused : counts w ≡ fused (counts d) → Each (λ i x y. counts y ≡ after_fuse (i == disk) (counts x)) xs (set xs disk w)
  put_fused h = each_put (λ i x y. counts y ≡ after_fuse (i == disk) (counts x)) xs disk w d there (λ i x other. ap (λ b. after_fuse b (counts x)) (sym (ne_eqb i disk other)))
      (subst (λ x. counts w ≡ after_fuse (disk == disk) (counts x)) is (h ∙ ap (λ b. after_fuse b (counts d)) (sym (eq-eqb disk disk refl))))

  -- no more may be left of any disk than before
  pub put_narrows : (files : D → Disk) → Same (files d) (files w) → Each (λ i x y. (m : ℕ) → Narrows (files x m) (files y m)) xs (set xs disk w)
  put_narrows files same = each_put (λ i x y. (m : ℕ) → Narrows (files x m) (files y m)) xs disk w d there (λ i x other m c k. k)
      (subst (λ x. (m : ℕ) → Narrows (files x m) (files w m)) is (λ m. narrows_same (files d m) (files w m) (same m)))
