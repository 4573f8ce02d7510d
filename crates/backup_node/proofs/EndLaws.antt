-- How a line ended for each disk of a backup, and what its node's disks count once they are cut.
use Rattle.std.proofs.Common.{◌≡◌, inl, inr, ℕ, Bool, true, false, List, Result, Ok, Err, refl, ap, ◌∙◌, subst}
use Rattle.rdf_disk.specs.Files.{Disk}
use Rattle.rdf_disk.specs.Counts.{Counts, Ending, Causes}
use Rattle.rdf_disk.specs.Counts.Ending.{Fine, Stop, Fault}
use Rattle.rdf_disk.specs.declared.disk.Disk.{Ghosts}
use Rattle.node_faults.specs.declared.NodeFault.{NodeFault}
use Rattle.node_faults.specs.Faults.{ending_at}
use Rattle.node_faults.specs.Openings.{Rises}
use Rattle.rdf_backup.specs.declared.backup.Backup.{Backup}
use Rattle.rdf_backup.specs.States.{disks_in}
use Rattle.rdf_backup.specs.Replies.{CausedBy}
use Rattle.rdf_backup.specs.Beside.{MayEnd, CausedBeside}
use Rattle.node_disks.specs.Cuts.{Each, IsCut, AreCut}
use Rattle.node_disks.specs.Counting.{Tells}
use Rattle.node_disks.specs.CutLaws.{each_so, each_then, each_with}
use Rattle.node_disks.specs.PairLaws.{raised_cut, raised_fuses}
use Rattle.backup_node.specs.Nodes.{AreOn}
use Rattle.backup_node.proofs.StandLaws.{each_of}

-- a line with this answer may have ended so for each disk
abbrev pub MayEndFor : {T : Type 0} → Bool → Result T NodeFault → (ℕ → Ending) → Type 0
MayEndFor beside (Ok x) ends = (i : ℕ) → ends i ≡ Fine
MayEndFor beside (Err why) ends = MayEnd beside why ends

module _ {D T : Type 0} {d : Ghosts D} (counts : D → Counts) (beside : Bool) where
  -- the counts of each disk of a backup rose as the line ended for it
  abbrev pub HasCause : Result T NodeFault → Backup D d → Backup D d → Type 0
  HasCause r old new = (ends : ℕ → Ending) × (MayEndFor beside r ends × Each (λ i x y. Causes (ends i) (counts x) (counts y)) (disks_in old) (disks_in new))

  -- where only the disk that the answer names failed or stopped
  pub one_cause : (r : Result T NodeFault) (old new : Backup D d) → CausedBy counts r old new → HasCause r old new
  one_cause (Ok z) old new h = (λ i. Fine, (λ i. refl, each_of (λ i x y. Causes Fine (counts x) (counts y)) (disks_in old) (disks_in new) h))
  one_cause (Err why) old new h = (λ i. ending_at i why, (inl (λ i. refl), each_of (λ i x y. Causes (ending_at i why) (counts x) (counts y)) (disks_in old) (disks_in new) h))

  -- where several may have
  pub first_cause : beside ≡ true → (r : Result T NodeFault) (old new : Backup D d) → CausedBeside counts r old new → HasCause r old new
  first_cause so (Ok z) old new (ends, (fine, h)) = (ends, (fine, each_of (λ i x y. Causes (ends i) (counts x) (counts y)) (disks_in old) (disks_in new) h))
  first_cause so (Err why) old new (ends, (first, h)) = (ends, (inr (so, first), each_of (λ i x y. Causes (ends i) (counts x) (counts y)) (disks_in old) (disks_in new) h))

module _ {D : Type 0} (counts : D → Counts) (ends : ℕ → Ending) (xs ys : List D) (caused : Each (λ i x y. Causes (ends i) (counts x) (counts y)) xs ys) where
  -- a line that ended well for each disk leaves all counts
  pub all_fine : ((i : ℕ) → ends i ≡ Fine) → Each (λ i x y. counts y ≡ counts x) xs ys
  all_fine fine = each_so (λ i x y. Causes (ends i) (counts x) (counts y)) (λ i x y. counts y ≡ counts x) xs ys (λ i x y h. subst (λ e. Causes e (counts x) (counts y)) (fine i) h) caused

  -- disks that were on, and are cut behind it
  module _ (tells : Type 0) (files : D → Disk) (zs : List D) (cut : AreCut tells files counts ys zs) (on : AreOn counts xs) where
    rises : (e : Ending) (c m : Counts) → c.off ≡ false → Causes e c m → Rises e c m
    rises Fine c m off h = (ap (λ k. k.faults) h, ap (λ k. k.stops) h, ap (λ k. k.fuses) h)
    rises Stop c m off h = (h.faults, h.no_less, h.rose off, h.fuses)
    rises Fault c m off h = (h.no_less, h.rose, h.stops, h.fuses)

    raised : Each (λ i x y. Rises (ends i) (counts x) (counts y)) xs ys
    raised = each_with (λ i x y. Causes (ends i) (counts x) (counts y)) (λ i x y. Rises (ends i) (counts x) (counts y)) (λ i x. (counts x).off ≡ false) xs ys (λ i x y off h. rises (ends i) (counts x) (counts y) off h) on caused

    -- they count what the line told of them
    pub ends_tell : Each (λ i x z. Tells (ends i) (counts x) (counts z)) xs zs
    ends_tell = each_then (λ i x y. Rises (ends i) (counts x) (counts y)) (λ i y z. IsCut tells files counts y z) (λ i x z. Tells (ends i) (counts x) (counts z)) xs ys zs
        (λ i x y z h k. raised_cut (ends i) (counts x) (counts y) (counts z) h k.counts_are) raised cut

    -- they were given no fuse
    pub no_fuses : Each (λ i x z. (counts z).fuses ≡ (counts x).fuses) xs zs
    no_fuses = each_then (λ i x y. Rises (ends i) (counts x) (counts y)) (λ i y z. IsCut tells files counts y z) (λ i x z. (counts z).fuses ≡ (counts x).fuses) xs ys zs
        (λ i x y z h k. ap (λ c. c.fuses) k.counts_are ∙ raised_fuses (ends i) (counts x) (counts y) h) raised cut
