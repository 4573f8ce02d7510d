-- Laws of a node whose disks could not be formatted.
use Rattle.std.proofs.Common.{◌≡◌, ℕ, suc, List, ◌∷◌, ◌++◌, length, map, Option, Some, IfSome, ap, refl, arith}
use Rattle.std.specs.Prelude.{slice_get}
use Rattle.std.specs.List.{AllByRecursion}
use Rattle.rdf_disk.specs.Files.{Disk}
use Rattle.rdf_disk.specs.Counts.{Counts, Causes}
use Rattle.rdf_gatelog.specs.declared.fault.LogFault.{LogFault}
use Rattle.rdf_volume.specs.declared.volume.Volume.{Volume}
use Rattle.rdf_volume.specs.Views.{disk_of}
use Rattle.node_faults.specs.declared.NodeFault.{NodeFault}
use Rattle.node_faults.specs.declared.Shut.{Shut}
use Rattle.node_faults.specs.Faults.{fault_at}
use Rattle.node_faults.specs.Openings.{IsNoDamage}
use Rattle.node_faults.specs.PairLaws.{no_damage}
use Rattle.node_disks.specs.Opening.{AreOpened, HasNotBegun, IsNotWhole}
use Rattle.node_disks.specs.OpeningLaws.{each_of_all, each_where, no_memory, first_named, first_told, whole_named, whole_told, pairs_begun, pairs_not_whole}
use Rattle.node_disks.specs.Formatting.{IsBlank, IsNewVolume, IsNotNew, IsNotFormatted}

-- each disk of these is blank, where the disks tell
pub all_blank : {D tells : Type 0} (files : D → Disk) (disks : List D) → (tells → AllByRecursion (λ d. IsBlank (files d)) disks) → (i : ℕ) → IfSome (slice_get disks i) (λ d. tells → IsBlank (files d))
all_blank {tells = tells} files disks blank = each_where tells (λ i d. IsBlank (files d)) disks (λ t. each_of_all (λ d. IsBlank (files d)) disks (blank t))

module _ {D : Type 0} (counts : D → Counts) (volumes : ℕ) (disks : List D) (shut : Shut D) where
  -- the first disk could not be formatted
  pub first_unformatted : HasNotBegun (IsNotNew counts) disks shut → IsNotFormatted counts volumes disks shut
  first_unformatted not = record {
    cause = pairs_begun (λ n e x y. Causes e (counts x) (counts y)) (λ n x. refl) (IsNotNew counts) disks shut (λ x y fault h. h.cause) not;
    named = first_named (IsNotNew counts) disks shut not (suc volumes) (omega arith);
    sound = first_told (IsNotNew counts) disks shut not (λ f. IsNoDamage (Some f)) no_memory (λ x y rest fault split h. no_damage 0 fault (fault_at 0 fault) refl h.sound);
  }

  -- one of the others could not be formatted, or there was no memory
  pub rest_unformatted : (tells : Type 0) (files : D → Disk) (a b : D) (xs : List D) (vs : List (Volume D)) (left : List D) (why : Option NodeFault) → disks ≡ a ∷ xs → length disks ≡ suc volumes → counts b ≡ counts a →
      AreOpened (λ n. IsNewVolume tells files counts) (λ n. IsNotNew counts) 0 xs vs left why → IsNotWhole b (map (λ volume. disk_of volume) vs ++ left) why shut → IsNotFormatted counts volumes disks shut
  rest_unformatted tells files a b xs vs left why split many same is not = record {
    cause = pairs_not_whole (λ n e x y. Causes e (counts x) (counts y)) (λ n x. refl) Opens Fails (λ volume. disk_of volume) (λ n x v h. h.counts_are) (λ n x y fault h. h.cause) disks xs a b vs left why shut split same is not;
    named = whole_named Opens Fails b xs vs left back why is shut not (suc volumes) (let more = ap (λ (l : List D). length l) split in omega (arith, many, more));
    sound = whole_told Opens Fails b xs vs left back why is shut not (λ f. IsNoDamage (Some f)) no_memory (λ i x y fault there h. no_damage (suc i) fault (fault_at (suc i) fault) refl h.sound);
  }
    where
      back : List D
      back = map (λ volume. disk_of volume) vs ++ left

      Opens : ℕ → D → Volume D → Type 0
      Opens n = IsNewVolume tells files counts

      Fails : ℕ → D → D → LogFault → Type 0
      Fails n = IsNotNew counts
