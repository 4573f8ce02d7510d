-- What is left of a disk on which a volume isn't made.
use Rattle.std.proofs.Common.{◌≡◌, inl, inr, ⊎_elim, ℕ, List, [], Some, None, Ok, sym, ◌∙◌}
use Rattle.std.specs.FinMap.{empty}
use Rattle.rdf_disk.specs.Files.{Disk}
use Rattle.rdf_disk.specs.Outcomes.{Durably, Narrows}
use Rattle.rdf_codec.specs.declared.volume_blocks.VolumeBlock.TheVariants as block
use Rattle.rdf_codec.specs.VolumeReading.{volume_block_of}
use Rattle.rdf_gatelog.specs.Logs.{Logs, Reads, Rests, ReadsEither, no_logs, with_log, pushed}
use Rattle.rdf_gatelog.specs.RestLaws.{with_same, with_other, rests_durably}
use Rattle.rdf_volume.specs.Standing.{WasOrBegun}
use Rattle.rdf_volume.specs.StandingLaws.{stands_alone}
use Rattle.rdf_volume.proofs.StageLaws.{pushed_other}
use Rattle.rdf_volume.proofs.StepLaws.{first_stage}

abbrev begun : Logs
begun = with_log no_logs 0 (Some [])

-- nothing was done yet
pub was_so : (old new : Disk) → ((m : ℕ) → Narrows (old m) (new m)) → Durably new (WasOrBegun old)
was_so old new narrow c may = inl (λ m. narrow m (c m) (may m))

-- the file was to be made
pub file_either : (old new : Disk) → ((m : ℕ) → (old m).seen ≡ None) → Durably new (ReadsEither no_logs begun) → Durably new (WasOrBegun old)
file_either old new blank durably c may = ⊎_elim
    (λ (before : Reads no_logs c). inl (λ m. inl (before m ∙ sym (blank m))))
    (λ (after : Reads begun c). inr (inl after))
    (durably c may)

-- the file is made
pub file_made : (old new : Disk) → Rests begun new → Durably new (WasOrBegun old)
file_made old new rests c may = inr (inl (rests_durably begun new rests c may))

-- the end of the base was to be appended
pub base_either : (old new : Disk) (p : List ℕ) → volume_block_of p ≡ Ok (block.End 0 0 0) → Durably new (ReadsEither begun (pushed begun 0 p)) → Durably new (WasOrBegun old)
base_either old new p spelled durably c may = ⊎_elim
    (λ (before : Reads begun c). inr (inl before))
    (λ (after : Reads (pushed begun 0 p) c). inr (inr (
      0,
      (
        0,
        (
          pushed begun 0 p,
          after,
          stands_alone (pushed begun 0 p) 0 empty 0 0
              (first_stage begun 0 p spelled (with_same no_logs 0 (Some [])))
              (λ m apart. pushed_other begun 0 p m apart ∙ with_other no_logs 0 (Some []) m apart),
        ),
      ),
    )))
    (durably c may)
