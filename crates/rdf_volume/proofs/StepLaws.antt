-- The durable steps of a volume's disk.
use Rattle.std.proofs.Common.{◌≡◌, ◌≢◌, inl, inr, ⊎_elim, ℕ, ◌+◌, ◌-◌, ◌^◌, min, true, false, List, [], ◌∷◌, ◌++◌, Option, Some, None, Ok, refl, sym, ◌∙◌, ap, subst, arith}
use Rattle.std.proofs.lemmas.Bool.{cases_eq}
use Rattle.std.specs.FinMap.{empty}
use Rattle.rdf_types.specs.declared.records.Change.{Change}
use Rattle.rdf_disk.specs.Files.{Disk, Contents, settled}
use Rattle.rdf_disk.specs.Outcomes.{Durably}
use Rattle.rdf_disk.specs.Calls.{Synced}
use Rattle.rdf_codec.specs.declared.volume_blocks.VolumeBlock.TheVariants as block
use Rattle.rdf_codec.specs.VolumeReading.{volume_block_of}
use Rattle.rdf_model.specs.Volumes.{Rows}
use Rattle.rdf_gatelog.specs.Logs.{Logs, Reads, Rests, RestsAt, ReadsEither, IsOpenIn, no_logs, payloads_at, with_log, pushed, pushed_all}
use Rattle.rdf_gatelog.specs.RestLaws.{with_same, with_other}
use Rattle.rdf_volume.specs.Base.{Kept, IsBeforeBase, IsUnderWay, IsReplaced, GoesOn}
use Rattle.rdf_volume.specs.Changes.{changed}
use Rattle.rdf_volume.specs.InUse.{IsInUse, counted}
use Rattle.rdf_volume.specs.Stages.{Complete, unread, stage_of, stage_at, is_building, is_misplaced}
use Rattle.rdf_volume.specs.Standing.{IsStanding, StandsFor, StandsForEither}
use Rattle.rdf_volume.specs.StandingLaws.{stands_alone}
use Rattle.rdf_volume.proofs.TableLaws.{no_rows}
use Rattle.rdf_volume.proofs.StageLaws.{stage_pushed, batch_pushed, pushed_other, stage_filled, filled_other}

next_differs : (k : ℕ) → k + 1 ≢ k
next_differs k = omega arith

-- a file with a base that isn't complete behind it
stands_before : (logs : Logs) (file : ℕ) (rows : Rows) (restart batches : ℕ) → stage_at (logs file) ≡ Complete rows restart batches
    → is_building (stage_at (logs (file + 1))) ≡ true → ((m : ℕ) → m ≢ file → m ≢ file + 1 → logs m ≡ None) → IsStanding logs file rows restart batches
stands_before logs file rows restart batches this building alone = record { other = file + 1; this = this; beside = inl (refl, building); alone = alone }

-- a file with an old one before it
stands_behind : (logs : Logs) (file : ℕ) (rows : Rows) (restart batches : ℕ) → stage_at (logs (file + 1)) ≡ Complete rows restart batches
    → is_misplaced (stage_at (logs file)) ≡ false → ((m : ℕ) → m ≢ file → m ≢ file + 1 → logs m ≡ None) → IsStanding logs (file + 1) rows restart batches
stands_behind logs file rows restart batches this placed alone = record { other = file; this = this; beside = inr (refl, placed); alone = λ m apart other. alone m other apart }

one_more : (batches number : ℕ) → batches ≡ counted number → min (batches + 1) (2 ^ 32 - 1) ≡ counted (number + 1)
one_more batches number is = omega arith

-- a batch
module _ (old new : Disk) (file end : ℕ) (rows : Rows) (restart batches : ℕ) (batch : List Change) (point : ℕ) (p : List ℕ) (spelled : volume_block_of p ≡ Ok (block.Batch point batch)) (u : IsInUse old file end rows restart batches) where
  this : stage_at (pushed u.logs file p file) ≡ Complete (changed rows batch) point (u.number + 1)
  this = batch_pushed u.logs file p rows restart u.number point batch spelled u.this

  alone : (m : ℕ) → m ≢ file → pushed u.logs file p m ≡ None
  alone m apart = pushed_other u.logs file p m apart ∙ u.alone m apart

  abbrev in_file : (new_end : ℕ) → Rests (pushed u.logs file p) new × IsOpenIn (pushed u.logs file p) file new_end → IsInUse new file new_end (changed rows batch) point (min (batches + 1) (2 ^ 32 - 1))
  in_file new_end r = record {
    logs = pushed u.logs file p;
    rests = r.0;
    log = r.1;
    number = u.number + 1;
    this = this;
    batches_are = one_more batches u.number u.batches_are;
    alone = alone;
  }

  goes_on : (payloads : List (List ℕ)) → pushed u.logs file p file ≡ Some payloads → GoesOn u.log.payloads payloads
  goes_on payloads there = record {
    more = p ∷ [];
    after_is = one_list (sym there ∙ with_same u.logs file (Some (payloads_at (u.logs file) ++ p ∷ [])) ∙ ap (λ (x : Option (List (List ℕ))). Some (payloads_at x ++ p ∷ [])) u.log.there);
  }
    where
      one_list : {xs ys : List (List ℕ)} → Some xs ≡ Some ys → xs ≡ ys
      one_list e = cc

  pub batch_in_use : (new_file new_end : ℕ) → new_file ≡ file → Rests (pushed u.logs file p) new × IsOpenIn (pushed u.logs file p) file new_end
      → (w : IsInUse new new_file new_end (changed rows batch) point (min (batches + 1) (2 ^ 32 - 1))) × GoesOn u.log.payloads w.log.payloads
  batch_in_use new_file new_end same r =
      subst (λ (n : ℕ). (w : IsInUse new n new_end (changed rows batch) point (min (batches + 1) (2 ^ 32 - 1))) × GoesOn u.log.payloads w.log.payloads) (sym same) (in_file new_end r, goes_on r.1.payloads r.1.there)

  pub batch_either : Durably new (ReadsEither u.logs (pushed u.logs file p)) → Durably new (StandsForEither rows restart (changed rows batch) point)
  batch_either durably c may = ⊎_elim
      (λ (before : Reads u.logs c). inl (file, (u.number, (u.logs, before, stands_alone u.logs file rows restart u.number u.this u.alone))))
      (λ (after : Reads (pushed u.logs file p) c). inr (file, (u.number + 1, (pushed u.logs file p, after, stands_alone (pushed u.logs file p) file (changed rows batch) point (u.number + 1) this alone))))
      (durably c may)

-- a disk without files, after a sync
pub blank_rests : (old new : Disk) → ((m : ℕ) → (old m).seen ≡ None) → Synced old new → Rests no_logs new
blank_rests old new blank synced m = synced m ∙ ap settled (blank m)

-- an End alone is a base without rows
pub first_stage : (logs : Logs) (file : ℕ) (p : List ℕ) → volume_block_of p ≡ Ok (block.End 0 0 0) → logs file ≡ Some [] → stage_at (pushed logs file p file) ≡ Complete empty 0 0
first_stage logs file p spelled was =
    stage_pushed logs file p (block.End 0 0 0) unread spelled (ap stage_at was) ∙ ap (λ (rows : Rows). Complete rows 0 0) no_rows

-- the first base, in file 0
pub first_in_use : (new : Disk) (end : ℕ) (p : List ℕ) → volume_block_of p ≡ Ok (block.End 0 0 0)
    → Rests (pushed (with_log no_logs 0 (Some [])) 0 p) new × IsOpenIn (pushed (with_log no_logs 0 (Some [])) 0 p) 0 end → IsInUse new 0 end empty 0 0
first_in_use new end p spelled r = record {
  logs = pushed (with_log no_logs 0 (Some [])) 0 p;
  rests = r.0;
  log = r.1;
  number = 0;
  this = first_stage (with_log no_logs 0 (Some [])) 0 p spelled (with_same no_logs 0 (Some []));
  batches_are = refl;
  alone = λ m apart. pushed_other (with_log no_logs 0 (Some [])) 0 p m apart ∙ with_other no_logs 0 (Some []) m apart;
}

-- a new base is begun
module _ (old new : Disk) (file end : ℕ) (rows : Rows) (restart batches : ℕ) (u : IsInUse old file end rows restart batches) where
  this_started : stage_at (with_log u.logs (file + 1) (Some []) file) ≡ Complete rows restart u.number
  this_started = ap stage_at (with_other u.logs (file + 1) (Some []) file (λ e. next_differs file (sym e))) ∙ u.this

  none_started : with_log u.logs (file + 1) (Some []) (file + 1) ≡ Some []
  none_started = with_same u.logs (file + 1) (Some [])

  alone_started : (m : ℕ) → m ≢ file → m ≢ file + 1 → with_log u.logs (file + 1) (Some []) m ≡ None
  alone_started m apart other = with_other u.logs (file + 1) (Some []) m other ∙ u.alone m apart

  pub rests_behind : old (file + 1) ≡ settled None
  rests_behind = subst (λ (x : Option (List (List ℕ))). RestsAt (file + 1) x old) (u.alone (file + 1) (next_differs file)) (u.rests (file + 1))

  abbrev way : (new_end : ℕ) → Rests (with_log u.logs (file + 1) (Some [])) new × IsOpenIn (with_log u.logs (file + 1) (Some [])) (file + 1) new_end
      → IsUnderWay new new_end (record { file = file; rows = rows; restart = restart })
  way new_end r = record {
    logs = with_log u.logs (file + 1) (Some []);
    before = record { batches = u.number; this = this_started; none = none_started; alone = alone_started };
    rests = r;
  }

  pub started : (new_end : ℕ) → Rests (with_log u.logs (file + 1) (Some [])) new × IsOpenIn (with_log u.logs (file + 1) (Some [])) (file + 1) new_end
      → (w : IsUnderWay new new_end (record { file = file; rows = rows; restart = restart })) × (w.logs file ≡ u.logs file)
  started new_end r = (way new_end r, with_other u.logs (file + 1) (Some []) file (λ e. next_differs file (sym e)))

  pub start_either : Durably new (ReadsEither u.logs (with_log u.logs (file + 1) (Some []))) → Durably new (StandsFor rows restart)
  start_either durably c may = ⊎_elim
      (λ (before : Reads u.logs c). (file, (u.number, (u.logs, before, stands_alone u.logs file rows restart u.number u.this u.alone))))
      (λ (after : Reads (with_log u.logs (file + 1) (Some [])) c). (
        file,
        (
          u.number,
          (
            with_log u.logs (file + 1) (Some []),
            after,
            stands_before (with_log u.logs (file + 1) (Some [])) file rows restart u.number this_started (ap (λ (x : Option (List (List ℕ))). is_building (stage_at x)) none_started) alone_started,
          ),
        ),
      ))
      (durably c may)

-- while the base is written its disk stands for what was
pub before_base_reads : (logs : Logs) (kept : Kept) (w : IsBeforeBase logs kept) (c : Contents) → Reads logs c → StandsFor kept.rows kept.restart c
before_base_reads logs kept w c reads =
    (kept.file, (w.batches, (logs, reads, stands_before logs kept.file kept.rows kept.restart w.batches w.this (ap (λ (x : Option (List (List ℕ))). is_building (stage_at x)) w.none) w.alone)))

-- a whole base in the log behind the old file
module _ (logs : Logs) (kept : Kept) (w : IsBeforeBase logs kept) (payloads : List (List ℕ)) (whole : stage_of payloads ≡ Complete kept.rows kept.restart 0) where
  abbrev filled : Logs
  filled = pushed_all logs (kept.file + 1) payloads

  this_stays : stage_at (filled kept.file) ≡ Complete kept.rows kept.restart w.batches
  this_stays = ap stage_at (filled_other logs (kept.file + 1) payloads kept.file (λ e. next_differs kept.file (sym e))) ∙ w.this

  alone_stays : (m : ℕ) → m ≢ kept.file → m ≢ kept.file + 1 → filled m ≡ None
  alone_stays m apart other = filled_other logs (kept.file + 1) payloads m other ∙ w.alone m apart other

  base_ends : stage_at (filled (kept.file + 1)) ≡ Complete kept.rows kept.restart 0
  base_ends = stage_filled logs (kept.file + 1) payloads w.none ∙ whole

  pub base_replaced : (new : Disk) (end : ℕ) → Rests filled new × IsOpenIn filled (kept.file + 1) end → IsReplaced new end kept
  base_replaced new end r = record {
    logs = filled;
    rests = r.0;
    log = r.1;
    this = base_ends;
    old = ap is_misplaced this_stays;
    alone = alone_stays;
  }

  pub base_payloads : (new : Disk) (end : ℕ) (r : Rests filled new × IsOpenIn filled (kept.file + 1) end) → (base_replaced new end r).log.payloads ≡ r.1.payloads
  unfolding base_replaced
  base_payloads new end r = refl

  pub base_stands : (c : Contents) → Reads filled c → StandsFor kept.rows kept.restart c
  base_stands c after =
      (kept.file + 1, (0, (filled, after, stands_behind filled kept.file kept.rows kept.restart 0 base_ends (ap is_misplaced this_stays) alone_stays)))

-- the old file is dropped
module _ (old new : Disk) (end : ℕ) (kept : Kept) (w : IsReplaced old end kept) where
  this_kept : stage_at (with_log w.logs kept.file None (kept.file + 1)) ≡ Complete kept.rows kept.restart 0
  this_kept = ap stage_at (with_other w.logs kept.file None (kept.file + 1) (next_differs kept.file)) ∙ w.this

  alone_now : (m : ℕ) → m ≢ kept.file + 1 → with_log w.logs kept.file None m ≡ None
  alone_now m apart = elim (cases_eq m kept.file) [
    | inl same ↦ ap (with_log w.logs kept.file None) same ∙ with_same w.logs kept.file None
    | inr other ↦ with_other w.logs kept.file None m other ∙ w.alone m other apart
  ]

  abbrev in_use : Rests (with_log w.logs kept.file None) new → IsInUse new (kept.file + 1) end kept.rows kept.restart 0
  in_use rests = record {
    logs = with_log w.logs kept.file None;
    rests = rests;
    log = record {
      payloads = w.log.payloads;
      there = with_other w.logs kept.file None (kept.file + 1) (next_differs kept.file) ∙ w.log.there;
      end_is = w.log.end_is;
    };
    number = 0;
    this = this_kept;
    batches_are = refl;
    alone = alone_now;
  }

  pub dropped : Rests (with_log w.logs kept.file None) new → (u : IsInUse new (kept.file + 1) end kept.rows kept.restart 0) × (u.log.payloads ≡ w.log.payloads)
  dropped rests = (in_use rests, refl)

  pub drop_either : Durably new (ReadsEither w.logs (with_log w.logs kept.file None)) → Durably new (StandsFor kept.rows kept.restart)
  drop_either durably c may = ⊎_elim
      (λ (before : Reads w.logs c). (kept.file + 1, (0, (w.logs, before, stands_behind w.logs kept.file kept.rows kept.restart 0 w.this w.old w.alone))))
      (λ (after : Reads (with_log w.logs kept.file None) c). (
        kept.file + 1,
        (
          0,
          (
            with_log w.logs kept.file None,
            after,
            stands_alone (with_log w.logs kept.file None) (kept.file + 1) kept.rows kept.restart 0 this_kept alone_now,
          ),
        ),
      ))
      (durably c may)
