-- What one block more makes of a file, and a base alone.
use Rattle.std.proofs.Common.{◌≡◌, ◌≢◌, ℕ, ◌+◌, Bool, true, false, List, [], ◌∷◌, ◌++◌, length, Option, Some, None, Result, Ok, Err, refl, sym, ◌∙◌, ap}
use Rattle.std.proofs.lemmas.Bool.{true≢false}
use Rattle.std.proofs.lemmas.List.{append-nil, append_assoc}
use Rattle.rdf_types.specs.declared.records.Row.{Row}
use Rattle.rdf_types.specs.declared.records.Change.{Change}
use Rattle.rdf_codec.specs.declared.fault.CodecFault.{CodecFault}
use Rattle.rdf_codec.specs.declared.index_entries.IndexEntry.{IndexEntry}
use Rattle.rdf_codec.specs.declared.volume_blocks.VolumeBlock.{VolumeBlock}
use Rattle.rdf_codec.specs.declared.volume_blocks.VolumeBlock.TheVariants as block
use Rattle.rdf_codec.specs.VolumeReading.{volume_block_of}
use Rattle.rdf_gatelog.specs.Log.{open_blocks}
use Rattle.rdf_gatelog.specs.Logs.{Logs, payloads_at, pushed, pushed_all}
use Rattle.rdf_gatelog.specs.RestLaws.{with_same, with_other}
use Rattle.rdf_model.specs.Rows.{row_map}
use Rattle.rdf_model.specs.Volumes.{Rows}
use Rattle.keyed_blocks.specs.Bases as bases
use Rattle.keyed_blocks.specs.Bases.{Base, Goes, Ends, base_after, base_of, nothing_yet}
use Rattle.rdf_volume.specs.Changes.{changed}
use Rattle.rdf_volume.specs.Stages.{Stage, Building, Complete, Misplaced, stage_in_base, next, after_block, after_payload, stage_after, unread, stage_of, stage_at, is_building, is_misplaced}

-- ---- one block more, and more of them

pub stage_after-append : (before : List (List ℕ)) (s : Stage) (ps qs : List (List ℕ)) → stage_after before s (ps ++ qs) ≡ stage_after (before ++ ps) (stage_after before s ps) qs
stage_after-append before s [] qs = ap (λ (b : List (List ℕ)). stage_after b s qs) (sym (append-nil before))
stage_after-append before s (p ∷ ps) qs =
    stage_after-append (before ++ p ∷ []) (after_payload before s p) ps qs
    ∙ ap (λ (b : List (List ℕ)). stage_after b (stage_after (before ++ p ∷ []) (after_payload before s p) ps) qs) (append_assoc before (p ∷ []) ps)

pub stage_of-append : (ps qs : List (List ℕ)) → stage_of (ps ++ qs) ≡ stage_after ps (stage_of ps) qs
stage_of-append ps qs = stage_after-append [] unread ps qs

pub stage_of-push : (ps : List (List ℕ)) (p : List ℕ) → stage_of (ps ++ p ∷ []) ≡ after_payload ps (stage_of ps) p
stage_of-push ps p = stage_of-append ps (p ∷ [])

-- the block that a payload spells
pub stage_of-block : (ps : List (List ℕ)) (p : List ℕ) (s : Stage) (b : VolumeBlock) → stage_of ps ≡ s → volume_block_of p ≡ Ok b → stage_of (ps ++ p ∷ []) ≡ next (length (open_blocks ps)) s b
stage_of-block ps p s b was spelled =
    stage_of-push ps p
    ∙ ap (λ (t : Stage). after_payload ps t p) was
    ∙ ap (λ (r : Result VolumeBlock CodecFault). after_block (length (open_blocks ps)) s r) spelled

-- a payload that spells no block
pub stage_of-none : (ps : List (List ℕ)) (p : List ℕ) (e : CodecFault) → volume_block_of p ≡ Err e → stage_of (ps ++ p ∷ []) ≡ Misplaced
stage_of-none ps p e spelled =
    stage_of-push ps p ∙ ap (λ (r : Result VolumeBlock CodecFault). after_block (length (open_blocks ps)) (stage_of ps) r) spelled

-- behind a block that isn't in its place nothing is
pub stays_misplaced : (before ps : List (List ℕ)) → stage_after before Misplaced ps ≡ Misplaced
stays_misplaced before [] = refl
stays_misplaced before (p ∷ ps) = ap (λ (s : Stage). stage_after (before ++ p ∷ []) s ps) (still (volume_block_of p)) ∙ stays_misplaced (before ++ p ∷ []) ps
  where
    still : (r : Result VolumeBlock CodecFault) → after_block (length (open_blocks before)) Misplaced r ≡ Misplaced
    still (Ok b) = refl
    still (Err e) = refl

-- ---- the logs of a disk

pub stage_of-payloads : (x : Option (List (List ℕ))) → stage_of (payloads_at x) ≡ stage_at x
stage_of-payloads None = refl
stage_of-payloads (Some ps) = refl

-- the file that gets a block
pub stage_pushed : (logs : Logs) (file : ℕ) (p : List ℕ) (b : VolumeBlock) (s : Stage) → volume_block_of p ≡ Ok b → stage_at (logs file) ≡ s
    → stage_at (pushed logs file p file) ≡ next (length (open_blocks (payloads_at (logs file)))) s b
stage_pushed logs file p b s spelled was =
    ap stage_at (with_same logs file (Some (payloads_at (logs file) ++ p ∷ [])))
    ∙ stage_of-block (payloads_at (logs file)) p s b (stage_of-payloads (logs file) ∙ was) spelled

-- a batch behind a complete base, wherever it stands
pub batch_pushed : (logs : Logs) (file : ℕ) (p : List ℕ) (rows : Rows) (point batches restart : ℕ) (batch : List Change) → volume_block_of p ≡ Ok (block.Batch restart batch)
    → stage_at (logs file) ≡ Complete rows point batches → stage_at (pushed logs file p file) ≡ Complete (changed rows batch) restart (batches + 1)
batch_pushed logs file p rows point batches restart batch spelled was = stage_pushed logs file p (block.Batch restart batch) (Complete rows point batches) spelled was

-- every other file
pub pushed_other : (logs : Logs) (file : ℕ) (p : List ℕ) (m : ℕ) → m ≢ file → pushed logs file p m ≡ logs m
pushed_other logs file p m apart = with_other logs file (Some (payloads_at (logs file) ++ p ∷ [])) m apart

-- a file without blocks has these alone
pub filled_with : (logs : Logs) (file : ℕ) (more : List (List ℕ)) → logs file ≡ Some [] → pushed_all logs file more file ≡ Some more
filled_with logs file more was =
    with_same logs file (Some (payloads_at (logs file) ++ more)) ∙ ap (λ (x : Option (List (List ℕ))). Some (payloads_at x ++ more)) was

-- the file without blocks that gets all of these
pub stage_filled : (logs : Logs) (file : ℕ) (more : List (List ℕ)) → logs file ≡ Some [] → stage_at (pushed_all logs file more file) ≡ stage_of more
stage_filled logs file more was =
    ap stage_at (with_same logs file (Some (payloads_at (logs file) ++ more)))
    ∙ ap (λ (x : Option (List (List ℕ))). stage_of (payloads_at x ++ more)) was

pub filled_other : (logs : Logs) (file : ℕ) (more : List (List ℕ)) (m : ℕ) → m ≢ file → pushed_all logs file more m ≡ logs m
filled_other logs file more m apart = with_other logs file (Some (payloads_at (logs file) ++ more)) m apart

-- ---- a base alone

-- behind what isn't a base no blocks make one
pub base_lost : (before ps : List (List ℕ)) → base_after before bases.Misplaced ps ≡ bases.Misplaced
base_lost before [] = refl
base_lost before (p ∷ ps) = base_lost (before ++ p ∷ []) ps

base_ended : (before ps : List (List ℕ)) (p : List ℕ) (rows : List Row) (found : List IndexEntry) (restart : ℕ) → base_after before (Ends rows found restart) (p ∷ ps) ≡ bases.Misplaced
base_ended before ps p rows found restart = base_lost (before ++ p ∷ []) ps

-- one block says the same of a base alone and of a file
step_in_base : (at : ℕ) (so_far : bases.Building) (r : Result VolumeBlock CodecFault) → after_block at (Building so_far) r ≡ stage_in_base (bases.after_block at (Goes so_far) r)
step_in_base at so_far (Ok b) = refl
step_in_base at so_far (Err e) = refl

abbrev is_base : Base → Bool
is_base (Goes so_far) = true
is_base (Ends rows found restart) = true
is_base bases.Misplaced = false

-- what is a base alone is one as a file
pub stage_along : (before : List (List ℕ)) (b : Base) (ps : List (List ℕ)) → is_base (base_after before b ps) ≡ true → stage_after before (stage_in_base b) ps ≡ stage_in_base (base_after before b ps)
stage_along before b [] is = refl
stage_along before (Goes so_far) (p ∷ ps) is =
    ap (λ (s : Stage). stage_after (before ++ p ∷ []) s ps) (step_in_base (length (open_blocks before)) so_far (volume_block_of p))
    ∙ stage_along (before ++ p ∷ []) (bases.after_block (length (open_blocks before)) (Goes so_far) (volume_block_of p)) ps is
stage_along before (Ends rows found restart) (p ∷ ps) is = absurd (true≢false (sym is ∙ ap is_base (base_ended before ps p rows found restart)))
stage_along before bases.Misplaced (p ∷ ps) is = absurd (true≢false (sym is ∙ ap is_base (base_lost before (p ∷ ps))))

-- a whole base
pub base_stage : (ps : List (List ℕ)) (rows : List Row) (found : List IndexEntry) (restart : ℕ) → base_of ps ≡ Ends rows found restart → stage_of ps ≡ Complete (row_map rows) restart 0
base_stage ps rows found restart is = stage_along [] (Goes nothing_yet) ps (ap is_base is) ∙ ap stage_in_base is

-- a base whose end is still to come
pub base_stage_goes : (ps : List (List ℕ)) (so_far : bases.Building) → base_of ps ≡ Goes so_far → stage_of ps ≡ Building so_far
base_stage_goes ps so_far is = stage_along [] (Goes nothing_yet) ps (ap is_base is) ∙ ap stage_in_base is

-- where a block isn't in its place, the blocks aren't a base alone
pub base_stage_misplaced : (ps : List (List ℕ)) → stage_of ps ≡ Misplaced → base_of ps ≡ bases.Misplaced
base_stage_misplaced ps is = of_stage (base_of ps) (base_stage_goes ps) (base_stage ps)
  where
    of_stage : (b : Base) → ((so_far : bases.Building) → b ≡ Goes so_far → stage_of ps ≡ Building so_far)
        → ((rows : List Row) (found : List IndexEntry) (restart : ℕ) → b ≡ Ends rows found restart → stage_of ps ≡ Complete (row_map rows) restart 0) → b ≡ bases.Misplaced
    of_stage (Goes so_far) goes ends = absurd (true≢false (sym (ap is_misplaced is) ∙ ap is_misplaced (goes so_far refl)))
    of_stage (Ends rows found restart) goes ends = absurd (true≢false (sym (ap is_misplaced is) ∙ ap is_misplaced (ends rows found restart refl)))
    of_stage bases.Misplaced goes ends = refl

-- a base that isn't building never is again
stays_ended : (before : List (List ℕ)) (s : Stage) (ps : List (List ℕ)) → is_building s ≡ false → is_building (stage_after before s ps) ≡ false
stays_ended before s [] ended = ended
stays_ended before s (p ∷ ps) ended = stays_ended (before ++ p ∷ []) (after_payload before s p) ps (behind_end s (volume_block_of p) ended)
  where
    behind_end : (t : Stage) (r : Result VolumeBlock CodecFault) → is_building t ≡ false → is_building (after_block (length (open_blocks before)) t r) ≡ false
    behind_end t (Err e) ended = refl
    behind_end (Building so_far) (Ok b) ended = absurd (true≢false ended)
    behind_end (Complete rows point n) (Ok (block.Rows more)) ended = refl
    behind_end (Complete rows point n) (Ok (block.Index entries)) ended = refl
    behind_end (Complete rows point n) (Ok (block.End restart count blocks)) ended = refl
    behind_end (Complete rows point n) (Ok (block.Batch restart changes)) ended = refl
    behind_end Misplaced (Ok b) ended = refl

so_far_in : Stage → bases.Building
so_far_in (Building so_far) = so_far
so_far_in (Complete rows restart batches) = nothing_yet
so_far_in Misplaced = nothing_yet

goes_along : (before : List (List ℕ)) (b : Base) (ps : List (List ℕ)) (so_far : bases.Building) → stage_after before (stage_in_base b) ps ≡ Building so_far → base_after before b ps ≡ Goes so_far
unfolding so_far_in
goes_along before (Goes now) [] so_far is = ap (λ (s : Stage). Goes (so_far_in s)) is
goes_along before (Goes now) (p ∷ ps) so_far is =
    goes_along (before ++ p ∷ []) (bases.after_block (length (open_blocks before)) (Goes now) (volume_block_of p)) ps so_far
    (ap (λ (s : Stage). stage_after (before ++ p ∷ []) s ps) (sym (step_in_base (length (open_blocks before)) now (volume_block_of p))) ∙ is)
goes_along before (Ends rows found restart) ps so_far is =
    absurd (true≢false (sym (ap is_building is) ∙ stays_ended before (Complete (row_map rows) restart 0) ps refl))
goes_along before bases.Misplaced ps so_far is = absurd (true≢false (sym (ap is_building is) ∙ stays_ended before Misplaced ps refl))

-- a file whose base isn't complete is a base alone
pub stage_base : (ps : List (List ℕ)) (so_far : bases.Building) → stage_of ps ≡ Building so_far → base_of ps ≡ Goes so_far
stage_base ps so_far is = goes_along [] (Goes nothing_yet) ps so_far is
