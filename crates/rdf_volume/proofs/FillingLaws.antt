-- A base that is filled with the rows of a table.
use Rattle.std.proofs.Common.{◌≡◌, ◌≢◌, ⊎_elim, ℕ, ◌+◌, ◌≤◌, true, List, [], ◌∷◌, ◌++◌, length, take, Option, Some, Result, Ok, Err, IfOk, refl, sym, ◌∙◌, ap, subst, arith}
use Rattle.rdf_types.specs.declared.records.Row.{Row}
use Rattle.rdf_disk.specs.Files.{Disk}
use Rattle.rdf_disk.specs.Outcomes.{Durably}
use Rattle.rdf_codec.specs.declared.index_entries.IndexEntry.{IndexEntry}
use Rattle.rdf_gatelog.specs.Log.{IsAtRest}
use Rattle.rdf_gatelog.specs.LogPlace.{LogPlace}
use Rattle.rdf_gatelog.specs.Logs.{Logs, Reads, RestsAt, RestsOpen, IsOpenIn, pushed_all}
use Rattle.rdf_model.specs.Rows.{row_map, list_of}
use Rattle.rdf_model.specs.Volumes.{Rows}
use Rattle.keyed_blocks.specs.Bases.{Ends, base_of, block_rows, rises}
use Rattle.keyed_blocks.specs.Indexes.{Indexes, IsIndexed, joined}
use Rattle.keyed_blocks.specs.RisingLaws.{next_of_pending, rises_next}
use Rattle.keyed_blocks.specs.Writing.{WriterView, IsWriting, IsWritten, ReadsBase, ReadsBaseOrNot, is_next}
use Rattle.keyed_overlay.specs.Merging.{HasPassed}
use Rattle.keyed_overlay.specs.Overlays.{Laid, overlaid}
use Rattle.rdf_volume.specs.Base.{Kept, IsBeforeBase, IsUnderWay, IsFilling, Fills, IsReplacedBy}
use Rattle.rdf_volume.specs.InUse.{IsTable, IsTabled}
use Rattle.rdf_volume.specs.declared.table.RowTable.{RowTable}
use Rattle.rdf_volume.specs.Stages.{Complete, stage_of}
use Rattle.rdf_volume.specs.Standing.{StandsFor}
use Rattle.rdf_volume.proofs.ScanLaws.{joined_all, passed_as}
use Rattle.rdf_volume.proofs.StageLaws.{base_stage, filled_with}
use Rattle.rdf_volume.proofs.StepLaws.{before_base_reads, base_replaced, base_payloads, base_stands}

-- so many blocks of the old base have passed, and what came out was pushed
pub record IsSoFar (logs : Logs) (writer : WriterView) (disk : Disk) (laid : Laid) (blocks : List (List Row)) (done : ℕ) (to_come : List Row) : Type 0 where
  pub out : List Row
  pub writing : IsWriting logs writer out disk
  pub passed : HasPassed laid (joined (take done blocks)) out to_come

-- a log beside the one that is written is at rest
pub beside_at_rest : (logs : Logs) (writer : WriterView) (out : List Row) (disk : Disk) (file end : ℕ) → IsWriting logs writer out disk → file ≢ writer.addition.file → (o : IsOpenIn logs file end) → IsAtRest file end o.payloads disk
beside_at_rest logs writer out disk file end w apart o =
    subst (λ (e : ℕ). IsAtRest file e o.payloads disk) (sym o.end_is)
    (subst (λ (x : Option (List (List ℕ))). RestsAt file x disk) o.there (w.are.adding.beside file apart))

-- so is the old one
pub old_at_rest : (log : LogPlace) (table : RowTable) (kept : Kept) (first writer : WriterView) (begun disk : Disk) (f : Fills log table kept first begun) (out : List Row) → IsWriting f.filling.logs writer out disk
    → writer.addition.file ≡ first.addition.file → IsAtRest log.file log.end f.open_is.payloads disk
old_at_rest log table kept first writer begun disk f out w same =
    beside_at_rest f.filling.logs writer out disk log.file log.end w (omega (arith, same, f.filling.file_is, f.file_is)) f.open_is

-- the writing is cut off
pub cut_stands : (logs : Logs) (kept : Kept) → IsBeforeBase logs kept → (disk : Disk) → Durably disk (Reads logs) → Durably disk (StandsFor kept.rows kept.restart)
cut_stands logs kept before disk durably c may = before_base_reads logs kept before c (durably c may)

one_list : {xs ys : List (List ℕ)} → Some xs ≡ Some ys → xs ≡ ys
one_list e = cc

-- all rows of the table are written
module _ (kept : Kept) (writer : WriterView) (old : Disk) (f : IsFilling writer (list_of kept.rows) kept old) (rows_again : row_map (list_of kept.rows) ≡ kept.rows) where
  whole : (payloads : List (List ℕ)) (index : List IndexEntry) → base_of payloads ≡ Ends (list_of kept.rows) index kept.restart → stage_of payloads ≡ Complete kept.rows kept.restart 0
  whole payloads index is = base_stage payloads (list_of kept.rows) index kept.restart is ∙ ap (λ (rows : Rows). Complete rows kept.restart 0) rows_again

  pub written_replaces : (new : Disk) (log : LogPlace) (index : List IndexEntry) → log.file ≡ writer.addition.file → IsWritten f.logs log index (list_of kept.rows) kept.restart new → IsReplacedBy new log.end index kept
  written_replaces new log index file_is w =
      let rests : RestsOpen (pushed_all f.logs (kept.file + 1) w.payloads) (kept.file + 1) log.end new = subst (λ (n : ℕ). RestsOpen (pushed_all f.logs n w.payloads) n log.end new) (file_is ∙ f.file_is) w.rests in
      let r = base_replaced f.logs kept f.before w.payloads (whole w.payloads index w.base) new log.end rests in
      (r, record { base = list_of kept.rows; indexes = subst (Indexes index (list_of kept.rows)) (same_payloads rests.1.payloads rests.1.there ∙ sym (base_payloads f.logs kept f.before w.payloads (whole w.payloads index w.base) new log.end rests)) w.indexes; rows_are = sym rows_again })
    where
      same_payloads : (payloads : List (List ℕ)) → pushed_all f.logs (kept.file + 1) w.payloads (kept.file + 1) ≡ Some payloads → w.payloads ≡ payloads
      same_payloads payloads there = one_list (sym (filled_with f.logs (kept.file + 1) w.payloads f.before.none) ∙ there)

  pub half_stands : (new : Disk) → Durably new (ReadsBaseOrNot f.logs writer.addition.file (list_of kept.rows) kept.restart) → Durably new (StandsFor kept.rows kept.restart)
  half_stands new durably c may = ⊎_elim
      (λ (before : Reads f.logs c). before_base_reads f.logs kept f.before c before)
      (λ (b : ReadsBase f.logs writer.addition.file (list_of kept.rows) kept.restart c).
      base_stands f.logs kept f.before b.payloads (whole b.payloads b.index b.base) c (subst (λ (n : ℕ). Reads (pushed_all f.logs n b.payloads) c) f.file_is b.reads))
      (durably c may)

-- two things that an answer has give a third
pub both_ok : {T E : Type 0} {P Q R : T → Type 0} (r : Result T E) → IfOk r P → IfOk r Q → ((x : T) → P x → Q x → R x) → IfOk r R
both_ok (Ok x) p q h = h x p q
both_ok (Err e) p q h = tt

-- the next row of rows in order stands above what is pending
pub taken_next : (logs : Logs) (writer : WriterView) (rows : List Row) (disk : Disk) (row : Row) (more : List Row) → IsWriting logs writer rows disk → rises (rows ++ row ∷ more) ≡ true → is_next writer.pending row ≡ true
taken_next logs writer rows disk row more w h = next_of_pending w.are.written writer.pending rows row w.are.rows_are (rises_next rows row more h)

-- the old log may be read by its index
pub old_indexed : (log : LogPlace) (table : RowTable) (kept : Kept) (first writer : WriterView) (begun disk : Disk) (f : Fills log table kept first begun) (out : List Row) → IsWriting f.filling.logs writer out disk
    → writer.addition.file ≡ first.addition.file → IsIndexed table.index log disk
old_indexed log table kept first writer begun disk f out w same = record {
  rows = f.table_is.base;
  payloads = f.open_is.payloads;
  at_rest = old_at_rest log table kept first writer begun disk f out w same;
  indexes = f.table_is.indexes;
}

-- a base begun behind a file in use
pub fills_from : (log : LogPlace) (table : RowTable) (restart batches : ℕ) (old new : Disk) (in_use : IsTabled old log.file log.end table restart batches) (next : LogPlace) → next.file ≡ log.file + 1
    → (w : IsUnderWay new next.end (record { file = log.file; rows = table.shown.rows; restart = restart })) × (w.logs log.file ≡ in_use.in_use.logs log.file)
    → (writer : WriterView) → writer.addition.file ≡ next.file → ((logs : Logs) → RestsOpen logs next.file next.end new → logs next.file ≡ Some [] → IsWriting logs writer [] new)
    → Fills log table (record { file = log.file; rows = table.shown.rows; restart = restart }) writer new
fills_from log table restart batches old new h next file_is (w, same) writer place begins = record {
  filling = record {
    logs = w.logs;
    before = w.before;
    writing = begins w.logs (subst (λ (n : ℕ). RestsOpen w.logs n next.end new) (sym file_is) w.rests) (ap w.logs file_is ∙ w.before.none);
    file_is = place ∙ file_is;
  };
  open_is = record { payloads = h.in_use.log.payloads; there = same ∙ h.in_use.log.there; end_is = h.in_use.log.end_is };
  table_is = h.table_is;
  file_is = refl;
  rows_are = refl;
}

-- all that came out, with what is still to come, is all rows that the table shows
pub all_out : (table : RowTable) (payloads : List (List ℕ)) (t : IsTable table payloads) (rows : Rows) → rows ≡ table.shown.rows → (done : ℕ) → length (block_rows t.indexes.blocks) ≤ done → (out to_come rest : List Row) (laid : Laid) → laid ≡ table.overlay
    → HasPassed table.overlay (joined (take done (block_rows t.indexes.blocks))) out to_come → joined (block_rows t.indexes.blocks) ≡ t.base → rises t.base ≡ true
    → ((base out : List Row) → HasPassed laid base out to_come → rises base ≡ true → out ++ rest ≡ list_of (overlaid (row_map base) laid)) → out ++ rest ≡ list_of rows
all_out table payloads t rows rows_are done past out to_come rest laid same passed all risen merged =
    let before : joined (take done (block_rows t.indexes.blocks)) ≡ t.base = joined_all done (block_rows t.indexes.blocks) past ∙ all in
    merged t.base out (passed_as table.overlay laid t.base out out to_come (sym same) refl (subst (λ (l : List Row). HasPassed table.overlay l out to_come) before passed)) risen
    ∙ ap (λ (l : Laid). list_of (overlaid (row_map t.base) l)) same
    ∙ ap list_of (sym (rows_are ∙ t.rows_are))
