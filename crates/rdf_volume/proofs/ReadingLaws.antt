-- What one block more makes of what is kept of the blocks read before.
use Rattle.std.proofs.Common.{◌≡◌, ℕ, ◌+◌, ◌-◌, ◌<◌, ◌==◌, ◌&&◌, ◌||◌, Bool, true, false, cond, List, [], ◌∷◌, ◌++◌, length, take, drop, get_or, slice_get, Some, None, Result, Ok, Err, fold, refl, sym, ◌∙◌, ap, arith, length-append}
use Rattle.std.proofs.lemmas.Bool.{eqb-true}
use Rattle.std.proofs.lemmas.List.{append-nil}
use Rattle.std.specs.Cmp.{first_so, second_so}
use Rattle.std.specs.Cmp.Lexicographic.{pointwise}
use Rattle.rdf_types.specs.declared.records.Change.{Change}
use Rattle.rdf_types.specs.declared.records.Row.{Row}
use Rattle.rdf_codec.specs.declared.fault.CodecFault.{CodecFault}
use Rattle.rdf_codec.specs.declared.index_entries.IndexEntry.{IndexEntry}
use Rattle.rdf_codec.specs.declared.volume_blocks.VolumeBlock.{VolumeBlock}
use Rattle.rdf_codec.specs.declared.volume_blocks.VolumeBlock.TheVariants as block
use Rattle.rdf_codec.specs.declared.fault.CodecFault.TheVariants.{NoMemory}
use Rattle.rdf_codec.specs.Reading.{IsAnswer}
use Rattle.rdf_codec.specs.VolumeBlocks.{FillsBlock}
use Rattle.rdf_codec.specs.VolumeReading.{volume_block_of}
use Rattle.rdf_model.specs.Rows.{row_map}
use Rattle.rdf_model.specs.Volumes.{Rows}
use Rattle.keyed_blocks.specs.Bases as bases
use Rattle.keyed_blocks.specs.Bases.{Base, Goes, Ends, entry_of, rises, same_entry, is_listed, with_block, next_in_base}
use Rattle.keyed_overlay.specs.Overlays.{overlaid}
use Rattle.rdf_volume.specs.declared.reading.BaseRead.{BaseRead}
use Rattle.rdf_volume.specs.declared.reading.TableRead.{TableRead}
use Rattle.rdf_volume.specs.declared.table.RowTable.{RowTable}
use Rattle.rdf_volume.specs.Base.{GoesOn}
use Rattle.rdf_volume.specs.Changes.{changed, with_row}
use Rattle.rdf_volume.specs.Readings.{IsBaseRead, IsTableRead, IsNext, is_above}
use Rattle.rdf_volume.specs.Stages.{Building, Complete, stage_in_base, next, stage_of, is_misplaced}
use Rattle.rdf_volume.proofs.RowsLaws.{rises_joined, last_joined, row_map-more, rising_tested}
use Rattle.rdf_volume.proofs.StageLaws.{stage_of-block, stage_of-none, stage_base}
use Rattle.rdf_volume.proofs.TableLaws.{indexes_on, none_kept, table_on}

-- the blocks go on with one more
one_block : (before : List (List ℕ)) (payload : List ℕ) → GoesOn before (before ++ payload ∷ [])
one_block before payload = record { more = payload ∷ []; after_is = refl }

-- ---- where the base isn't complete

module _ (before : List (List ℕ)) (payload : List ℕ) (at : ℕ) (read : BaseRead) (is : IsBaseRead read before) where
  stage_next : (b : VolumeBlock) → IsNext before payload at b → stage_of (before ++ payload ∷ []) ≡ stage_in_base (next_in_base at is.so_far b)
  stage_next b n = stage_of-block before payload (Building is.so_far) b is.stage n.spelled ∙ ap (λ (i : ℕ). stage_in_base (next_in_base i is.so_far b)) (sym n.at_is)

  misplaced_next : (b : VolumeBlock) → IsNext before payload at b → next_in_base at is.so_far b ≡ bases.Misplaced → is_misplaced (stage_of (before ++ payload ∷ [])) ≡ true
  misplaced_next b n lost = ap is_misplaced (stage_next b n) ∙ ap (λ (x : Base). is_misplaced (stage_in_base x)) lost

  -- a batch
  pub batch_early : (restart : ℕ) (changes : List Change) → IsNext before payload at (block.Batch restart changes) → is_misplaced (stage_of (before ++ payload ∷ [])) ≡ true
  batch_early restart changes n = misplaced_next (block.Batch restart changes) n refl

  -- rows
  module _ (row : Row) (rest : List Row) (n : IsNext before payload at (block.Rows (row ∷ rest))) (fills : FillsBlock (row ∷ rest)) where
    abbrev last_is : Bool
    last_is = is_above (slice_get is.so_far.rows (length is.so_far.rows - 1)) row

    joined : rises (is.so_far.rows ++ row ∷ rest) ≡ last_is
    joined = rises_joined is.so_far.rows row rest is.risen (rising_tested (row ∷ rest) fills.rising)

    begins : (b : Bool) → ((read.listed == 0) && is_above read.last row) ≡ b
        → next_in_base at is.so_far (block.Rows (row ∷ rest)) ≡ cond b (Goes (with_block at is.so_far row rest)) bases.Misplaced
    begins b may =
        let so : ((is.so_far.listed == 0) && last_is) ≡ b = (λ i. (sym is.listed i == 0) && is_above (sym is.last i) row) ∙ may in
        ap (λ (r : Bool). cond ((is.so_far.listed == 0) && r) (Goes (with_block at is.so_far row rest)) bases.Misplaced) joined
        ∙ ap (λ (r : Bool). cond r (Goes (with_block at is.so_far row rest)) bases.Misplaced) so

    row_misplaced : ((read.listed == 0) && is_above read.last row) ≡ false → is_misplaced (stage_of (before ++ payload ∷ [])) ≡ true
    row_misplaced may = misplaced_next (block.Rows (row ∷ rest)) n (begins false may)

    row_read : ((read.listed == 0) && is_above read.last row) ≡ true → (new : BaseRead) → new.shown.rows ≡ fold with_row read.shown.rows (row ∷ rest)
        → new.entries.items ≡ read.entries.items ++ entry_of at row ∷ [] → new.listed ≡ read.listed → new.rows ≡ read.rows + length (row ∷ rest)
        → new.last ≡ slice_get (row ∷ rest) (length (row ∷ rest) - 1) → IsBaseRead new (before ++ payload ∷ [])
    row_read may new shown entries listed rows last =
        let stage : stage_of (before ++ payload ∷ []) ≡ Building (with_block at is.so_far row rest) =
        stage_next (block.Rows (row ∷ rest)) n ∙ ap stage_in_base (begins true may) in
        let risen : rises (is.so_far.rows ++ row ∷ rest) ≡ true =
        joined ∙ ap (λ o. is_above o row) (sym is.last) ∙ second_so (read.listed == 0) (is_above read.last row) may in
        record {
          so_far = with_block at is.so_far row rest;
          stage = stage;
          shown = shown ∙ ap (λ (m : Rows). fold with_row m (row ∷ rest)) is.shown ∙ sym (row_map-more is.so_far.rows (row ∷ rest) risen);
          entries = entries ∙ ap (λ (es : List IndexEntry). es ++ entry_of at row ∷ []) is.entries;
          listed = listed ∙ eqb-true read.listed 0 (first_so (read.listed == 0) (is_above read.last row) may);
          rows = omega (arith, rows, is.rows, length-append is.so_far.rows (row ∷ rest));
          last = last ∙ sym (last_joined is.so_far.rows row rest);
          risen = risen;
          indexes = record {
            blocks = before ++ payload ∷ [];
            behind = [];
            payloads_are = sym (append-nil (before ++ payload ∷ []));
            base = stage_base (before ++ payload ∷ []) (with_block at is.so_far row rest) stage;
          };
        }

  pub rows_misplaced : (rows : List Row) (first : Row) → IsNext before payload at (block.Rows rows) → FillsBlock rows → first ≡ get_or rows 0 first
      → ((read.listed == 0) && is_above read.last first) ≡ false → is_misplaced (stage_of (before ++ payload ∷ [])) ≡ true
  rows_misplaced [] first n fills here may = absurd (omega (arith, fills.some))
  rows_misplaced (row ∷ rest) first n fills here may = row_misplaced row rest n fills (ap (λ (r : Row). (read.listed == 0) && is_above read.last r) (sym here) ∙ may)

  pub rows_read : (rows : List Row) (first : Row) → IsNext before payload at (block.Rows rows) → FillsBlock rows → first ≡ get_or rows 0 first
      → ((read.listed == 0) && is_above read.last first) ≡ true → (new : BaseRead) → new.shown.rows ≡ fold with_row read.shown.rows rows
      → ((row : Row) → slice_get rows 0 ≡ Some row → new.entries.items ≡ read.entries.items ++ entry_of at row ∷ []) → new.listed ≡ read.listed → new.rows ≡ read.rows + length rows
      → new.last ≡ slice_get rows (length rows - 1) → IsBaseRead new (before ++ payload ∷ [])
  rows_read [] first n fills here may new shown entries listed rows last = absurd (omega (arith, fills.some))
  rows_read (row ∷ rest) first n fills here may new shown entries listed rows last =
      row_read row rest n fills (ap (λ (r : Row). (read.listed == 0) && is_above read.last r) (sym here) ∙ may) new shown (entries row refl) listed rows last

  -- entries of the index
  come : (entries : List IndexEntry) → pointwise same_entry entries (take (length entries) (drop read.listed read.entries.items)) ≡ bases.are_next is.so_far entries
  come entries = λ i. pointwise same_entry entries (take (length entries) (drop (is.listed i) (is.entries i)))

  pub entries_misplaced : (entries : List IndexEntry) → IsNext before payload at (block.Index entries) → 0 < length entries
      → pointwise same_entry entries (take (length entries) (drop read.listed read.entries.items)) ≡ false → is_misplaced (stage_of (before ++ payload ∷ [])) ≡ true
  entries_misplaced [] n some test = absurd (omega (arith, some))
  entries_misplaced (e ∷ es) n some test =
      misplaced_next (block.Index (e ∷ es)) n
      (ap (λ (b : Bool). cond b (Goes (record is.so_far { listed = is.so_far.listed + length (e ∷ es) })) bases.Misplaced) (sym (come (e ∷ es)) ∙ test))

  entries_goes : (entries : List IndexEntry) → 0 < length entries → bases.are_next is.so_far entries ≡ true
      → next_in_base at is.so_far (block.Index entries) ≡ Goes (record is.so_far { listed = is.so_far.listed + length entries })
  entries_goes [] some so = absurd (omega (arith, some))
  entries_goes (e ∷ es) some so = ap (λ (b : Bool). cond b (Goes (record is.so_far { listed = is.so_far.listed + length (e ∷ es) })) bases.Misplaced) so

  pub entries_read : (entries : List IndexEntry) → IsNext before payload at (block.Index entries) → 0 < length entries
      → pointwise same_entry entries (take (length entries) (drop read.listed read.entries.items)) ≡ true → (listed : ℕ) → listed ≡ read.listed + length entries
      → IsBaseRead (record read { listed = listed }) (before ++ payload ∷ [])
  entries_read entries n some test listed listed_is = record {
    so_far = record is.so_far { listed = is.so_far.listed + length entries };
    stage = stage_next (block.Index entries) n ∙ ap stage_in_base (entries_goes entries some (sym (come entries) ∙ test));
    shown = is.shown;
    entries = is.entries;
    listed = listed_is ∙ ap (λ (l : ℕ). l + length entries) is.listed;
    rows = is.rows;
    last = is.last;
    risen = is.risen;
    indexes = indexes_on is.so_far.found is.so_far.found is.so_far.rows before (before ++ payload ∷ []) refl (one_block before payload) is.indexes;
  }

  -- the end
  module _ (restart rows blocks : ℕ) (n : IsNext before payload at (block.End restart rows blocks)) where
    ends : (b : Bool) → ((rows == read.rows) && (blocks == length read.entries.items) && ((read.listed == 0) || (read.listed == length read.entries.items))) ≡ b
        → next_in_base at is.so_far (block.End restart rows blocks) ≡ cond b (Ends is.so_far.rows is.so_far.found restart) bases.Misplaced
    ends b counted =
        let so : ((rows == length is.so_far.rows) && (blocks == length is.so_far.found) && is_listed is.so_far) ≡ b =
        (λ i. (rows == sym is.rows i) && (blocks == length (sym is.entries i)) && ((sym is.listed i == 0) || (sym is.listed i == length (sym is.entries i)))) ∙ counted in
        ap (λ (r : Bool). cond r (Ends is.so_far.rows is.so_far.found restart) bases.Misplaced) so

    pub end_misplaced : ((rows == read.rows) && (blocks == length read.entries.items) && ((read.listed == 0) || (read.listed == length read.entries.items))) ≡ false
        → is_misplaced (stage_of (before ++ payload ∷ [])) ≡ true
    end_misplaced counted = misplaced_next (block.End restart rows blocks) n (ends false counted)

    pub end_read : ((rows == read.rows) && (blocks == length read.entries.items) && ((read.listed == 0) || (read.listed == length read.entries.items))) ≡ true
        → (table : RowTable) → table.shown.rows ≡ read.shown.rows → table.index ≡ read.entries.items → table.blocks ≡ [] → ((base : Rows) → overlaid base table.overlay ≡ base)
        → IsTableRead (record { table = table; restart = restart; batches = 0 }) (before ++ payload ∷ [])
    end_read counted table shown index none overlay = record {
      stage = stage_next (block.End restart rows blocks) n ∙ ap stage_in_base (ends true counted) ∙ ap (λ (m : Rows). Complete m restart 0) (sym (shown ∙ is.shown));
      table = record {
        base = is.so_far.rows;
        indexes = indexes_on is.so_far.found table.index is.so_far.rows before (before ++ payload ∷ []) (index ∙ is.entries) (one_block before payload) is.indexes;
        rows_are = shown ∙ is.shown ∙ sym (overlay (row_map is.so_far.rows));
        kept = λ place last here. none_kept table.blocks place last none here;
      };
    }

-- ---- behind a complete base

module _ (before : List (List ℕ)) (payload : List ℕ) (at : ℕ) (read : TableRead) (is : IsTableRead read before) where
  stage_behind : (b : VolumeBlock) → IsNext before payload at b → stage_of (before ++ payload ∷ []) ≡ next at (Complete read.table.shown.rows read.restart read.batches) b
  stage_behind b n =
      stage_of-block before payload (Complete read.table.shown.rows read.restart read.batches) b is.stage n.spelled
      ∙ ap (λ (i : ℕ). next i (Complete read.table.shown.rows read.restart read.batches) b) (sym n.at_is)

  -- a block of the base
  pub late : (b : VolumeBlock) → IsNext before payload at b → ((restart : ℕ) (changes : List Change) → b ≡ block.Batch restart changes → ⊥) → is_misplaced (stage_of (before ++ payload ∷ [])) ≡ true
  late (block.Rows rows) n other = ap is_misplaced (stage_behind (block.Rows rows) n)
  late (block.Index entries) n other = ap is_misplaced (stage_behind (block.Index entries) n)
  late (block.End restart rows blocks) n other = ap is_misplaced (stage_behind (block.End restart rows blocks) n)
  late (block.Batch restart changes) n other = absurd (other restart changes refl)

  -- a batch
  pub batch_read : (restart : ℕ) (changes : List Change) → IsNext before payload at (block.Batch restart changes) → (table : RowTable) (batches : ℕ)
      → table.shown.rows ≡ changed read.table.shown.rows changes → table.index ≡ read.table.index → table.blocks ≡ read.table.blocks
      → ((base : Rows) → overlaid base table.overlay ≡ changed (overlaid base read.table.overlay) changes) → batches ≡ read.batches + 1
      → IsTableRead (record { table = table; restart = restart; batches = batches }) (before ++ payload ∷ [])
  batch_read restart changes n table batches shown index last overlay count = record {
    stage = stage_behind (block.Batch restart changes) n ∙ (λ i. Complete (sym shown i) restart (sym count i));
    table = table_on read.table table changes before (before ++ payload ∷ []) index last shown overlay (one_block before payload) is.table;
  }

-- a payload that spells no block
pub no_block : (before : List (List ℕ)) (payload : List ℕ) (e : CodecFault) → volume_block_of payload ≡ Err e → is_misplaced (stage_of (before ++ payload ∷ [])) ≡ true
no_block before payload e is = ap is_misplaced (stage_of-none before payload e is)

-- ---- what a payload spells

pub spells : (r : Result VolumeBlock CodecFault) (b : VolumeBlock) → IsAnswer r (Ok b) → r ≡ Ok b
spells (Ok x) b is = ap (λ (y : VolumeBlock). Ok y) (sym is)
spells (Err e) b is = sym is

pub spells_none : (r : Result VolumeBlock CodecFault) (e : CodecFault) → IsAnswer r (Err e) → (e ≡ NoMemory → ⊥) → r ≡ Err e
spells_none (Ok x) e is other = absurd (other is)
spells_none (Err f) e is other = sym is
