-- Rows, the index and the end of a base, as blocks that are added to a log.
use Rattle.std.proofs.Common.{◌≡◌, inl, inr, ⊎_elim, ℕ, ◌+◌, ◌≤◌, ◌<◌, true, List, [], ◌∷◌, ◌++◌, length, take, drop, Some, None, Result, Ok, Err, OnOk, refl, sym, ap, ◌∙◌, subst, arith, append_assoc, length-append, length-take, length-drop}
use Rattle.std.proofs.lemmas.List.{append-nil, drop-drop}
use Rattle.std.specs.List.{last_or}
use Rattle.rdf_disk.specs.Files.{Disk}
use Rattle.rdf_disk.specs.Outcomes.{Durably}
use Rattle.rdf_types.specs.declared.records.Row.{Row}
use Rattle.rdf_codec.specs.declared.index_entries.IndexEntry.{IndexEntry}
use Rattle.rdf_codec.specs.declared.volume_blocks.VolumeBlock.TheVariants as block
use Rattle.rdf_codec.specs.VolumeReading.{volume_block_of}
use Rattle.rdf_gatelog.specs.declared.fault.LogFault.{LogFault}
use Rattle.rdf_gatelog.specs.Adding.{AdditionPlace, RestsAdding}
use Rattle.rdf_gatelog.specs.Log.{IsAtRest, open_blocks}
use Rattle.rdf_gatelog.specs.LogPlace.{LogPlace}
use Rattle.rdf_gatelog.specs.Logs.{Logs, Reads, ReadsEither, RestsOpen, payloads_at, pushed_all}
use Rattle.rdf_gatelog.specs.RestLaws.{with_same, rests_open}
use Rattle.keyed_blocks.specs.Bases.{Building, Base, Goes, Ends, base_of, base_after, rises, entry_of, nothing_yet}
use Rattle.keyed_blocks.specs.Buffers.{IsSomeAdding, ListsAll}
use Rattle.keyed_blocks.specs.Writing.{WriterView, AreWritten, IsWriting, IsWritten, ReadsBaseOrNot, is_next}
use Rattle.keyed_blocks.specs.RisingLaws.{rises_more, last_more, next_of_all}
use Rattle.keyed_blocks.proofs.StepLaws.{base_more, base_behind, rows_next, entries_next, end_next}

-- ---- rows

-- the next block's gate stands where the blocks end
module _ (logs : Logs) (place : AdditionPlace) (more : List (List ℕ)) (disk : Disk) (r : RestsAdding logs place more disk) (none : logs place.file ≡ Some []) where
  had_none : r.payloads ≡ []
  had_none = ap payloads_at (sym r.there ∙ none)

  ends_at : place.end ≡ length (open_blocks more)
  ends_at = omega (arith, r.adding.end_is, r.adding.gate_is, ap (λ (l : List (List ℕ)). length (open_blocks l)) had_none)

-- a block of all rows that are pending
module _ (logs : Logs) (rows : List Row) (old new : Disk) (place next : AdditionPlace) (entries more_entries : List IndexEntry) (count : ℕ) (payload : List ℕ) (entry : IndexEntry) (left : List Row) where
  pub flushed : (pending : List Row) → 0 < length pending → volume_block_of payload ≡ Ok (block.Rows pending)
      → ((row : Row) (rest : List Row) → pending ≡ row ∷ rest → entry ≡ entry_of place.end row) → more_entries ≡ entries ++ entry ∷ [] → left ≡ [] → next.file ≡ place.file
      → (w : AreWritten logs (record { addition = place; entries = entries; pending = pending; rows = count }) rows old) → RestsAdding logs next (w.blocks ++ payload ∷ []) new
      → AreWritten logs (record { addition = next; entries = more_entries; pending = left; rows = count }) rows new
  flushed [] some spelled entry_is more none file w adding = absurd (omega (arith, some))
  flushed (row ∷ rest) some spelled entry_is more none file w adding =
      let risen : rises (w.written ++ row ∷ rest) ≡ true = ap rises (sym w.rows_are) ∙ w.risen in
      let here : entry_of (length (open_blocks w.blocks)) row ≡ entry = ap (λ (at : ℕ). entry_of at row) (sym (ends_at logs place w.blocks old w.adding w.none)) ∙ sym (entry_is row rest refl) in
      record {
        written = w.written ++ row ∷ rest;
        blocks = w.blocks ++ payload ∷ [];
        adding = adding;
        none = ap logs file ∙ w.none;
        base =
            base_more [] w.blocks payload (Goes nothing_yet) (Goes (record { rows = w.written; found = entries; listed = 0 })) (block.Rows (row ∷ rest)) w.base spelled
            ∙ rows_next (length (open_blocks w.blocks)) w.written entries row rest risen
            ∙ ap (λ (es : List IndexEntry). Goes (record { rows = w.written ++ row ∷ rest; found = es; listed = 0 })) (ap (λ (e : IndexEntry). entries ++ e ∷ []) here ∙ sym more);
        rows_are = w.rows_are ∙ sym (append-nil (w.written ++ row ∷ rest)) ∙ ap (λ (l : List Row). (w.written ++ row ∷ rest) ++ l) (sym none);
        count = w.count;
        risen = w.risen;
      }

-- rows that are written are an addition
pub some_adding : (logs : Logs) (writer : WriterView) (rows : List Row) (disk : Disk) → AreWritten logs writer rows disk → IsSomeAdding writer.addition disk
some_adding logs writer rows disk w = (logs, w.blocks, w.adding)

-- one row more is pending
pub kept : (logs : Logs) (writer : WriterView) (rows : List Row) (disk : Disk) (row : Row) → is_next rows row ≡ true → AreWritten logs writer rows disk
    → IsWriting logs (record writer { pending = writer.pending ++ row ∷ []; rows = writer.rows + 1 }) (rows ++ row ∷ []) disk
kept logs writer rows disk row above w = record {
  are = record {
    written = w.written;
    blocks = w.blocks;
    adding = w.adding;
    none = w.none;
    base = w.base;
    rows_are = ap (λ (l : List Row). l ++ row ∷ []) w.rows_are ∙ append_assoc w.written writer.pending (row ∷ []);
    count = omega (arith, w.count, length-append rows (row ∷ []));
    risen = rises_more rows row w.risen above;
  };
  begun = λ empty. absurd (omega (arith, ap length empty, length-append writer.pending (row ∷ [])));
}

-- the answer of a push, behind what it did to make room
module _ {T : Type 0} (old room new : WriterView) (row : Row) (before after : Disk) where
  pub kept_ok : (r : Result T LogFault) → OnOk r (new ≡ record room { pending = room.pending ++ row ∷ []; rows = room.rows + 1 }) → is_next old.pending row ≡ true
      → ((logs : Logs) (rows : List Row) → AreWritten logs old rows before → AreWritten logs room rows after)
      → OnOk r ((logs : Logs) (rows : List Row) → IsWriting logs old rows before → IsWriting logs new (rows ++ row ∷ []) after)
  kept_ok (Ok x) is above makes = λ logs rows w.
      subst (λ (n : WriterView). IsWriting logs n (rows ++ row ∷ []) after) (sym is)
      (kept logs room rows after row (next_of_all w.are.written old.pending rows row w.are.rows_are w.begun above) (makes logs rows w.are))
  kept_ok (Err e) is above makes = tt

  pub kept_last : (r : Result T LogFault) → OnOk r (new ≡ record room { pending = room.pending ++ row ∷ []; rows = room.rows + 1 }) → OnOk r (last_or None new.pending ≡ Some row)
  kept_last (Ok x) is = ap (λ (n : WriterView). last_or None n.pending) is ∙ last_more None room.pending row
  kept_last (Err e) is = tt

-- ---- the index

-- of the entries these are left, and the others stand in blocks of the index
pub record AreListed (entries rest : List IndexEntry) (index : List (List ℕ)) : Type 0 where
  pub listed : ℕ
  pub within : listed ≤ length entries
  pub rest_is : rest ≡ drop listed entries
  pub steps : (before : List (List ℕ)) (so_far : Building) → so_far.found ≡ entries → so_far.listed ≡ 0 → base_after before (Goes so_far) index ≡ Goes (record so_far { listed = listed })

pub none_listed : (entries : List IndexEntry) → AreListed entries entries []
none_listed entries = record {
  listed = 0;
  within = omega arith;
  rest_is = refl;
  steps = λ before so_far found none. ap (λ (n : ℕ). Goes (record so_far { listed = n })) none;
}

-- the next entries in a block
pub more_listed : (entries rest : List IndexEntry) (index : List (List ℕ)) (l : AreListed entries rest index) (n : ℕ) → 0 < n → n ≤ length rest → (next behind : List IndexEntry) → next ≡ take n rest → behind ≡ drop n rest
    → (payload : List ℕ) → volume_block_of payload ≡ Ok (block.Index next) → AreListed entries behind (index ++ payload ∷ [])
more_listed entries rest index l n some few next behind next_is behind_is payload spelled =
    let long : length next ≡ n = omega (arith, ap length next_is, length-take n rest, few) in
    let left : length rest + l.listed ≡ length entries = omega (arith, ap length l.rest_is, l.within, length-drop l.listed entries) in
    record {
      listed = l.listed + n;
      within = omega (arith, left, few);
      rest_is = behind_is ∙ ap (drop n) l.rest_is ∙ drop-drop n l.listed entries;
      steps = λ before so_far found none.
          let here : next ≡ take (length next) (drop l.listed so_far.found) =
          next_is ∙ ap (take n) (l.rest_is ∙ ap (drop l.listed) (sym found)) ∙ ap (λ (m : ℕ). take m (drop l.listed so_far.found)) (sym long) in
          base_more before index payload (Goes so_far) (Goes (record so_far { listed = l.listed })) (block.Index next) (l.steps before so_far found none) spelled
          ∙ entries_next (length (open_blocks (before ++ index))) (record so_far { listed = l.listed }) next (omega (arith, long, some)) here
          ∙ ap (λ (m : ℕ). Goes (record so_far { listed = l.listed + m })) long;
    }

-- once none is left, the index lists them all
pub all_listed : (entries rest : List IndexEntry) (index : List (List ℕ)) → AreListed entries rest index → length rest ≡ 0 → ListsAll entries index
all_listed entries rest index l none =
    let all : l.listed ≡ length entries = omega (arith, ap length l.rest_is, none, l.within, length-drop l.listed entries) in
    record { listed = λ before so_far found unlisted. l.steps before so_far found unlisted ∙ ap (λ (n : ℕ). Goes (record so_far { listed = n })) all }

-- ---- the end

module _ (logs : Logs) (place : AdditionPlace) (entries : List IndexEntry) (count : ℕ) (rows : List Row) (old : Disk) (w : AreWritten logs (record { addition = place; entries = entries; pending = []; rows = count }) rows old)
    (index : List (List ℕ)) (lists : ListsAll entries index) (end : List ℕ) (restart blocks : ℕ) (blocks_are : blocks ≡ length entries) (spelled : volume_block_of end ≡ Ok (block.End restart count blocks)) where
  all_written : w.written ≡ rows
  all_written = sym (w.rows_are ∙ append-nil w.written)

  pub rows_base : base_of w.blocks ≡ Goes (record { rows = rows; found = entries; listed = 0 })
  rows_base = w.base ∙ ap (λ (l : List Row). Goes (record { rows = l; found = entries; listed = 0 })) all_written

  pub whole_base : base_of ((w.blocks ++ index) ++ end ∷ []) ≡ Ends rows entries restart
  whole_base =
      let so_far : Building = record { rows = rows; found = entries; listed = 0 } in
      let listed : base_of (w.blocks ++ index) ≡ Goes (record { rows = rows; found = entries; listed = length entries }) =
      base_behind [] w.blocks index (Goes nothing_yet) ∙ ap (λ (b : Base). base_after w.blocks b index) rows_base ∙ lists.listed w.blocks so_far refl refl in
      base_more [] (w.blocks ++ index) end (Goes nothing_yet) (Goes (record { rows = rows; found = entries; listed = length entries })) (block.End restart count blocks) listed spelled
      ∙ end_next (length (open_blocks (w.blocks ++ index))) rows entries count blocks restart w.count blocks_are

  abbrev all_blocks : List (List ℕ)
  all_blocks = (w.blocks ++ index) ++ end ∷ []

  -- the gate was opened
  pub ended : (file : ℕ) (log : LogPlace) (found : List IndexEntry) (new : Disk) → file ≡ place.file → log.file ≡ file → found ≡ entries
      → RestsOpen (pushed_all logs file all_blocks) file log.end new → IsWritten logs log found rows restart new
  ended file log found new same file_is found_is (rests, o) =
      let empty : payloads_at (logs file) ≡ [] = ap (λ (m : ℕ). payloads_at (logs m)) same ∙ ap payloads_at w.none in
      let all_is : o.payloads ≡ all_blocks =
      ap payloads_at (sym o.there ∙ with_same logs file (Some (payloads_at (logs file) ++ all_blocks))) ∙ ap (λ (l : List (List ℕ)). l ++ all_blocks) empty in
      let here : IsAtRest file log.end all_blocks new = subst (λ (l : List (List ℕ)). IsAtRest file log.end l new) all_is (rests_open (pushed_all logs file all_blocks) file log.end [] new new rests o) in
      record {
        payloads = all_blocks;
        rests = subst (λ (n : ℕ). RestsOpen (pushed_all logs n all_blocks) n log.end new) (sym file_is) (rests, o);
        at_rest = subst (λ (n : ℕ). IsAtRest n log.end all_blocks new) (sym file_is) here;
        base = whole_base ∙ ap (λ (es : List IndexEntry). Ends rows es restart) (sym found_is);
        indexes = record {
          blocks = w.blocks;
          behind = index ++ end ∷ [];
          payloads_are = append_assoc w.blocks index (end ∷ []);
          base = rows_base ∙ ap (λ (es : List IndexEntry). Goes (record { rows = rows; found = es; listed = 0 })) (sym found_is);
        };
      }

  -- the gate may have been opened
  pub maybe_ended : (file : ℕ) (new : Disk) → file ≡ place.file → Durably new (ReadsEither logs (pushed_all logs file all_blocks)) → Durably new (ReadsBaseOrNot logs place.file rows restart)
  maybe_ended file new same either c may = ⊎_elim
      (λ (before : Reads logs c). inl before)
      (λ (after : Reads (pushed_all logs file all_blocks) c). inr (record {
        payloads = all_blocks;
        index = entries;
        base = whole_base;
        reads = subst (λ (n : ℕ). Reads (pushed_all logs n all_blocks) c) same after;
      }))
      (either c may)

-- what reads as the logs has no base more
pub no_base : (logs : Logs) (file : ℕ) (rows : List Row) (restart : ℕ) (disk : Disk) → Durably disk (Reads logs) → Durably disk (ReadsBaseOrNot logs file rows restart)
no_base logs file rows restart disk without c may = inl (without c may)
