-- How blocks of rows and the entries of an index stand to each other.
use Rattle.std.proofs.Common.{◌≡◌, ℕ, zero, suc, ◌+◌, ◌==◌, ◌&&◌, Bool, true, false, cond, List, [], ◌∷◌, ◌++◌, length, slice_get, Option, Some, None, Result, Ok, Err, refl, sym, ap, ◌∙◌, arith}
use Rattle.std.specs.List.{AllByRecursion}
use Rattle.std.proofs.lemmas.Bool.{eqb-true, true≢false}
use Rattle.std.proofs.lemmas.List.{append-nil, append_assoc}
use Rattle.rdf_types.specs.declared.records.Row.{Row}
use Rattle.rdf_codec.specs.declared.fault.CodecFault.{CodecFault}
use Rattle.rdf_codec.specs.declared.index_entries.IndexEntry.{IndexEntry}
use Rattle.rdf_codec.specs.declared.volume_blocks.VolumeBlock.{VolumeBlock}
use Rattle.rdf_codec.specs.declared.volume_blocks.VolumeBlock.TheVariants as block
use Rattle.rdf_codec.specs.VolumeReading.{volume_block_of}
use Rattle.rdf_gatelog.specs.Log.{open_blocks}
use Rattle.keyed_blocks.specs.Bases.{Building, Base, Goes, Ends, Misplaced, rises, entry_of, are_next, is_listed, after_block, base_after, rows_in, block_rows, nothing_yet}
use Rattle.keyed_blocks.specs.Indexes.{joined}

-- the payload is a block of rows, of which there are some
pub record IsRows (payload : List ℕ) : Type 0 where
  pub row : Row
  pub rest : List Row
  pub read : volume_block_of payload ≡ Ok (block.Rows (row ∷ rest))

-- the entry of a block at that place with these rows
abbrev pub head_entry : ℕ → List Row → IndexEntry
head_entry at [] = record { at = at; file = []; key = [] }
head_entry at (row ∷ rows) = entry_of at row

-- the entries of blocks behind others
abbrev pub entries_in : List (List ℕ) → List (List ℕ) → List IndexEntry
entries_in before [] = []
entries_in before (payload ∷ payloads) = head_entry (length (open_blocks before)) (rows_in (volume_block_of payload)) ∷ entries_in (before ++ payload ∷ []) payloads

-- one block of rows more
record Step (at : ℕ) (base : Base) (read : Result VolumeBlock CodecFault) (new : Building) : Type 0 where
  old : Building
  old_is : base ≡ Goes old
  none : old.listed ≡ 0
  row : Row
  rest : List Row
  read_is : read ≡ Ok (block.Rows (row ∷ rest))
  risen : rises (old.rows ++ row ∷ rest) ≡ true
  new_is : record { rows = old.rows ++ row ∷ rest; found = old.found ++ entry_of at row ∷ []; listed = 0 } ≡ new

abbrev so_far_of : Base → Building
so_far_of (Goes so_far) = so_far
so_far_of (Ends rows found restart) = nothing_yet
so_far_of Misplaced = nothing_yet

abbrev goes : Base → Bool
goes (Goes so_far) = true
goes (Ends rows found restart) = false
goes Misplaced = false

not_going : (base : Base) (b : Building) → goes base ≡ false → base ≡ Goes b → ⊥
not_going base b ended is = true≢false (sym (ap goes is) ∙ ended)

both_so : (a b : Bool) → (a && b) ≡ true → (a ≡ true) × (b ≡ true)
both_so true true h = (refl, refl)
both_so true false h = cc
both_so false b h = cc

-- what a block does behind which nothing is listed yet
step : (at : ℕ) (base : Base) (read : Result VolumeBlock CodecFault) (new : Building) → new.listed ≡ 0 → after_block at base read ≡ Goes new → Step at base read new
step at (Ends rows found restart) read new unlisted is = absurd (not_going Misplaced new refl is)
step at Misplaced read new unlisted is = absurd (not_going Misplaced new refl is)
step at (Goes so_far) (Err e) new unlisted is = absurd (not_going Misplaced new refl is)
step at (Goes so_far) (Ok (block.Batch restart changes)) new unlisted is = absurd (not_going Misplaced new refl is)
step at (Goes so_far) (Ok (block.Rows [])) new unlisted is = absurd (not_going Misplaced new refl is)
step at (Goes so_far) (Ok (block.Index [])) new unlisted is = absurd (not_going Misplaced new refl is)
step at (Goes so_far) (Ok (block.Rows (row ∷ rest))) new unlisted is =
    let next : Building = record { rows = so_far.rows ++ row ∷ rest; found = so_far.found ++ entry_of at row ∷ []; listed = 0 } in
    elim ((so_far.listed == 0) && rises (so_far.rows ++ row ∷ rest)) as (λ b. ((so_far.listed == 0) && rises (so_far.rows ++ row ∷ rest)) ≡ b → cond b (Goes next) Misplaced ≡ Goes new
    → Step at (Goes so_far) (Ok (block.Rows (row ∷ rest))) new) [
      | true ↦ λ t e.
          let so = both_so (so_far.listed == 0) (rises (so_far.rows ++ row ∷ rest)) t in
          record { old = so_far; old_is = refl; none = eqb-true so_far.listed 0 so.0; row = row; rest = rest; read_is = refl; risen = so.1; new_is = ap so_far_of e }
      | false ↦ λ t e. absurd (not_going Misplaced new refl e)
    ] refl is
step at (Goes so_far) (Ok (block.Index (entry ∷ entries))) new unlisted is =
    let next : Building = record so_far { listed = so_far.listed + length (entry ∷ entries) } in
    elim (are_next so_far (entry ∷ entries)) as (λ b. cond b (Goes next) Misplaced ≡ Goes new → Step at (Goes so_far) (Ok (block.Index (entry ∷ entries))) new) [
      | true ↦ λ e.
          let more : so_far.listed + length (entry ∷ entries) ≡ new.listed = ap (λ (b : Base). (so_far_of b).listed) e in
          absurd (omega (arith, more, unlisted))
      | false ↦ λ e. absurd (not_going Misplaced new refl e)
    ] is
step at (Goes so_far) (Ok (block.End restart rows blocks)) new unlisted is =
    elim ((rows == length so_far.rows) && (blocks == length so_far.found) && is_listed so_far) as (λ b. cond b (Ends so_far.rows so_far.found restart) Misplaced ≡ Goes new
    → Step at (Goes so_far) (Ok (block.End restart rows blocks)) new) [
      | true ↦ λ e. absurd (not_going (Ends so_far.rows so_far.found restart) new refl e)
      | false ↦ λ e. absurd (not_going Misplaced new refl e)
    ] is

-- what blocks of rows make of what was read before them
pub record Laid (before : List (List ℕ)) (base : Base) (blocks : List (List ℕ)) (new : Building) : Type 0 where
  pub old : Building
  pub old_is : base ≡ Goes old
  pub none : old.listed ≡ 0
  pub rows_are : new.rows ≡ old.rows ++ joined (block_rows blocks)
  pub found_are : new.found ≡ old.found ++ entries_in before blocks
  pub all_rows : AllByRecursion IsRows blocks
  pub risen : rises old.rows ≡ true → rises new.rows ≡ true

one_more : (before : List (List ℕ)) (p : List ℕ) (ps : List (List ℕ)) (base : Base) (new : Building)
    (w : Laid (before ++ p ∷ []) (after_block (length (open_blocks before)) base (volume_block_of p)) ps new)
    → Step (length (open_blocks before)) base (volume_block_of p) w.old → Laid before base (p ∷ ps) new
one_more before p ps base new w s =
    let rest = joined (block_rows ps) in
    let entries = entries_in (before ++ p ∷ []) ps in
    let at = length (open_blocks before) in
    record {
      old = s.old;
      old_is = s.old_is;
      none = s.none;
      rows_are =
          w.rows_are ∙ ap (λ (b : Building). b.rows ++ rest) (sym s.new_is) ∙ append_assoc s.old.rows (s.row ∷ s.rest) rest
          ∙ ap (λ (r : Result VolumeBlock CodecFault). s.old.rows ++ (rows_in r ++ rest)) (sym s.read_is);
      found_are =
          w.found_are ∙ ap (λ (b : Building). b.found ++ entries) (sym s.new_is) ∙ append_assoc s.old.found (entry_of at s.row ∷ []) entries
          ∙ ap (λ (r : Result VolumeBlock CodecFault). s.old.found ++ head_entry at (rows_in r) ∷ entries) (sym s.read_is);
      all_rows = (record { row = s.row; rest = s.rest; read = s.read_is }, w.all_rows);
      risen = λ _. w.risen (ap (λ (b : Building). rises b.rows) (sym s.new_is) ∙ s.risen);
    }

-- where no entry of an index is listed yet, all blocks were blocks of rows
pub laid : (before blocks : List (List ℕ)) (base : Base) (new : Building) → new.listed ≡ 0 → base_after before base blocks ≡ Goes new → Laid before base blocks new
laid before [] base new unlisted is = record {
  old = new;
  old_is = is;
  none = unlisted;
  rows_are = sym (append-nil new.rows);
  found_are = sym (append-nil new.found);
  all_rows = tt;
  risen = λ r. r;
}
laid before (p ∷ ps) base new unlisted is =
    let w = laid (before ++ p ∷ []) ps (after_block (length (open_blocks before)) base (volume_block_of p)) new unlisted is in
    one_more before p ps base new w (step (length (open_blocks before)) base (volume_block_of p) w.old w.none w.old_is)

-- blocks of rows from the first one on
pub record LaidAll (blocks : List (List ℕ)) (rows : List Row) (index : List IndexEntry) : Type 0 where
  pub rows_are : rows ≡ joined (block_rows blocks)
  pub index_is : index ≡ entries_in [] blocks
  pub all_rows : AllByRecursion IsRows blocks
  pub risen : rises rows ≡ true

pub laid_all : (blocks : List (List ℕ)) (rows : List Row) (index : List IndexEntry) → base_after [] (Goes nothing_yet) blocks ≡ Goes (record { rows = rows; found = index; listed = 0 }) → LaidAll blocks rows index
laid_all blocks rows index is =
    let w = laid [] blocks (Goes nothing_yet) (record { rows = rows; found = index; listed = 0 }) refl is in
    let first : nothing_yet ≡ w.old = ap so_far_of w.old_is in
    record {
      rows_are = w.rows_are ∙ ap (λ (b : Building). b.rows ++ joined (block_rows blocks)) (sym first);
      index_is = w.found_are ∙ ap (λ (b : Building). b.found ++ entries_in [] blocks) (sym first);
      all_rows = w.all_rows;
      risen = w.risen (ap (λ (b : Building). rises b.rows) (sym first));
    }

-- there is one for each block
pub entries_many : (before blocks : List (List ℕ)) → length (entries_in before blocks) ≡ length (block_rows blocks)
entries_many before [] = refl
entries_many before (p ∷ ps) = ap suc (entries_many (before ++ p ∷ []) ps)

-- the block of an entry, among blocks of rows
pub record Located (before blocks : List (List ℕ)) (i : ℕ) (entry : IndexEntry) : Type 0 where
  pub front : List (List ℕ)
  pub payload : List ℕ
  pub back : List (List ℕ)
  pub blocks_are : blocks ≡ front ++ payload ∷ back
  pub row : Row
  pub rest : List Row
  pub read : volume_block_of payload ≡ Ok (block.Rows (row ∷ rest))
  pub entry_is : entry ≡ entry_of (length (open_blocks (before ++ front))) row
  pub here : slice_get (block_rows blocks) i ≡ Some (row ∷ rest)
  pub last : List (List ℕ)
  pub next : slice_get (entries_in before blocks) (suc i) ≡ slice_get (entries_in last back) 0
  pub back_rows : AllByRecursion IsRows back

some_is : (x y : IndexEntry) → Some x ≡ Some y → x ≡ y
some_is x y e = ap (λ (o : Option IndexEntry). value_or o x) e where
  value_or : Option IndexEntry → IndexEntry → IndexEntry
  value_or None x = x
  value_or (Some y) x = y

first_located : (before : List (List ℕ)) (p : List ℕ) (ps : List (List ℕ)) (entry : IndexEntry) → IsRows p → AllByRecursion IsRows ps
    → head_entry (length (open_blocks before)) (rows_in (volume_block_of p)) ≡ entry → Located before (p ∷ ps) 0 entry
first_located before p ps entry r more is = record {
  front = [];
  payload = p;
  back = ps;
  blocks_are = refl;
  row = r.row;
  rest = r.rest;
  read = r.read;
  entry_is =
      sym is ∙ ap (λ (x : Result VolumeBlock CodecFault). head_entry (length (open_blocks before)) (rows_in x)) r.read
      ∙ ap (λ (b : List (List ℕ)). entry_of (length (open_blocks b)) r.row) (sym (append-nil before));
  here = ap (λ (x : Result VolumeBlock CodecFault). Some (rows_in x)) r.read;
  last = before ++ p ∷ [];
  next = refl;
  back_rows = more;
}

later_located : (before : List (List ℕ)) (p : List ℕ) (ps : List (List ℕ)) (i : ℕ) (entry : IndexEntry) → Located (before ++ p ∷ []) ps i entry → Located before (p ∷ ps) (suc i) entry
later_located before p ps i entry w = record {
  front = p ∷ w.front;
  payload = w.payload;
  back = w.back;
  blocks_are = ap (λ (b : List (List ℕ)). p ∷ b) w.blocks_are;
  row = w.row;
  rest = w.rest;
  read = w.read;
  entry_is = w.entry_is ∙ ap (λ (b : List (List ℕ)). entry_of (length (open_blocks b)) w.row) (append_assoc before (p ∷ []) w.front);
  here = w.here;
  last = w.last;
  next = w.next;
  back_rows = w.back_rows;
}

abbrev no_entries : List IndexEntry
no_entries = []

none_here : (i : ℕ) (e : IndexEntry) → slice_get no_entries i ≡ Some e → ⊥
none_here zero e is = cc
none_here (suc i) e is = cc

pub located : (before blocks : List (List ℕ)) (i : ℕ) (entry : IndexEntry) → AllByRecursion IsRows blocks → slice_get (entries_in before blocks) i ≡ Some entry → Located before blocks i entry
located before [] i entry all is = absurd (none_here i entry is)
located before (p ∷ ps) zero entry all is =
    first_located before p ps entry all.0 all.1 (some_is (head_entry (length (open_blocks before)) (rows_in (volume_block_of p))) entry is)
located before (p ∷ ps) (suc i) entry all is = later_located before p ps i entry (located (before ++ p ∷ []) ps i entry all.1 is)

-- the rows of blocks in three parts
pub joined_parts : (front : List (List ℕ)) (p : List ℕ) (back : List (List ℕ)) → joined (block_rows (front ++ p ∷ back)) ≡ joined (block_rows front) ++ (rows_in (volume_block_of p) ++ joined (block_rows back))
joined_parts [] p back = refl
joined_parts (f ∷ front) p back =
    ap (λ (rows : List Row). rows_in (volume_block_of f) ++ rows) (joined_parts front p back)
    ∙ sym (append_assoc (rows_in (volume_block_of f)) (joined (block_rows front)) (rows_in (volume_block_of p) ++ joined (block_rows back)))
