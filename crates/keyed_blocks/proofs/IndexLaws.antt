-- What an entry of an index says of the rows.
use Rattle.std.proofs.Common.{◌≡◌, ℕ, suc, true, false, T, List, [], ◌∷◌, ◌++◌, length, map, slice_get, slice_index_or, ◌+◌, ◌<◌, arith, Some, None, Result, Ok, refl, sym, ap, ◌∙◌, subst}
use Rattle.std.specs.List.{AllByRecursion}
use Rattle.std.specs.Ordering.{is_lt}
use Rattle.std.specs.FinMap.{get, get-from_entries}
use Rattle.std.specs.FinMap.Entries.{find, is_sorted}
use Rattle.std.proofs.lemmas.List.{append_assoc, map-append}
use Rattle.std.proofs.lemmas.Option.{slice_get_read}
use Rattle.rdf_disk.specs.Files.{Disk}
use Rattle.rdf_types.specs.declared.records.Row.{Row}
use Rattle.rdf_types.specs.Places.{row_cmp, row_cmp_total}
use Rattle.rdf_codec.specs.declared.fault.CodecFault.{CodecFault}
use Rattle.rdf_codec.specs.declared.index_entries.IndexEntry.{IndexEntry}
use Rattle.rdf_codec.specs.declared.volume_blocks.VolumeBlock.{VolumeBlock}
use Rattle.rdf_codec.specs.declared.volume_blocks.VolumeBlock.TheVariants as block
use Rattle.rdf_codec.specs.VolumeReading.{volume_block_of}
use Rattle.rdf_gatelog.specs.Log.{open_blocks}
use Rattle.rdf_gatelog.specs.LogPlace.{LogPlace}
use Rattle.rdf_model.specs.Rows.{row_entry, row_map}
use Rattle.keyed_blocks.specs.Bases.{rises, entry_of, entry_place, rows_in, block_rows}
use Rattle.keyed_blocks.specs.Indexes.{Indexes, IsIndexed, IsRowsAt, HasRowsAt, joined}
use Rattle.keyed_blocks.specs.RisingLaws.{Place, in_order, tested_order}
use Rattle.keyed_blocks.proofs.FindLaws.{Entry, none_below, found_behind, found_before, sorted_behind, sorted_front}
use Rattle.keyed_blocks.proofs.LaidLaws.{IsRows, entries_in, head_entry, LaidAll, laid_all, Located, located, joined_parts}

-- no entry at that number of the index, or one whose block begins above the place
abbrev pub IsAbove : Place → List IndexEntry → ℕ → Type 0
IsAbove q index i = (n : IndexEntry) → slice_get index i ≡ Some n → is_lt (row_cmp q (entry_place n)) ≡ true

-- blocks that begin above a place have no row there
none_behind : (q : Place) (last blocks : List (List ℕ)) → AllByRecursion IsRows blocks → IsAbove q (entries_in last blocks) 0 → T (is_sorted row_cmp (map row_entry (joined (block_rows blocks))))
    → find row_cmp q (map row_entry (joined (block_rows blocks))) ≡ None
none_behind q last [] all above sorted = refl
none_behind q last (p ∷ ps) all above sorted =
    let r : IsRows p = all.0 in
    let rows_are : rows_in (volume_block_of p) ++ joined (block_rows ps) ≡ r.row ∷ (r.rest ++ joined (block_rows ps)) =
    ap (λ (x : Result VolumeBlock CodecFault). rows_in x ++ joined (block_rows ps)) r.read in
    let first : head_entry (length (open_blocks last)) (rows_in (volume_block_of p)) ≡ entry_of (length (open_blocks last)) r.row =
    ap (λ (x : Result VolumeBlock CodecFault). head_entry (length (open_blocks last)) (rows_in x)) r.read in
    ap (λ (rows : List Row). find row_cmp q (map row_entry rows)) rows_are
    ∙ none_below q (row_entry r.row) (map row_entry (r.rest ++ joined (block_rows ps))) (subst (λ (rows : List Row). T (is_sorted row_cmp (map row_entry rows))) rows_are sorted)
    (above (entry_of (length (open_blocks last)) r.row) (ap Some first))

module _ (q : Place) (front : List Row) (row : Row) (rest back : List Row) where
  abbrev ahead : List Entry
  ahead = map row_entry front

  abbrev own : List Entry
  own = map row_entry (row ∷ rest)

  abbrev over : List Entry
  over = map row_entry back

  parts : map row_entry (front ++ ((row ∷ rest) ++ back)) ≡ ahead ++ (own ++ over)
  parts = map-append row_entry front ((row ∷ rest) ++ back) ∙ ap (λ (es : List Entry). ahead ++ es) (map-append row_entry (row ∷ rest) back)

  sorted_parts : T (is_sorted row_cmp (map row_entry (front ++ ((row ∷ rest) ++ back)))) → T (is_sorted row_cmp (ahead ++ (own ++ over)))
  sorted_parts h = subst (λ (es : List Entry). T (is_sorted row_cmp es)) parts h

  pub sorted_over : T (is_sorted row_cmp (map row_entry (front ++ ((row ∷ rest) ++ back)))) → T (is_sorted row_cmp over)
  sorted_over h = sorted_behind own over (sorted_behind ahead (own ++ over) (sorted_parts h))

  pub sorted_own : T (is_sorted row_cmp (map row_entry (front ++ ((row ∷ rest) ++ back)))) → T (is_sorted row_cmp own)
  sorted_own h = sorted_front own over (sorted_behind ahead (own ++ over) (sorted_parts h))

  pub found_own : T (is_sorted row_cmp (map row_entry (front ++ ((row ∷ rest) ++ back)))) → is_lt (row_cmp q (row.file, row.key)) ≡ false → find row_cmp q over ≡ None
      → find row_cmp q (map row_entry (front ++ ((row ∷ rest) ++ back))) ≡ find row_cmp q own
  found_own h upto none =
      ap (find row_cmp q) parts ∙ found_behind q ahead (row_entry row) (map row_entry rest ++ over) (sorted_parts h) upto ∙ found_before q own over none

module _ (index : List IndexEntry) (rows : List Row) (payloads : List (List ℕ)) (x : Indexes index rows payloads) where
  all : LaidAll x.blocks rows index
  all = laid_all x.blocks rows index x.base

  -- all blocks have the rows
  pub joined_is : joined (block_rows x.blocks) ≡ rows
  joined_is = sym all.rows_are

  sorted : T (is_sorted row_cmp (map row_entry (joined (block_rows x.blocks))))
  sorted = subst (λ (rows : List Row). T (is_sorted row_cmp (map row_entry rows))) all.rows_are (in_order rows all.risen)

  -- the block of an entry
  pub there : (i : ℕ) (entry : IndexEntry) → slice_get index i ≡ Some entry → Located [] x.blocks i entry
  there i entry is = located [] x.blocks i entry all.all_rows (ap (λ (es : List IndexEntry). slice_get es i) (sym all.index_is) ∙ is)

  -- that block stands in the log
  pub stands : (i : ℕ) (entry : IndexEntry) (is : slice_get index i ≡ Some entry) → IsRowsAt payloads entry.at ((there i entry is).row ∷ (there i entry is).rest)
  stands i entry is = let w = there i entry is in record {
    payload = w.payload;
    stands = record {
      before = w.front;
      after = w.back ++ x.behind;
      payloads_are = x.payloads_are ∙ ap (λ (b : List (List ℕ)). b ++ x.behind) w.blocks_are ∙ append_assoc w.front (w.payload ∷ w.back) x.behind;
      at_is = ap (λ (e : IndexEntry). e.at) w.entry_is;
    };
    spelled = w.read;
  }

  value : (q : Place) → get (row_map rows) q ≡ find row_cmp q (map row_entry (joined (block_rows x.blocks)))
  value q = get-from_entries row_cmp_total (map row_entry rows) q ∙ ap (λ (rows : List Row). find row_cmp q (map row_entry rows)) all.rows_are

  -- below all rows there is none
  pub none_there : (q : Place) → IsAbove q index 0 → None ≡ get (row_map rows) q
  none_there q above = sym (value q ∙ none_behind q [] x.blocks all.all_rows (subst (λ (es : List IndexEntry). IsAbove q es 0) all.index_is above) sorted)

  abbrev Parts : {i : ℕ} {entry : IndexEntry} → Located [] x.blocks i entry → List Row
  Parts w = joined (block_rows w.front) ++ ((w.row ∷ w.rest) ++ joined (block_rows w.back))

  parts_there : (i : ℕ) (entry : IndexEntry) (w : Located [] x.blocks i entry) → joined (block_rows x.blocks) ≡ Parts w
  parts_there i entry w = ap (λ (b : List (List ℕ)). joined (block_rows b)) w.blocks_are ∙ joined_parts w.front w.payload w.back
      ∙ ap (λ (r : Result VolumeBlock CodecFault). joined (block_rows w.front) ++ (rows_in r ++ joined (block_rows w.back))) w.read

  in_parts : (i : ℕ) (entry : IndexEntry) (w : Located [] x.blocks i entry) → T (is_sorted row_cmp (map row_entry (Parts w)))
  in_parts i entry w = subst (λ (rows : List Row). T (is_sorted row_cmp (map row_entry rows))) (parts_there i entry w) sorted

  -- the row of a place stands in the last block that begins at or below it
  pub one_there : (q : Place) (i : ℕ) (entry : IndexEntry) (is : slice_get index i ≡ Some entry) → is_lt (row_cmp q (entry_place entry)) ≡ false → IsAbove q index (suc i)
      → find row_cmp q (map row_entry ((there i entry is).row ∷ (there i entry is).rest)) ≡ get (row_map rows) q
  one_there q i entry is upto above =
      let w = there i entry is in
      let front = joined (block_rows w.front) in
      let back = joined (block_rows w.back) in
      let risen = in_parts i entry w in
      let far : IsAbove q (entries_in w.last w.back) 0 = λ n here. above n (ap (λ (es : List IndexEntry). slice_get es (suc i)) all.index_is ∙ w.next ∙ here) in
      let none = none_behind q w.last w.back w.back_rows far (sorted_over q front w.row w.rest back risen) in
      let begins : is_lt (row_cmp q (w.row.file, w.row.key)) ≡ false = ap (λ (e : IndexEntry). is_lt (row_cmp q (entry_place e))) (sym w.entry_is) ∙ upto in
      sym (value q ∙ ap (λ (rows : List Row). find row_cmp q (map row_entry rows)) (parts_there i entry w) ∙ found_own q front w.row w.rest back risen begins none)

  some_rows : {xs ys : List Row} → Some xs ≡ Some ys → xs ≡ ys
  some_rows e = cc

  -- what these rows of the block have is what all rows have, and they rise
  pub block_has : (q : Place) (i : ℕ) (entry : IndexEntry) → slice_get index i ≡ Some entry → is_lt (row_cmp q (entry_place entry)) ≡ false → IsAbove q index (suc i)
      → (list : List Row) → slice_get (block_rows x.blocks) i ≡ Some list → (get (row_map rows) q ≡ find row_cmp q (map row_entry list)) × (rises list ≡ true)
  block_has q i entry is upto above list here =
      let w = there i entry is in
      let same : w.row ∷ w.rest ≡ list = some_rows (sym w.here ∙ here) in
      let risen = tested_order (w.row ∷ w.rest) (sorted_own q (joined (block_rows w.front)) w.row w.rest (joined (block_rows w.back)) (in_parts i entry w)) in
      (sym (one_there q i entry is upto above) ∙ ap (λ (l : List Row). find row_cmp q (map row_entry l)) same, subst (λ (l : List Row). rises l ≡ true) same risen)

-- two readings of one payload
pub same_rows : (p q : List ℕ) (rows others : List Row) → p ≡ q → volume_block_of p ≡ Ok (block.Rows rows) → volume_block_of q ≡ Ok (block.Rows others) → rows ≡ others
same_rows p q rows others same one other = ap rows_in (sym one ∙ ap volume_block_of same ∙ other)

-- an entry that was taken from the index
pub entry_here : (index items : List IndexEntry) (i : ℕ) (entry : IndexEntry) → items ≡ index → i < length index → entry ≡ slice_index_or items i entry → slice_get index i ≡ Some entry
entry_here index items i entry same within is =
    subst (λ (es : List IndexEntry). slice_get es i ≡ Some entry) same (slice_get_read items (length items) i entry refl (omega (arith, within, ap length same)) is)

-- the log has the block of an entry
pub has_rows : (index : List IndexEntry) (log : LogPlace) (disk : Disk) (i : ℕ) (entry : IndexEntry) → IsIndexed index log disk → slice_get index i ≡ Some entry → HasRowsAt log entry.at disk
has_rows index log disk i entry h is =
    let w = there index h.rows h.payloads h.indexes i entry is in
    record { rows = w.row ∷ w.rest; payloads = h.payloads; at_rest = h.at_rest; stands = stands index h.rows h.payloads h.indexes i entry is }

-- the rows of the block of an entry
pub block_read : (index : List IndexEntry) (whole : List Row) (payloads : List (List ℕ)) (x : Indexes index whole payloads) (i : ℕ) (entry : IndexEntry) → slice_get index i ≡ Some entry
    → (rows : List Row) → ((one : List Row) → IsRowsAt payloads entry.at one → rows ≡ one) → (slice_get (block_rows x.blocks) i ≡ Some rows) × (joined (block_rows x.blocks) ≡ whole)
block_read index whole payloads x i entry here rows is =
    let w = there index whole payloads x i entry here in
    (w.here ∙ ap Some (sym (is (w.row ∷ w.rest) (stands index whole payloads x i entry here))), joined_is index whole payloads x)

-- a search in the entries of the index
module _ (index items list : List IndexEntry) (same : items ≡ index) (seen : list ≡ items) (q : Place) (upto : ℕ) where
  lists : (i : ℕ) → slice_get list i ≡ slice_get index i
  lists i = ap (λ (es : List IndexEntry). slice_get es i) (seen ∙ same)

  module _ (next : (e : IndexEntry) → slice_get list upto ≡ Some e → is_lt (row_cmp q (entry_place e)) ≡ true) where
    pub none_found : upto ≡ 0 → IsAbove q index 0
    none_found first n here = next n (ap (slice_get list) first ∙ lists 0 ∙ here)

    pub next_found : (i : ℕ) → i + 1 ≡ upto → IsAbove q index (suc i)
    next_found i is n here = let at : upto ≡ suc i = omega (arith, is) in next n (ap (slice_get list) at ∙ lists (suc i) ∙ here)

  pub last_found : ((i : ℕ) (e : IndexEntry) → i + 1 ≡ upto → slice_get list i ≡ Some e → is_lt (row_cmp q (entry_place e)) ≡ false)
      → (i : ℕ) (e : IndexEntry) → i + 1 ≡ upto → slice_get index i ≡ Some e → is_lt (row_cmp q (entry_place e)) ≡ false
  last_found last i e is here = last i e is (lists i ∙ here)
