-- The blocks of a volume's file: what is read is spelled so, and what is spelled so is read.
use Rattle.std.proofs.Common.{◌≡◌, ℕ, ◌*◌, ◌<◌, ◌≤◌, ◌^◌, true, false, cond, List, [], ◌∷◌, ◌++◌, length, Option, Some, None, Result, Ok, Err, refl, sym, ap, subst, ◌∙◌, append_assoc, append-nil, map, arith, inl, inr}
use Rattle.std.specs.Int.{w16, w32, w64, to_be_bytes}
use Rattle.std.specs.List.{AllByRecursion, flat_map}
use Rattle.std.specs.List.Sorted.{IsStrictlySortedBy}
use Rattle.std.specs.Ordering.{is_lt}
use Rattle.std.specs.declared.cmp.Ordering.{Ordering}
use Rattle.std.specs.declared.cmp.Ordering.TheVariants.{Less, Equal, Greater}
use Rattle.std.proofs.lemmas.Bool.{ltb-false, le-ltb}
use Rattle.std.proofs.lemmas.List.{length-append}
use Rattle.std.proofs.lemmas.List.Elements.{All-from_recursion, recursion_from_All}
use Rattle.rdf_types.specs.Limits.{IsFileName, IsKey}
use Rattle.rdf_codec.specs.declared.index_entries.IndexEntry.{IndexEntry}
use Rattle.rdf_types.specs.declared.records.Row.{Row}
use Rattle.rdf_types.specs.declared.records.Change.{Change}
use Rattle.rdf_types.specs.Places.{row_cmp, row_cmp_total}
use Rattle.rdf_codec.specs.declared.volume_blocks.VolumeBlock.{VolumeBlock}
use Rattle.rdf_codec.specs.declared.volume_blocks.VolumeBlock.TheVariants.{Rows, End, Batch, Index}
use Rattle.rdf_codec.specs.Spelling.{text, optional, row_spelling, change_spelling, IsRow, IsChange}
use Rattle.rdf_codec.specs.declared.fault.CodecFault.{CodecFault}
use Rattle.rdf_codec.specs.declared.fault.CodecFault.TheVariants.{BadNumber}
use Rattle.rdf_codec.specs.Reading.{IsPlacedWithin}
use Rattle.rdf_codec.specs.Lists.{counted_at, whole}
use Rattle.rdf_codec.specs.VolumeBlocks.{row_place, rows_spelling, entry_spelling, volume_spelling, most_bytes, IsIndexEntry, IsVolumeBlock}
use Rattle.rdf_codec.specs.VolumeReading.{is_above, file_key_at, place_at, row_at, next_row, change_at, entry_at, rows_at, end_at, batch_at, index_at, volume_block_at, is_too_long, volume_block_of}
use Rattle.rdf_codec.proofs.Blocks.{rows_few}
use Rattle.rdf_codec.proofs.Lengths.{optional_few}
use Rattle.rdf_codec.proofs.Fields.{IsBytes, chosen}
use Rattle.rdf_codec.proofs.Faults.{fault_is, not_both}
use Rattle.rdf_codec.proofs.Wholes.{IsWhole, read_whole}
use Rattle.rdf_codec.proofs.Formats.{IsRead, Format, ends, then, format_read, tested_read, AllSpelled, IsOfKind, tagged_read}
use Rattle.rdf_codec.proofs.Records.{number32, number64, file, key, value, maybe}
use Rattle.rdf_codec.proofs.ListFormats.{Chain, Counted, counted_spelling, counted_read}

-- ---- rows and changes

abbrev pub Place : Type 0
Place = List ℕ × List ℕ

abbrev place_spelling : Place → List ℕ
place_spelling p = text p.0 ++ text p.1

abbrev pub IsPlace : Place → Type 0
IsPlace p = IsFileName p.0 × IsKey p.1

file_key_read : IsRead file_key_at place_spelling IsPlace
file_key_read = format_read (file (λ f. key (λ k. ends (f, k)))) place_spelling IsPlace (record {
  made = λ p fit. (ap (λ s. text p.0 ++ s) (sym (append-nil (text p.1.0))), (fit.0, fit.1.0));
  parts = λ p fit. ((p.0, (p.1, tt)), refl, (fit.0, (fit.1, tt)));
})

abbrev IsPlaceAbove : Option Place → Place → Type 0
IsPlaceAbove last p = IsPlace p × (is_above last p ≡ true)

place_read : (last : Option Place) → IsRead (place_at last) place_spelling (IsPlaceAbove last)
unfolding place_at
place_read last = tested_read file_key_at place_spelling IsPlace (is_above last) file_key_read (λ p fit. omega (arith, length-append (text p.0) (text p.1)))

abbrev pub IsRowAbove : Option Place → Row → Type 0
IsRowAbove last row = IsRow row × (is_above last (row_place row) ≡ true)

pub row_read : (last : Option Place) → IsRead (row_at last) row_spelling (IsRowAbove last)
unfolding row_at
row_read last =
    format_read (then (place_at last) place_spelling (IsPlaceAbove last) (place_read last) (λ p. value (λ v. ends (record { file = p.0; key = p.1; value = v })))) row_spelling (IsRowAbove last) (record {
      made = λ p fit. (ap (λ s. place_spelling p.0 ++ s) (sym (append-nil (text p.1.0))), ((fit.0.0.0, fit.0.0.1, fit.1.0), fit.0.1));
      parts = λ row fit. ((row_place row, (row.value, tt)), refl, (((fit.0.0, fit.0.1), fit.1), (fit.0.2, tt)));
    })

to_the_right : (a b c : List ℕ) → (a ++ b) ++ c ≡ a ++ (b ++ (c ++ []))
to_the_right a b c = simp (append_assoc, append-nil) refl

pub change_read : IsRead change_at change_spelling IsChange
unfolding change_at
change_read =
    format_read (file (λ f. key (λ k. maybe (λ after. ends (record { file = f; key = k; after = after }))))) change_spelling IsChange (record {
      made = λ p fit. (to_the_right (text p.0) (text p.1.0) (optional p.1.1.0), (fit.0, fit.1.0, fit.1.1.0));
      parts = λ change fit. ((change.file, (change.key, (change.after, tt))), refl, (fit.0, (fit.1, (fit.2, tt))));
    })

pub entry_read : IsRead entry_at entry_spelling IsIndexEntry
unfolding entry_at
entry_read =
    format_read (number64 (λ at. file (λ f. key (λ k. ends (record { at = at; file = f; key = k }))))) entry_spelling IsIndexEntry (record {
      made = λ p fit. (to_the_right (to_be_bytes w64 p.0) (text p.1.0) (text p.1.1.0), (fit.0, fit.1.0, fit.1.1.0));
      parts = λ entry fit. ((entry.at, (entry.file, (entry.key, tt))), refl, (fit.0, (fit.1, (fit.2, tt))));
    })

-- ---- blocks

-- what reading finds of a block, which says nothing of its length
abbrev pub FitsBlock : VolumeBlock → Type 0
FitsBlock (Rows rows) = Counted row_at next_row row_spelling IsRowAbove row_read 1 65535 None rows
FitsBlock (End restart rows blocks) = (restart < 2 ^ 64) × (rows < 2 ^ 32) × (blocks < 2 ^ 32)
FitsBlock (Batch restart changes) = (restart < 2 ^ 64) × Counted {S = ℕ} (λ _. change_at) (λ _. 0) change_spelling (λ _. IsChange) (λ _. change_read) 0 64 0 changes
FitsBlock (Index entries) = Counted {S = ℕ} (λ _. entry_at) (λ _. 0) entry_spelling (λ _. IsIndexEntry) (λ _. entry_read) 1 65535 0 entries

abbrev RowChain : Option Place → List Row → Type 0
RowChain = Chain row_at next_row row_spelling IsRowAbove row_read

abbrev ChangeChain : ℕ → List Change → Type 0
ChangeChain = Chain {S = ℕ} (λ _. change_at) (λ _. 0) change_spelling (λ _. IsChange) (λ _. change_read)

abbrev EntryChain : ℕ → List IndexEntry → Type 0
EntryChain = Chain {S = ℕ} (λ _. entry_at) (λ _. 0) entry_spelling (λ _. IsIndexEntry) (λ _. entry_read)

abbrev rows : Format VolumeBlock
rows =
    then (counted_at row_at next_row 1 65535 None) (counted_spelling row_at next_row row_spelling IsRowAbove row_read) (Counted row_at next_row row_spelling IsRowAbove row_read 1 65535 None)
    (counted_read row_at next_row row_spelling IsRowAbove row_read 1 65535 None (omega arith)) (λ rs. ends (Rows rs))

abbrev end : Format VolumeBlock
end = number64 (λ restart. number32 (λ rs. number32 (λ blocks. ends (End restart rs blocks))))

abbrev changes_spelling : List Change → List ℕ
changes_spelling = counted_spelling {S = ℕ} (λ _. change_at) (λ _. 0) change_spelling (λ _. IsChange) (λ _. change_read)

abbrev AreChanges : List Change → Type 0
AreChanges = Counted {S = ℕ} (λ _. change_at) (λ _. 0) change_spelling (λ _. IsChange) (λ _. change_read) 0 64 0

abbrev batch : Format VolumeBlock
batch =
    number64 (λ restart. then (counted_at {S = ℕ} (λ _. change_at) (λ _. 0) 0 64 0) changes_spelling AreChanges
    (counted_read {S = ℕ} (λ _. change_at) (λ _. 0) change_spelling (λ _. IsChange) (λ _. change_read) 0 64 0 (omega arith)) (λ cs. ends (Batch restart cs)))

abbrev entries_spelling : List IndexEntry → List ℕ
entries_spelling = counted_spelling {S = ℕ} (λ _. entry_at) (λ _. 0) entry_spelling (λ _. IsIndexEntry) (λ _. entry_read)

abbrev AreEntries : List IndexEntry → Type 0
AreEntries = Counted {S = ℕ} (λ _. entry_at) (λ _. 0) entry_spelling (λ _. IsIndexEntry) (λ _. entry_read) 1 65535 0

abbrev index : Format VolumeBlock
index =
    then (counted_at {S = ℕ} (λ _. entry_at) (λ _. 0) 1 65535 0) entries_spelling AreEntries
    (counted_read {S = ℕ} (λ _. entry_at) (λ _. 0) entry_spelling (λ _. IsIndexEntry) (λ _. entry_read) 1 65535 0 (omega arith)) (λ es. ends (Index es))

abbrev kinds : List (ℕ × Format VolumeBlock)
kinds = (33, rows) ∷ (34, end) ∷ (35, batch) ∷ (36, index) ∷ []

rows_spelled : (rs : List Row) → volume_spelling (Rows rs) ≡ 33 ∷ ((to_be_bytes w16 (length rs) ++ flat_map row_spelling rs) ++ [])
rows_spelled rs = ap (λ t. 33 ∷ t) (sym (append-nil (to_be_bytes w16 (length rs) ++ flat_map row_spelling rs)))

end_spelled : (restart rs blocks : ℕ) → volume_spelling (End restart rs blocks) ≡ 34 ∷ (to_be_bytes w64 restart ++ (to_be_bytes w32 rs ++ (to_be_bytes w32 blocks ++ [])))
end_spelled restart rs blocks = ap (λ t. 34 ∷ t) (to_the_right (to_be_bytes w64 restart) (to_be_bytes w32 rs) (to_be_bytes w32 blocks))

two_right : (a b c : List ℕ) → (a ++ b) ++ c ≡ a ++ ((b ++ c) ++ [])
two_right a b c = simp (append_assoc, append-nil) refl

batch_spelled : (restart : ℕ) (cs : List Change) → volume_spelling (Batch restart cs) ≡ 35 ∷ (to_be_bytes w64 restart ++ (changes_spelling cs ++ []))
batch_spelled restart cs = ap (λ t. 35 ∷ t) (two_right (to_be_bytes w64 restart) (to_be_bytes w16 (length cs)) (flat_map change_spelling cs))

index_spelled : (es : List IndexEntry) → volume_spelling (Index es) ≡ 36 ∷ (entries_spelling es ++ [])
index_spelled es = ap (λ t. 36 ∷ t) (sym (append-nil (to_be_bytes w16 (length es) ++ flat_map entry_spelling es)))

all_spelled : AllSpelled volume_spelling FitsBlock kinds
all_spelled = (
  λ p fit. (rows_spelled p.0, fit.0),
  ((λ p fit. (end_spelled p.0 p.1.0 p.1.1.0, (fit.0, fit.1.0, fit.1.1.0))), ((λ p fit. (batch_spelled p.0 p.1.0, (fit.0, fit.1.0))), ((λ p fit. (index_spelled p.0, fit.0)), tt))),
)

of_a_kind : (block : VolumeBlock) → FitsBlock block → IsOfKind volume_spelling kinds block
of_a_kind (Rows rs) fit = record { kind = 33; format = rows; parts = (rs, tt); made = refl; fits = (fit, tt); spelled = rows_spelled rs; picked = λ at i. refl }
of_a_kind (End restart rs blocks) fit = record {
  kind = 34;
  format = end;
  parts = (restart, (rs, (blocks, tt)));
  made = refl;
  fits = (fit.0, (fit.1, (fit.2, tt)));
  spelled = end_spelled restart rs blocks;
  picked = λ at i. refl;
}
of_a_kind (Batch restart cs) fit = record { kind = 35; format = batch; parts = (restart, (cs, tt)); made = refl; fits = (fit.0, (fit.1, tt)); spelled = batch_spelled restart cs; picked = λ at i. refl }
of_a_kind (Index es) fit = record { kind = 36; format = index; parts = (es, tt); made = refl; fits = (fit, tt); spelled = index_spelled es; picked = λ at i. refl }

pub block_read : IsRead volume_block_at volume_spelling FitsBlock
unfolding volume_block_at rows_at end_at batch_at index_at
block_read = tagged_read volume_spelling FitsBlock kinds all_spelled of_a_kind

-- ---- rows in order

less : (r : Ordering) → is_lt r ≡ true → r ≡ Less
less Less e = refl
less Equal e = absurd cc
less Greater e = absurd cc

-- a row that is above the last one is above those before it too
above_all : (p : Place) (rs : List Row) → RowChain (Some p) rs → AllByRecursion (λ y. row_cmp p y ≡ Less) (map row_place rs)
above_all p [] chain = tt
above_all p (row ∷ rs) chain =
    let here = less (row_cmp p (row_place row)) chain.0.1 in
    (here, passed_on (map row_place rs) (above_all (row_place row) rs chain.1)) where
      passed_on : (ys : List Place) → AllByRecursion (λ y. row_cmp (row_place row) y ≡ Less) ys → AllByRecursion (λ y. row_cmp p y ≡ Less) ys
      passed_on [] all = tt
      passed_on (y ∷ ys) all = (row_cmp_total.trans p (row_place row) y (less (row_cmp p (row_place row)) chain.0.1) all.0, passed_on ys all.1)

chain_rises : (last : Option Place) (rs : List Row) → RowChain last rs → IsStrictlySortedBy row_cmp (map row_place rs)
unfolding IsStrictlySortedBy
chain_rises last [] chain = tt
chain_rises last (row ∷ rs) chain = (above_all (row_place row) rs chain.1, chain_rises (Some (row_place row)) rs chain.1)

chain_rows : (last : Option Place) (rs : List Row) → RowChain last rs → AllByRecursion IsRow rs
chain_rows last [] chain = tt
chain_rows last (row ∷ rs) chain = (chain.0.0, chain_rows (Some (row_place row)) rs chain.1)

-- rows in order that are above the last one
risen_chain : (last : Option Place) (rs : List Row) → AllByRecursion IsRow rs → IsStrictlySortedBy row_cmp (map row_place rs) → AllByRecursion (λ p. is_above last p ≡ true) (map row_place rs) → RowChain last rs
unfolding IsStrictlySortedBy
risen_chain last [] limits rising above = tt
risen_chain last (row ∷ rs) limits rising above =
    ((limits.0, above.0), risen_chain (Some (row_place row)) rs limits.1 rising.1 (tested (map row_place rs) rising.0)) where
      tested : (ys : List Place) → AllByRecursion (λ y. row_cmp (row_place row) y ≡ Less) ys → AllByRecursion (λ p. is_above (Some (row_place row)) p ≡ true) ys
      tested [] all = tt
      tested (y ∷ ys) all = (ap is_lt all.0, tested ys all.1)

none_above : (ys : List Place) → AllByRecursion (λ p. is_above None p ≡ true) ys
none_above [] = tt
none_above (y ∷ ys) = (refl, none_above ys)

change_chain : (cs : List Change) → AllByRecursion IsChange cs → ChangeChain 0 cs
change_chain [] all = tt
change_chain (c ∷ cs) all = (all.0, change_chain cs all.1)

chain_changes : (cs : List Change) → ChangeChain 0 cs → AllByRecursion IsChange cs
chain_changes [] chain = tt
chain_changes (c ∷ cs) chain = (chain.0, chain_changes cs chain.1)

entry_chain : (es : List IndexEntry) → AllByRecursion IsIndexEntry es → EntryChain 0 es
entry_chain [] all = tt
entry_chain (e ∷ es) all = (all.0, entry_chain es all.1)

chain_entries : (es : List IndexEntry) → EntryChain 0 es → AllByRecursion IsIndexEntry es
chain_entries [] chain = tt
chain_entries (e ∷ es) chain = (chain.0, chain_entries es chain.1)

-- ---- the length of a block of rows

abbrev IsShort : VolumeBlock → Type 0
IsShort (Rows rs) = length (rows_spelling rs) ≤ 4096
IsShort (End restart rs blocks) = Unit {0}
IsShort (Batch restart cs) = Unit {0}
IsShort (Index es) = Unit {0}

pub block_fits : (block : VolumeBlock) → IsVolumeBlock block → FitsBlock block
block_fits (Rows rs) is = record {
  some = omega (arith, is.spelled.some);
  few = omega (arith, rows_few rs, is.spelled.few);
  chain = risen_chain None rs (recursion_from_All IsRow rs is.within) is.spelled.rising (none_above (map row_place rs));
}
block_fits (End restart rs blocks) is = is.within
block_fits (Batch restart cs) is = (is.within.0, record { some = omega arith; few = is.spelled; chain = change_chain cs (recursion_from_All IsChange cs is.within.1) })
block_fits (Index es) is = record { some = omega (arith, is.spelled.some); few = is.spelled.few; chain = entry_chain es (recursion_from_All IsIndexEntry es is.within) }

fit_is : (block : VolumeBlock) → FitsBlock block → IsShort block → IsVolumeBlock block
fit_is (Rows rs) fit short = record {
  spelled = record { some = omega (arith, fit.some); rising = chain_rises None rs fit.chain; few = short };
  within = All-from_recursion IsRow rs (chain_rows None rs fit.chain);
}
fit_is (End restart rs blocks) fit short = record { spelled = tt; within = fit }
fit_is (Batch restart cs) fit short = record { spelled = fit.1.few; within = (fit.0, All-from_recursion IsChange cs (chain_changes cs fit.1.chain)) }
fit_is (Index es) fit short = record {
  spelled = record { some = omega (arith, fit.some); few = fit.few };
  within = All-from_recursion IsIndexEntry es (chain_entries es fit.chain);
}

-- ---- whole blocks

block_whole : IsWhole (whole volume_block_at) volume_spelling FitsBlock
block_whole = read_whole volume_block_at volume_spelling FitsBlock block_read

short_is : (block : VolumeBlock) → is_too_long (volume_spelling block) ≡ false → IsShort block
short_is (Rows rs) e = ltb-false _ _ e
short_is (End restart rs blocks) e = tt
short_is (Batch restart cs) e = tt
short_is (Index es) e = tt

is_short : (block : VolumeBlock) → IsVolumeBlock block → is_too_long (volume_spelling block) ≡ false
is_short (Rows rs) is = le-ltb _ _ is.spelled.few
is_short (End restart rs blocks) is = refl
is_short (Batch restart cs) is = refl
is_short (Index es) is = refl

first_there : (bytes : List ℕ) → is_too_long bytes ≡ true → 0 < length bytes
first_there [] e = absurd cc
first_there (b ∷ bytes) e = omega arith

pub volume_whole : IsWhole volume_block_of volume_spelling IsVolumeBlock
volume_whole = record { takes = takes; again = again; placing = placing } where
  takes : (bytes : List ℕ) (block : VolumeBlock) → IsBytes bytes → volume_block_of bytes ≡ Ok block → IsVolumeBlock block × (bytes ≡ volume_spelling block)
  takes bytes block fits e =
      elim (chosen (is_too_long bytes) (Err (BadNumber 0)) (whole volume_block_at bytes) (Ok block) e) [
        | inl w ↦ absurd (not_both block (BadNumber 0) _ refl (sym w.1))
        | inr w ↦ let t = block_whole.takes bytes block fits w.1 in (fit_is block t.0 (short_is block (ap is_too_long (sym t.1) ∙ w.0)), t.1)
      ]

  again : (block : VolumeBlock) → IsVolumeBlock block → volume_block_of (volume_spelling block) ≡ Ok block
  again block is = ap (λ b. cond b (Err (BadNumber 0)) (whole volume_block_at (volume_spelling block))) (is_short block is) ∙ block_whole.again block (block_fits block is)

  placing : (bytes : List ℕ) (e : CodecFault) → IsBytes bytes → volume_block_of bytes ≡ Err e → IsPlacedWithin bytes e
  placing bytes e fits h =
      elim (chosen (is_too_long bytes) (Err (BadNumber 0)) (whole volume_block_at bytes) (Err e) h) [
        | inl w ↦ let bad : Result VolumeBlock CodecFault = Err (BadNumber 0) in subst (IsPlacedWithin bytes) (fault_is (BadNumber 0) e bad refl w.1) (first_there bytes w.0)
        | inr w ↦ block_whole.placing bytes e fits w.1
      ]

-- ---- how long a block is

change_few : (c : Change) → IsChange c → length (change_spelling c) ≤ 252
change_few c is =
    omega (arith, is.0.few, is.1.few, optional_few c.after is.2, length-append (text c.file ++ text c.key) (optional c.after), length-append (text c.file) (text c.key))

changes_few : (cs : List Change) → AllByRecursion IsChange cs → length (flat_map change_spelling cs) ≤ 252 * length cs
changes_few [] all = omega arith
changes_few (c ∷ cs) all = omega (arith, change_few c all.0, changes_few cs all.1, length-append (change_spelling c) (flat_map change_spelling cs))

rows_some : (rs : List Row) → AllByRecursion IsRow rs → 0 < length rs → 6 ≤ length (flat_map row_spelling rs)
rows_some [] all some = absurd (omega arith)
rows_some (r ∷ rs) all some =
    omega (arith, all.0.0.some, all.0.1.some, all.0.2.some, length-append (row_spelling r) (flat_map row_spelling rs), length-append (text r.file ++ text r.key) (text r.value), length-append (text r.file) (text r.key))

entry_few : (e : IndexEntry) → IsIndexEntry e → length (entry_spelling e) ≤ 58
entry_few e is = omega (arith, is.1.few, is.2.few, length-append (to_be_bytes w64 e.at ++ text e.file) (text e.key), length-append (to_be_bytes w64 e.at) (text e.file))

entries_few : (es : List IndexEntry) → AllByRecursion IsIndexEntry es → length (flat_map entry_spelling es) ≤ 58 * length es
entries_few [] all = omega arith
entries_few (e ∷ es) all = omega (arith, entry_few e all.0, entries_few es all.1, length-append (entry_spelling e) (flat_map entry_spelling es))

entries_some : (es : List IndexEntry) → 0 < length es → 8 ≤ length (flat_map entry_spelling es)
entries_some [] some = absurd (omega arith)
entries_some (e ∷ es) some =
    omega (arith, length-append (entry_spelling e) (flat_map entry_spelling es), length-append (to_be_bytes w64 e.at ++ text e.file) (text e.key), length-append (to_be_bytes w64 e.at) (text e.file))

pub block_length : (block : VolumeBlock) → IsVolumeBlock block → (9 ≤ length (volume_spelling block)) × (length (volume_spelling block) ≤ most_bytes block)
block_length (Rows rs) is = (omega (arith, rows_some rs (recursion_from_All IsRow rs is.within) is.spelled.some), omega (arith, is.spelled.few))
block_length (End restart rs blocks) is = (omega arith, omega arith)
block_length (Batch restart cs) is =
    let few = changes_few cs (recursion_from_All IsChange cs is.within.1) in (omega (arith), omega (arith, few, is.spelled))
block_length (Index es) is =
    (omega (arith, entries_some es is.spelled.some), omega (arith, entries_few es (recursion_from_All IsIndexEntry es is.within), is.spelled.few))
