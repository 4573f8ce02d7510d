-- What a block more makes of a base that is being built.
use Rattle.std.proofs.Common.{◌≡◌, ℕ, ◌+◌, ◌<◌, ◌==◌, ◌&&◌, ◌||◌, cond, Bool, true, false, List, [], ◌∷◌, ◌++◌, length, take, drop, Result, Ok, refl, sym, ap, ap₂, ◌∙◌, arith, append_assoc}
use Rattle.std.proofs.lemmas.List.{append-nil}
use Rattle.std.proofs.lemmas.Bool.{eq-eqb}
use Rattle.std.proofs.lemmas.Cmp.{tied_itself}
use Rattle.std.specs.Cmp.Lexicographic.{pointwise}
use Rattle.std.specs.Ordering.{is_eq}
use Rattle.rdf_types.specs.declared.records.Row.{Row}
use Rattle.rdf_types.specs.Places.{row_cmp_total}
use Rattle.rdf_codec.specs.declared.fault.CodecFault.{CodecFault}
use Rattle.rdf_codec.specs.declared.index_entries.IndexEntry.{IndexEntry}
use Rattle.rdf_codec.specs.declared.volume_blocks.VolumeBlock.{VolumeBlock}
use Rattle.rdf_codec.specs.declared.volume_blocks.VolumeBlock.TheVariants as block
use Rattle.rdf_codec.specs.VolumeReading.{volume_block_of}
use Rattle.rdf_gatelog.specs.Log.{open_blocks}
use Rattle.keyed_blocks.specs.Bases.{Building, Base, Goes, Ends, Misplaced, rises, entry_of, entry_place, same_entry, after_block, base_after}

-- blocks behind others
pub base_behind : (before ps qs : List (List ℕ)) (base : Base) → base_after before base (ps ++ qs) ≡ base_after (before ++ ps) (base_after before base ps) qs
base_behind before [] qs base = ap (λ (b : List (List ℕ)). base_after b base qs) (sym (append-nil before))
base_behind before (p ∷ ps) qs base =
    let next = after_block (length (open_blocks before)) base (volume_block_of p) in
    base_behind (before ++ p ∷ []) ps qs next ∙ ap (λ (b : List (List ℕ)). base_after b (base_after (before ++ p ∷ []) next ps) qs) (append_assoc before (p ∷ []) ps)

-- one block behind others
pub base_more : (before ps : List (List ℕ)) (p : List ℕ) (base now : Base) (b : VolumeBlock) → base_after before base ps ≡ now → volume_block_of p ≡ Ok b
    → base_after before base (ps ++ p ∷ []) ≡ after_block (length (open_blocks (before ++ ps))) now (Ok b)
base_more before ps p base now b is spelled =
    base_behind before ps (p ∷ []) base
    ∙ ap (λ (x : Base). after_block (length (open_blocks (before ++ ps))) x (volume_block_of p)) is
    ∙ ap (λ (r : Result VolumeBlock CodecFault). after_block (length (open_blocks (before ++ ps))) now r) spelled

-- the next rows, behind which nothing is listed
pub rows_next : (at : ℕ) (before : List Row) (found : List IndexEntry) (row : Row) (rest : List Row) → rises (before ++ row ∷ rest) ≡ true
    → after_block at (Goes (record { rows = before; found = found; listed = 0 })) (Ok (block.Rows (row ∷ rest))) ≡ Goes (record { rows = before ++ row ∷ rest; found = found ++ entry_of at row ∷ []; listed = 0 })
rows_next at before found row rest risen =
    ap (λ (b : Bool). cond b (Goes (record { rows = before ++ row ∷ rest; found = found ++ entry_of at row ∷ []; listed = 0 })) Misplaced) risen

same_itself : (e : IndexEntry) → same_entry e e ≡ true
same_itself e = ap₂ ◌&&◌ (eq-eqb e.at e.at refl) (ap is_eq (tied_itself row_cmp_total (entry_place e)))

all_same : (es : List IndexEntry) → pointwise same_entry es es ≡ true
all_same [] = refl
all_same (e ∷ es) = ap₂ ◌&&◌ (same_itself e) (all_same es)

-- the next entries of the index
pub entries_next : (at : ℕ) (so_far : Building) (es : List IndexEntry) → 0 < length es → es ≡ take (length es) (drop so_far.listed so_far.found)
    → after_block at (Goes so_far) (Ok (block.Index es)) ≡ Goes (record so_far { listed = so_far.listed + length es })
entries_next at so_far [] some are = absurd (omega (arith, some))
entries_next at so_far (e ∷ es) some are =
    ap (λ (l : List IndexEntry). cond (pointwise same_entry (e ∷ es) l) (Goes (record so_far { listed = so_far.listed + length (e ∷ es) })) Misplaced) (sym are)
    ∙ ap (λ (b : Bool). cond b (Goes (record so_far { listed = so_far.listed + length (e ∷ es) })) Misplaced) (all_same (e ∷ es))

or_true : (b : Bool) → (b || true) ≡ true
or_true true = refl
or_true false = refl

all_agree : (a b n d : Bool) → a ≡ true → b ≡ true → d ≡ true → (a && b && (n || d)) ≡ true
all_agree a b n d p q r =
    let same : (a && b && (n || d)) ≡ (true && true && (n || true)) = λ i. p i && q i && (n || r i) in
    same ∙ or_true n

-- the end, behind an index of all blocks
pub end_next : (at : ℕ) (rows : List Row) (found : List IndexEntry) (count blocks restart : ℕ) → count ≡ length rows → blocks ≡ length found
    → after_block at (Goes (record { rows = rows; found = found; listed = length found })) (Ok (block.End restart count blocks)) ≡ Ends rows found restart
end_next at rows found count blocks restart counted blocks_are =
    ap (λ (b : Bool). cond b (Ends rows found restart) Misplaced)
    (all_agree (count == length rows) (blocks == length found) (length found == 0) (length found == length found)
    (eq-eqb count (length rows) counted) (eq-eqb blocks (length found) blocks_are) (eq-eqb (length found) (length found) refl))
