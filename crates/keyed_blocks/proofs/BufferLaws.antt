-- Rows in a buffer, as a block.
use Rattle.std.proofs.Common.{◌≡◌, ℕ, ◌+◌, ◌<◌, ◌≤◌, true, List, [], ◌∷◌, ◌++◌, length, sym, ap, ◌∙◌, subst, arith, length-append}
use Rattle.std.proofs.lemmas.Grind.{flat_map-append}
use Rattle.std.proofs.lemmas.List.{append-nil}
use Rattle.std.specs.List.{flat_map}
use Rattle.rdf_types.specs.declared.records.Row.{Row}
use Rattle.rdf_codec.specs.Spelling.{row_spelling}
use Rattle.rdf_codec.specs.VolumeBlocks.{rows_spelling, FillsBlock}
use Rattle.keyed_blocks.specs.Bases.{rises}
use Rattle.keyed_blocks.specs.Buffers.{FitsBlock}
use Rattle.keyed_blocks.specs.RisingLaws.{rises_more, rises_sorted}
use Rattle.keyed_blocks.specs.Writing.{is_next}

-- rows that rise and are few enough fill a block
pub fills : (rows : List Row) → rises rows ≡ true → 0 < length rows → length (rows_spelling rows) ≤ 4096 → FillsBlock rows
fills rows risen some few = record { some = some; rising = rises_sorted rows risen; few = few }

-- a row more makes the block longer by its own bytes
pub spelled_more : (rows : List Row) (row : Row) → length (rows_spelling (rows ++ row ∷ [])) ≡ length (rows_spelling rows) + length (row_spelling row)
spelled_more rows row =
    let more : flat_map row_spelling (rows ++ row ∷ []) ≡ flat_map row_spelling rows ++ row_spelling row =
    flat_map-append row_spelling rows (row ∷ []) ∙ ap (λ (l : List ℕ). flat_map row_spelling rows ++ l) (append-nil (row_spelling row)) in
    omega (arith, ap length more, length-append (flat_map row_spelling rows) (row_spelling row))

pub buffer_fills : (rows now : List Row) (bytes : ℕ) → rows ≡ now → FitsBlock rows bytes → 0 < length now → FillsBlock rows
buffer_fills rows now bytes same b some = fills rows b.risen (omega (arith, ap length same, some)) (omega (arith, b.spelled, b.few))

-- the rows of a buffer with the next one more
pub buffer_more : (rows now next : List Row) (bytes : ℕ) (row : Row) (n : ℕ) → rows ≡ now → FitsBlock rows bytes → next ≡ rows ++ row ∷ [] → n ≡ length (row_spelling row) → is_next now row ≡ true
    → length (rows_spelling (now ++ row ∷ [])) ≤ 4096 → FitsBlock next (bytes + n)
buffer_more rows now next bytes row n same b next_is long above few =
    let all : rows ++ row ∷ [] ≡ now ++ row ∷ [] = ap (λ (l : List Row). l ++ row ∷ []) same in
    let spelled : bytes + n ≡ length (rows_spelling (rows ++ row ∷ [])) = omega (arith, b.spelled, long, spelled_more rows row) in
    let fits : FitsBlock (rows ++ row ∷ []) (bytes + n) = record {
      spelled = spelled;
      few = omega (arith, spelled, ap (λ (l : List Row). length (rows_spelling l)) all, few);
      risen = rises_more rows row b.risen (subst (λ (l : List Row). is_next l row ≡ true) (sym same) above);
    } in
    subst (λ (l : List Row). FitsBlock l (bytes + n)) (sym next_is) fits
