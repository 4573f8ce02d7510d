-- Bytes written over others, read place by place.
use Rattle.std.proofs.Common.{◌≡◌, inl, inr, ℕ, ◌+◌, ◌-◌, ◌<◌, ◌≤◌, max, List, [], ◌++◌, length, get_or, take, drop, replicate, Option, Some, None, false, sym, ◌∙◌, ap, arith, length-append, length-take}
use Rattle.std.proofs.lemmas.List.{ext_get_or, get_or-take, get_or_past, get_or_append_left, get_or-append_right, get_or-replicate, length-replicate}
use Rattle.std.proofs.lemmas.Bool.{cases_lt}
use Rattle.std.specs.Option.{unwrap_or}
use Rattle.rdf_disk.specs.Files.{patched}
use Rattle.rdf_disk.specs.MemoryChanges.{padded, written}
use Rattle.rdf_disk.specs.MemoryUndo.{content, IsLong}
use Rattle.rdf_disk.proofs.EditLaws.{edit_long, edit_outside}
use Rattle.rdf_disk.proofs.MemoryTears.{fill_long, fill_read, pad_long}

pub read_within : (b : List ℕ) (at : ℕ) (bytes : List ℕ) → at ≤ length b → (i : ℕ) → at ≤ i → i < at + length bytes → get_or (patched b at bytes) i 0 ≡ get_or bytes (i - at) 0
read_within b at bytes within i from below =
    let long : length (take at b) ≡ at = omega (arith, length-take at b) in
    get_or_append_left (take at b ++ bytes) (drop (at + length bytes) b) 0 i (omega (arith, length-append (take at b) bytes, long))
    ∙ get_or-append_right (take at b) bytes at i 0 long from

-- b1 is b with zeros from its first so many bytes on, up to a place
pub record IsCleared (b b1 : List ℕ) (len at : ℕ) : Type 0 where
  pub long : length b1 ≡ length b
  pub front : (i : ℕ) → i < len → get_or b1 i 0 ≡ get_or b i 0
  pub gap : (i : ℕ) → len ≤ i → i < at → get_or b1 i 0 ≡ 0

pub cleared_none : (b b1 : List ℕ) (len at : ℕ) → b1 ≡ b → at ≤ len → IsCleared b b1 len at
cleared_none b b1 len at same over = record {
  long = ap (λ (l : List ℕ). length l) same;
  front = λ i below. ap (λ (l : List ℕ). get_or l i 0) same;
  gap = λ i from below. absurd (omega arith);
}

pub cleared_some : (b b1 : List ℕ) (len at : ℕ) → b1 ≡ patched b len (replicate (at - len) 0) → len < at → at ≤ length b → IsCleared b b1 len at
cleared_some b b1 len at is under within =
    let zeros : List ℕ = replicate (at - len) 0 in
    let n : length zeros ≡ at - len = length-replicate {A = ℕ} (at - len) 0 in
    record {
      long = ap (λ (l : List ℕ). length l) is ∙ omega (arith, edit_long b len zeros (omega arith), n);
      front = λ i below. ap (λ (l : List ℕ). get_or l i 0) is ∙ edit_outside b len zeros (omega arith) i (inl below);
      gap = λ i from below. ap (λ (l : List ℕ). get_or l i 0) is ∙ read_within b len zeros (omega arith) i from (omega (arith, n)) ∙ get_or-replicate (at - len) (i - len) 0 0 (omega arith);
    }

module _ (b b1 bytes : List ℕ) (len at : ℕ) (long : len ≤ length b) (within : at + length bytes ≤ length b) (c : IsCleared b b1 len at) where
  padded_at : at ≤ length (padded (take len b) at)
  padded_at = omega (arith, pad_long (take len b) at)

  old_long : length (take len b) ≡ len
  old_long = omega (arith, length-take len b)

  put_read : (i : ℕ) → i < max len (at + length bytes) → get_or (patched b1 at bytes) i 0 ≡ get_or (patched (padded (take len b) at) at bytes) i 0
  put_read i below = elim (cases_lt i at) [
    | inl before ↦ edit_outside b1 at bytes (omega (arith, c.long)) i (inl before) ∙ front i before ∙ sym (fill_read [] false [] (take len b) at (length bytes) bytes (omega arith) i (inl before))
    | inr from ↦ elim (cases_lt i (at + length bytes)) [
      | inl inside ↦ read_within b1 at bytes (omega (arith, c.long)) i from inside ∙ sym (read_within (padded (take len b) at) at bytes padded_at i from inside)
      | inr behind ↦ edit_outside b1 at bytes (omega (arith, c.long)) i (inr behind) ∙ c.front i (omega arith) ∙ sym (get_or-take len b i 0 (omega arith)) ∙ sym (fill_read [] false [] (take len b) at (length bytes) bytes (omega arith) i (inr behind))
    ]
  ]
    where
      front : (i : ℕ) → i < at → get_or b1 i 0 ≡ get_or (take len b) i 0
      front i before = elim (cases_lt i len) [
        | inl low ↦ c.front i low ∙ sym (get_or-take len b i 0 low)
        | inr high ↦ c.gap i high before ∙ sym (get_or_past (take len b) i 0 (omega (arith, old_long)))
      ]

  pub put_bytes : take (max len (at + length bytes)) (patched b1 at bytes) ≡ patched (padded (take len b) at) at bytes
  put_bytes =
      let end = max len (at + length bytes) in
      ext_get_or 0 (take (max len (at + length bytes)) (patched b1 at bytes)) (patched (padded (take len b) at) at bytes)
      (omega (arith, length-take (max len (at + length bytes)) (patched b1 at bytes), edit_long b1 at bytes (omega (arith, c.long)), c.long, fill_long [] false [] (take len b) at (length bytes) bytes (omega arith), old_long))
      (λ i below. let under : i < max len (at + length bytes) = omega (arith, length-take (max len (at + length bytes)) (patched b1 at bytes)) in get_or-take (max len (at + length bytes)) (patched b1 at bytes) i 0 under ∙ put_read i under)

-- a file with bytes written over it
pub put_content : (b b1 bytes : List ℕ) (l : Option ℕ) (len at : ℕ) → len ≡ unwrap_or l 0 → IsLong l (length b) → at + length bytes ≤ length b → IsCleared b b1 len at
    → Some (take (max len (at + length bytes)) (patched b1 at bytes)) ≡ written (content b l) at bytes
put_content b b1 bytes None len at is long within c =
    ap (λ (x : List ℕ). Some x) (put_bytes b b1 bytes len at (omega arith) within c) ∙ ap (λ (n : ℕ). Some (patched (padded (take n b) at) at bytes)) is
put_content b b1 bytes (Some n) len at is long within c =
    ap (λ (x : List ℕ). Some x) (put_bytes b b1 bytes len at (omega arith) within c) ∙ ap (λ (n : ℕ). Some (patched (padded (take n b) at) at bytes)) is
