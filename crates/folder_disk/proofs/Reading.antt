-- A read made in pieces is one read.
use Rattle.std.proofs.Common.{◌≡◌, ℕ, ◌+◌, ◌-◌, ◌≤◌, ◌++◌, min, List, [], length, take, drop, append_assoc, length-drop, Option, refl, sym, ◌∙◌, ap, arith}
use Rattle.std.proofs.lemmas.List.{append-nil, drop-drop, take_at, drop_at, take_all, drop_all, length-take}
use borrow.Rule.Slice.PartMut.{mid_of, put_mid}
use Rattle.std.proofs.Math.Seq.{take-add}
use Rattle.rdf_disk.specs.Files.{bytes_of}
use Rattle.folder_disk.specs.Names.{IsRead}

-- so much was filled in
pub record IsReading (x : Option (List ℕ)) (at : ℕ) (old : List ℕ) (filled : ℕ) (now : List ℕ) : Type 0 where
  pub within : filled ≤ min (length old) (length (bytes_of x) - at)
  pub bytes : now ≡ take filled (drop at (bytes_of x)) ++ drop filled old

pub reading_start : (x : Option (List ℕ)) (at : ℕ) (old : List ℕ) → IsReading x at old 0 old
reading_start x at old = record { within = omega arith; bytes = refl }

pub reading_step : (x : Option (List ℕ)) (at : ℕ) (old : List ℕ) (filled : ℕ) (now : List ℕ) (n : ℕ) (part : List ℕ) → IsReading x at old filled now → length now ≡ length old → length part ≡ length now - filled
    → IsRead x (at + filled) (mid_of filled (length now - filled) now) n part → IsReading x at old (filled + n) (put_mid filled (length now - filled) now part)
reading_step x at old filled now n part was same_len part_len did =
    let b : List ℕ = bytes_of x in
    let d : List ℕ = drop at b in
    let d_len : length d ≡ length b - at = length-drop at b in
    let k : ℕ = length now - filled in
    let front : length (take filled d) ≡ filled = omega (arith, length-take filled d, d_len, was.within) in
    let head : take filled now ≡ take filled d = ap (λ (l : List ℕ). take filled l) was.bytes ∙ take_at (take filled d) (drop filled old) filled front in
    let rest : drop filled now ≡ drop filled old = ap (λ (l : List ℕ). drop filled l) was.bytes ∙ drop_at (take filled d) (drop filled old) filled front in
    let all : take k (drop filled now) ≡ drop filled now = take_all k (drop filled now) (omega (arith, length-drop filled now)) in
    let mid : mid_of filled k now ≡ drop filled old = all ∙ rest in
    let none : drop k (drop filled now) ≡ [] = drop_all k (drop filled now) (omega (arith, length-drop filled now)) in
    let part_is : part ≡ take n (drop filled d) ++ drop (filled + n) old =
    did.bytes
    ∙ ap (λ (l : List ℕ). take n l ++ drop n (mid_of filled k now)) (sym (drop-drop filled at b))
    ∙ ap (λ (l : List ℕ). take n (drop filled d) ++ drop n l) mid
    ∙ ap (λ (l : List ℕ). take n (drop filled d) ++ l) (drop-drop n filled old) in
    record {
      within = omega (arith, was.within, did.within, ap length mid, length-drop filled old);
      bytes =
          ap (λ (l : List ℕ). l ++ (part ++ drop k (drop filled now))) head
          ∙ ap (λ (l : List ℕ). take filled d ++ (part ++ l)) none
          ∙ ap (λ (l : List ℕ). take filled d ++ l) (append-nil part ∙ part_is)
          ∙ sym (append_assoc (take filled d) (take n (drop filled d)) (drop (filled + n) old))
          ∙ ap (λ (l : List ℕ). l ++ drop (filled + n) old) (sym (take-add filled n d));
    }
