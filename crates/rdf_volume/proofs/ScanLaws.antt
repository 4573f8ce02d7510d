-- The blocks of a base, one after another.
use Rattle.std.proofs.Common.{◌≡◌, ℕ, zero, suc, ◌+◌, ◌≤◌, List, [], ◌∷◌, ◌++◌, length, take, drop, slice_get, Some, true, refl, sym, ◌∙◌, ap, subst, arith}
use Rattle.std.proofs.lemmas.List.{append-nil, append_assoc, take_all, take-append-drop}
use Rattle.rdf_types.specs.declared.records.Row.{Row}
use Rattle.rdf_disk.specs.Calls.{Same}
use Rattle.rdf_disk.specs.Files.{Disk}
use Rattle.rdf_gatelog.specs.Log.{IsAtRest}
use Rattle.keyed_blocks.specs.Bases.{rises}
use Rattle.keyed_blocks.specs.Indexes.{joined}
use Rattle.keyed_overlay.specs.Merging.{HasPassed}
use Rattle.keyed_overlay.specs.Overlays.{Laid}

next_is : (n : ℕ) → suc n + 1 ≡ suc (n + 1)
next_is n = omega arith

same_rows : {xs ys : List Row} → Some xs ≡ Some ys → xs ≡ ys
same_rows e = cc

-- the rows of one block more
pub joined_next : (n : ℕ) (blocks : List (List Row)) (rows : List Row) → slice_get blocks n ≡ Some rows → joined (take (n + 1) blocks) ≡ joined (take n blocks) ++ rows
joined_next n [] rows is = cc
joined_next zero (block ∷ blocks) rows is = append-nil block ∙ same_rows is
joined_next (suc n) (block ∷ blocks) rows is =
    ap (λ (i : ℕ). joined (take i (block ∷ blocks))) (next_is n) ∙ ap (λ (l : List Row). block ++ l) (joined_next n blocks rows is) ∙ sym (append_assoc block (joined (take n blocks)) rows)

-- the rows of all blocks
pub joined_all : (n : ℕ) (blocks : List (List Row)) → length blocks ≤ n → joined (take n blocks) ≡ joined blocks
joined_all n blocks all = ap joined (take_all n blocks all)

-- the first blocks and the others
pub joined_parts : (n : ℕ) (blocks : List (List Row)) → joined (take n blocks) ++ joined (drop n blocks) ≡ joined blocks
joined_parts n blocks = sym (joined_append (take n blocks) (drop n blocks)) ∙ ap joined (take-append-drop n blocks)
  where
    joined_append : (xs ys : List (List Row)) → joined (xs ++ ys) ≡ joined xs ++ joined ys
    joined_append [] ys = refl
    joined_append (x ∷ xs) ys = ap (λ (l : List Row). x ++ l) (joined_append xs ys) ∙ sym (append_assoc x (joined xs) (joined ys))

-- what came out, under other names
pub passed_as : (laid other : Laid) (before out list to_come : List Row) → laid ≡ other → list ≡ out → HasPassed laid before out to_come → HasPassed other before list to_come
passed_as laid other before out list to_come same are h =
    subst (λ (l : Laid). HasPassed l before list to_come) same (subst (λ (l : List Row). HasPassed laid before l to_come) (sym are) h)

-- a file that stays as it is is at rest as before
pub at_rest_same : (file end : ℕ) (payloads : List (List ℕ)) (old new : Disk) → Same old new → IsAtRest file end payloads old → IsAtRest file end payloads new
at_rest_same file end payloads old new same r = record { bytes = r.bytes; file_is = same file ∙ r.file_is; spelled = r.spelled; end_is = r.end_is }

-- what came out of the first blocks rises
pub out_rises : (laid : Laid) (blocks : List (List Row)) (n : ℕ) (base out to_come : List Row) → joined blocks ≡ base → rises base ≡ true
    → ((laid : Laid) (before out to_come more : List Row) → HasPassed laid before out to_come → rises (before ++ more) ≡ true → rises out ≡ true)
    → HasPassed laid (joined (take n blocks)) out to_come → rises out ≡ true
out_rises laid blocks n base out to_come are risen passes h =
    passes laid (joined (take n blocks)) out to_come (joined (drop n blocks)) h (ap rises (joined_parts n blocks ∙ are) ∙ risen)
