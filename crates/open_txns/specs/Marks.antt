-- What the marks of transactions mean: a mark has the position of the first image while its transaction is open, and none afterwards.
use Rattle.std.specs.Prelude.{◌≡◌, ℕ, zero, suc, true, false, ◌==◌, List, [], ◌∷◌, Option, is_some, if◌then◌else◌, filter_map}
use Rattle.std.specs.Option.{option_map}

abbrev pub Marks : Type 0
Marks = List (ℕ × Option ℕ)

-- the transaction of a mark, with the position, while it is open
abbrev pub open_mark : ℕ × Option ℕ → Option (ℕ × ℕ)
open_mark mark = option_map (λ pos. (mark.0, pos)) mark.1

-- the open transactions among the marks, in their order
abbrev pub open_marks : Marks → List (ℕ × ℕ)
open_marks marks = filter_map open_mark marks

-- the place of the first mark of an open transaction, or the number of marks
abbrev pub first_open : Marks → ℕ
first_open [] = zero
first_open (mark ∷ rest) = if is_some mark.1 then zero else suc (first_open rest)

-- the first mark of the transaction stands at the place, and the transaction is open
abbrev pub IsOpenAt : ℕ → Marks → ℕ → Type 0
IsOpenAt txn [] at = ⊥
IsOpenAt txn (mark ∷ rest) zero = ((txn == mark.0) ≡ true) × (is_some mark.1 ≡ true)
IsOpenAt txn (mark ∷ rest) (suc at) = ((txn == mark.0) ≡ false) × IsOpenAt txn rest at
