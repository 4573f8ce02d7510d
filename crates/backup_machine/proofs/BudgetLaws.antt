-- First parts of lines, one after another.
use Rattle.std.proofs.Common.{◌≡◌, ℕ, zero, suc, ◌-◌, true, false, List, [], ◌∷◌, ◌++◌, length, Option, Some, None, refl, sym, ap, ◌∙◌, arith}
use Rattle.rdf_core.specs.Effects.{after_parts, after_all}
use Rattle.backup_machine.specs.Budgets.{after_some, is_spent, without}
use Rattle.rdf_core.specs.PartLaws.{none_done, all_append}

-- where no part more is to be done, all is as it was
pub spent_is : {X : Type 0} (b : X) (parts : List X) (most : Option ℕ) → is_spent most ≡ true → b ≡ after_some b parts most
spent_is b parts None h = cc
spent_is b parts (Some zero) h = sym (none_done b parts)
spent_is b parts (Some (suc n)) h = cc

-- no parts leave all as it was
pub no_parts : {X : Type 0} (b : X) (most : Option ℕ) → b ≡ after_some b [] most
no_parts b None = refl
no_parts b (Some n) = refl

-- one part, then the others
pub one_part : {X : Type 0} (b x : X) (parts : List X) (most : Option ℕ) → is_spent most ≡ false → after_some b (x ∷ parts) most ≡ after_some x parts (without most 1)
one_part b x parts None h = refl
one_part b x parts (Some zero) h = cc
one_part b x parts (Some (suc n)) h = ap (after_parts x parts) (omega arith)

first_append : {X : Type 0} (rest : X → List X) (b : X) (xs : List X) (n : ℕ) →
    after_parts b (xs ++ rest (after_all b xs)) n ≡ after_parts (after_parts b xs n) (rest (after_parts b xs n)) (n - length xs)
first_append rest b [] n = ap (after_parts b (rest b)) (omega arith)
first_append rest b (x ∷ xs) zero = sym (ap (after_parts b (rest b)) (omega arith) ∙ none_done b (rest b))
first_append rest b (x ∷ xs) (suc n) =
    first_append rest x xs n ∙ ap (after_parts (after_parts x xs n) (rest (after_parts x xs n))) (omega arith)

-- parts, and others that follow from what these leave
pub some_append : {X : Type 0} (rest : X → List X) (b : X) (xs : List X) (most : Option ℕ) →
    after_some b (xs ++ rest (after_all b xs)) most ≡ after_some (after_some b xs most) (rest (after_some b xs most)) (without most (length xs))
some_append rest b xs None = all_append b xs (rest (after_all b xs))
some_append rest b xs (Some n) = first_append rest b xs n
