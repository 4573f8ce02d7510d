-- Loops that add lines to a list.
use Rattle.std.proofs.Common.{◌≡◌, ℕ, suc, ◌+◌, ◌-◌, ◌<◌, List, ◌++◌, sym, ap, ◌∙◌, append_assoc, arith}
use Rattle.plan_lang.specs.declared.lines.Line.{Line}

-- one more turn: of what is left, with a number of turns, the first part is there
pub turned : (f g : ℕ → List Line) (part : List Line) → ((n : ℕ) → f (suc n) ≡ part ++ g n) → (count i : ℕ) → i < count
    → (before whole : List Line) → before ++ f (count - i) ≡ whole → (before ++ part) ++ g (count - (i + 1)) ≡ whole
turned f g part step count i lt before whole e =
    let k : count - i ≡ suc (count - (i + 1)) = omega arith in
    append_assoc before part (g (count - (i + 1))) ∙ ap (λ (ls : List Line). before ++ ls) (sym (step (count - (i + 1)))) ∙ ap (λ (n : ℕ). before ++ f n) (sym k) ∙ e

-- the same of a number that the turns lead to
pub led : (f g : ℕ → ℕ) → ((n : ℕ) → f (suc n) ≡ g n) → (count i : ℕ) → i < count → (end : ℕ) → f (count - i) ≡ end → g (count - (i + 1)) ≡ end
led f g step count i lt end e =
    let k : count - i ≡ suc (count - (i + 1)) = omega arith in
    sym (step (count - (i + 1))) ∙ ap f (sym k) ∙ e
