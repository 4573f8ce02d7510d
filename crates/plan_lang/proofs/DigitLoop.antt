-- Reading numbers one after the other, as a loop does.
use Rattle.std.proofs.Common.{◌≡◌, ℕ, suc, ◌-◌, ◌+◌, ◌≤◌, ◌<◌, List, [], ◌∷◌, ◌++◌, Result, Ok, Err, refl, sym, ap, ◌∙◌, append_assoc, arith}
use Rattle.std.proofs.lemmas.List.{append-nil}
use Rattle.plan_lang.specs.declared.why.PlanWhy.{PlanWhy}
use Rattle.plan_lang.specs.LineReading.{◌>>=◌, number_at}
use Rattle.plan_lang.specs.Grammar.{numbers_at}

abbrev Read : Type 0
Read = Result (List ℕ) PlanWhy

-- what was read before, and what is still read
abbrev pub with_front : List ℕ → Result (List ℕ) PlanWhy → Result (List ℕ) PlanWhy
with_front front read = read >>= λ x. Ok (front ++ x)

regroup : (front : List ℕ) (d : ℕ) (read : Read) → with_front front (read >>= λ x. Ok (d ∷ x)) ≡ with_front (front ++ d ∷ []) read
regroup front d (Ok x) = ap (λ (ds : List ℕ). let r : Read = Ok ds in r) (simp append_assoc)
regroup front d (Err e) = refl

pub goes_on : (top count i d : ℕ) (front next : List ℕ) (words after : List (List ℕ)) (total : Result (List ℕ) PlanWhy) → i < count → next ≡ front ++ d ∷ [] → number_at 0 top words ≡ Ok (d, after)
    → with_front front (numbers_at 0 top (count - i) words) ≡ total → with_front next (numbers_at 0 top (count - (i + 1)) after) ≡ total
unfolding numbers_at
goes_on top count i d front next words after total lt is h so_far =
    let k : count - i ≡ suc (count - (i + 1)) = omega arith in
    let one : with_front front (numbers_at 0 top (count - i) words) ≡ with_front (front ++ d ∷ []) (numbers_at 0 top (count - (i + 1)) after) = rw (k, h) (regroup front d (numbers_at 0 top (count - (i + 1)) after)) in
    ap (λ f. with_front f (numbers_at 0 top (count - (i + 1)) after)) is ∙ sym one ∙ so_far

pub ends : (top count i : ℕ) (front : List ℕ) (words : List (List ℕ)) (e : PlanWhy) (total : Result (List ℕ) PlanWhy) → i < count → number_at 0 top words ≡ Err e
    → with_front front (numbers_at 0 top (count - i) words) ≡ total → total ≡ Err e
unfolding numbers_at
ends top count i front words e total lt h so_far =
    let k : count - i ≡ suc (count - (i + 1)) = omega arith in
    let one : with_front front (numbers_at 0 top (count - i) words) ≡ Err e = rw (k, h) refl in
    sym so_far ∙ one

pub is_done : (top count i : ℕ) (front : List ℕ) (words : List (List ℕ)) (total : Result (List ℕ) PlanWhy) → count ≤ i → with_front front (numbers_at 0 top (count - i) words) ≡ total → total ≡ Ok front
unfolding numbers_at
is_done top count i front words total le so_far =
    let k : count - i ≡ 0 = omega arith in
    let one : with_front front (numbers_at 0 top (count - i) words) ≡ Ok front = rw k (ap (λ (ds : List ℕ). let r : Read = Ok ds in r) (append-nil front)) in
    sym so_far ∙ one

pub begins : (read : Result (List ℕ) PlanWhy) → with_front [] read ≡ read
begins (Ok x) = refl
begins (Err e) = refl
