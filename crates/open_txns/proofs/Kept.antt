-- The head and the count of ended marks, as marks are added, ended and dropped.
use Rattle.std.proofs.Common.{◌≡◌, ◌+◌, ℕ, suc, true, ◌==◌, List, [], ◌∷◌, ◌++◌, length, Some, Result, Ok, Err, OnOk, OnErr, refl, sym, ap, ◌∙◌, subst, arith}
use Rattle.std.specs.Map.{remove_entry}
use Rattle.open_txns.specs.Marks.{Marks, open_marks, first_open}
use Rattle.open_txns.specs.Noted.{has_txn}
use Rattle.open_txns.proofs.Marked.{marks-added, first-added, swept, first-swept, marks-swept, length-swept, length-removed}

abbrev pub IsKept : ℕ → ℕ → Marks → Type 0
IsKept head ended es = (head ≡ first_open es) × (ended + length (open_marks es) ≡ length es)

length-push : {X : Type 0} (xs : List X) (x : X) → length (xs ++ x ∷ []) ≡ suc (length xs)
length-push [] x = refl
length-push (y ∷ xs) x = ap suc (length-push xs x)

pub kept-added : {U E : Type 0} (head ended t p : ℕ) (es new : Marks) (r : Result U E) → IsKept head ended es →
    OnOk r (new ≡ es ++ (t, Some p) ∷ []) → OnErr r (new ≡ es) → IsKept head ended new
kept-added head ended t p es new (Ok u) k ok err =
    let a : length (open_marks (es ++ (t, Some p) ∷ [])) ≡ suc (length (open_marks es)) = ap length (marks-added es t p) ∙ length-push (open_marks es) (t, p) in
    let b : length (es ++ (t, Some p) ∷ []) ≡ suc (length es) = length-push es (t, Some p) in
    let all : ended + length (open_marks es) ≡ length es = k.1 in
    let c : ended + length (open_marks (es ++ (t, Some p) ∷ [])) ≡ length (es ++ (t, Some p) ∷ []) = omega (arith, a, b, all) in
    subst (IsKept head ended) (sym ok) (k.0 ∙ sym (first-added es t p), c)
kept-added head ended t p es new (Err e) k ok err = subst (IsKept head ended) (sym err) k

pub view-added : {U E : Type 0} (t p : ℕ) (es new : Marks) (now : List (ℕ × ℕ)) (r : Result U E) → open_marks es ≡ now →
    OnOk r (new ≡ es ++ (t, Some p) ∷ []) → OnOk r (open_marks new ≡ now ++ (t, p) ∷ [])
view-added t p es new now (Ok u) v ok = ap open_marks ok ∙ marks-added es t p ∙ ap (λ os. os ++ (t, p) ∷ []) v
view-added t p es new now (Err e) v ok = ok

pub view-same : {U E : Type 0} (es new : Marks) (now : List (ℕ × ℕ)) (r : Result U E) → open_marks es ≡ now →
    OnErr r (new ≡ es) → OnErr r (open_marks new ≡ now)
view-same es new now (Ok u) v err = err
view-same es new now (Err e) v err = ap open_marks err ∙ v

pub kept-swept : (es new : Marks) → new ≡ swept es → IsKept 0 0 new
kept-swept es new e =
    let same : length (open_marks (swept es)) ≡ length (swept es) = length-swept es in
    let all : 0 + length (open_marks (swept es)) ≡ length (swept es) = omega (arith, same) in
    subst (IsKept 0 0) (sym e) (sym (first-swept es), all)

pub view-swept : (es new : Marks) (now : List (ℕ × ℕ)) → new ≡ swept es → open_marks es ≡ now → open_marks new ≡ now
view-swept es new now e v = ap open_marks e ∙ marks-swept es ∙ v

pub count-ended : (ended t : ℕ) (es new : Marks) → true ≡ has_txn (open_marks es) t → open_marks new ≡ remove_entry (λ k. t == k) (open_marks es) →
    length new ≡ length es → ended + length (open_marks es) ≡ length es → (ended + 1) + length (open_marks new) ≡ length new
count-ended ended t es new h m l k =
    let one : suc (length (open_marks new)) ≡ length (open_marks es) = ap (λ os. suc (length os)) m ∙ length-removed t (open_marks es) (sym h) in
    omega (arith, one, l, k)
