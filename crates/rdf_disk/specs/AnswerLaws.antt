-- Laws of a call's answer.
use Rattle.std.proofs.Common.{◌≡◌, Result, Ok, Err, OnErr, sym, ◌∙◌, ap}

-- what holds is so where the answer is an error
pub on_err : {T E : Type 0} (r : Result T E) (P : Type 0) → P → OnErr r P
on_err (Ok v) P holds = tt
on_err (Err e) P holds = holds

-- an error that was passed on is the one that came
pub passed_on : {T U E : Type 0} (r : Result T E) (d e came : E) → r ≡ Err e → e ≡ came → r ≡ Err d → ◌≡◌ {A = Result U E} (Err came) (Err d)
passed_on {T = T} {E = E} r d e came is came_is told =
    let same : ◌≡◌ {A = Result T E} (Err e) (Err d) = sym is ∙ told in
    let alike : e ≡ d = cc in
    ap (λ (x : E). Err x) (sym came_is ∙ alike)
