-- What holds of a call that was done.
use Rattle.std.proofs.Common.{◌≡◌, Result, Ok, OnOk, IfOk, subst}

pub done_holds : {T E U : Type 0} (r : Result T E) (v : T) → r ≡ Ok v → OnOk r U → U
done_holds {U = U} r v is holds = subst (λ r. OnOk r U) is holds

pub done_gives : {T E : Type 0} (P : T → Type 0) (r : Result T E) (v : T) → r ≡ Ok v → IfOk r P → P v
done_gives P r v is gives = subst (λ r. IfOk r P) is gives
