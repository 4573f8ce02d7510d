-- What is noted for a transaction.
use Rattle.std.proofs.Common.{◌≡◌, ℕ, ◌<◌, true, List, ◌∷◌, IfSome, IfNone, Option, Some, None, sym, ap, ◌∙◌, is_some}
use Rattle.std.specs.FinMap.{entries}
use Rattle.rdf_types.specs.declared.records.RecKey.{RecKey}
use Rattle.active_txns.specs.Founds.{FirstBefore}

pub popped_some : (r : Option (RecKey × Option (List ℕ))) (es fs : List (RecKey × Option (List ℕ))) (m n : FirstBefore) → entries m ≡ es → entries n ≡ fs →
    IfSome r (λ p. es ≡ p ∷ fs) → IfSome r (λ e. entries m ≡ e ∷ entries n)
popped_some None es fs m n a b h = tt
popped_some (Some p) es fs m n a b h = a ∙ h ∙ ap (λ (l : List (RecKey × Option (List ℕ))). p ∷ l) (sym b)

pub popped_none : (X : Type 0) (r : Option (RecKey × Option (List ℕ))) (n : ℕ) → (0 < n → is_some r ≡ true) → 0 < n → IfNone r X
popped_none X None n there more = let is = there more in cc
popped_none X (Some p) n there more = tt
