-- The last worker was taken off, and what came of it put behind.
use Rattle.std.proofs.Common.{◌≡◌, List, [], ◌∷◌, ◌++◌, Option, Some, subst, ap, ◌∙◌, option_to_list, Result, Err, IfErr}
use Rattle.std.specs.List.{AllZip}
use Rattle.std.specs.declared.thread.SpawnError.{SpawnError}
use Rattle.updater_pool.specs.ZipLaws.{zip_behind}

pub zip_popped : {A B : Type 0} (R : A → B → Type 0) (ws xs : List A) (taken : Option A) (w : A) (ys zs : List B) (y : B) →
    ws ≡ xs ++ option_to_list taken → taken ≡ Some w → AllZip R xs ys → R w y → zs ≡ ys ++ y ∷ [] → AllZip R ws zs
zip_popped R ws xs taken w ys zs y e f h r i = zip_behind R ws xs zs ys w y (e ∙ ap (λ t. xs ++ option_to_list t) f) i h r

-- the closure that comes back has the worker
pub refused_is : {H W C : Type 0} (r : Result H (SpawnError (W × C))) (f : W × C) (e : SpawnError (W × C)) → IfErr r (λ x. x.value ≡ f) → r ≡ Err e → e.value.0 ≡ f.0
refused_is {W = W} {C = C} r f e h same = ap {A = W × C} (λ p. p.0) (subst (λ x. IfErr x (λ y. y.value ≡ f)) same h)
