use Rattle.std.proofs.Common.{◌≡◌, ◌∷◌, ◌++◌, take, decimal, codes}
use Rattle.std.specs.List.{flat_map}
use Rattle.plan_lang.proofs.printing.put_trails.Given as goal

abbrev pub invariant-loop-trail : goal.invariant-loop-trail
invariant-loop-trail l = l.out.items ≡ l.fn.out.items ++ (codes "trail" ++ flat_map (λ trail. 32 ∷ decimal trail) (take l.trail-index l.trails))
