use Rattle.std.proofs.Common.{◌≡◌, ◌∷◌, ◌++◌, take, codes}
use Rattle.std.specs.List.{flat_map}
use Rattle.plan_lang.specs.PlanText.{flag_text}
use Rattle.plan_lang.proofs.printing.put_flags.Given as goal

abbrev pub invariant-loop-flag : goal.invariant-loop-flag
invariant-loop-flag l = l.out.items ≡ l.fn.out.items ++ (codes "protect" ++ flat_map (λ flag. 32 ∷ flag_text flag) (take l.flag-index l.flags))
