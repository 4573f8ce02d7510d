use Rattle.std.proofs.Common.{◌+◌, [], ◌∷◌, refl}
use Rattle.plan_lang.specs.declared.lines.Line.TheVariants as line
use Rattle.plan_gen.specs.Generated.{lists}
use Rattle.plan_gen.proofs.Turns.{turned}
use Rattle.plan_gen.proofs.ending.put_lists.Goals as goal

pub loop-vol-preserved : goal.loop-vol-preserved
loop-vol-preserved c =
    let node = c.args.node in
    let vol = c.loop-vol.vol in
    rw c.in_ok-push.ensures.ok (turned (λ n. lists node n vol) (λ n. lists node n (vol + 1)) (line.List node vol ∷ []) (λ n. refl) 8 vol c.loop-vol-test.true c.loop-vol.lines _ c.loop-vol.invariant)
