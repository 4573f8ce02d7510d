use Rattle.std.proofs.Common.{[], ◌∷◌, ◌++◌, refl, ap, ◌∙◌}
use Rattle.plan_lang.specs.declared.lines.Line.{Line}
use Rattle.plan_gen.specs.Drawing.{later}
use Rattle.plan_gen.specs.Generated.{change, changes, changed}
use Rattle.plan_gen.proofs.Turns.{turned, led}
use Rattle.plan_gen.proofs.transactions.put_changes.Goals as goal

pub loop-preserved : goal.loop-preserved
loop-preserved c =
    let t = c.args.txn in
    let x = c.loop.draws in
    let one = c.change.ensures.draws in
    let added = c.in_ok-push.ensures.ok ∙ ap (λ (l : Line). c.loop.lines ++ l ∷ []) c.in_ok-line.ensures.line in
    record {
      lines = rw (added, one) (turned (λ n. changes n t x) (λ n. changes n t (later 4 x)) (change t x ∷ []) (λ n. refl) c.args.count c.loop.counter c.loop-test.true c.loop.lines _ c.loop.invariant.lines);
      draws = rw one (led (λ n. changed n x) (λ n. changed n (later 4 x)) (λ n. refl) c.args.count c.loop.counter c.loop-test.true _ c.loop.invariant.draws);
    }
