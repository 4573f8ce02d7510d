use Rattle.std.proofs.Common.{◌+◌, ◌≡◌, ◌++◌, sym, ap, ◌∙◌, append_assoc}
use Rattle.plan_gen.specs.Generated.{transaction, behind_transaction, round_behind, behind_round, load}
use Rattle.plan_gen.proofs.Turns.{turned}
use Rattle.plan_gen.proofs.plan.put_load.Goals as goal

pub loop-done-preserved : goal.loop-done-preserved
loop-done-preserved c =
    let t = c.loop-done.done + 1 in
    let x = c.loop-done.draws in
    let y = behind_transaction x in
    let first = c.in_ok-put_transaction.ensures in
    let second = c.in_ok-put_round_behind.ensures in
    let lines : c.put_round_behind.new.lines ≡ c.loop-done.lines ++ (transaction t x ++ round_behind t y) =
    second.lines ∙ rw (first.lines, first.draws) (append_assoc c.loop-done.lines (transaction t x) (round_behind t y)) in
    let draws : c.put_round_behind.new.draws ≡ behind_round t y = second.draws ∙ ap (behind_round t) first.draws in
    rw (lines, draws)
    (turned (λ n. load n t x) (λ n. load n (t + 1) (behind_round t y)) (transaction t x ++ round_behind t y) (λ n. sym (append_assoc (transaction t x) (round_behind t y) (load n (t + 1) (behind_round t y)))) c.args.txns c.loop-done.done c.loop-done-test.true c.loop-done.lines _ c.loop-done.invariant)
