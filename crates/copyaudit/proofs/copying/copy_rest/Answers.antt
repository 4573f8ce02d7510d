use Rattle.std.proofs.Common.{rules, ◌≡◌, ◌∙◌, ℕ, suc, ◌+◌, ◌-◌, min, ap, refl, sym, subst, arith}
use Rattle.rdf_disk.specs.AnswerLaws.{on_err}
use Rattle.image_disks.specs.Blocks.{Plan}
use Rattle.image_disks.specs.Spelled.{block_of}
use Rattle.image_disks.specs.Values.{Alike, received, stages, took}
use Rattle.image_disks.specs.Held.{Holds}
use Rattle.image_disks.specs.Standing.{StandsForOne}
use Rattle.image_trails.specs.Keeps.{StandsHolding}
use Rattle.image_trails.specs.Memory.{plan_in, plan_of, value_in}
use Rattle.copyaudit.specs.Copying.{part_of, BothHold}
use Rattle.copyaudit.proofs.CopyLaws.{IsLeft, less_left, broken_off, none_left}
use Rattle.copyaudit.proofs.copying.copy_rest.Goals as goal

pub returns-then-received-clause-copies : goal.returns-then-received-clause-copies
returns-then-received-clause-copies g c = record {
  ok = search rules;
  value = λ tells.
      none_left (plan_in c.args.lag.now.memory) (value_in c.args.lead.now.memory) (value_in c.args.lag.now.memory) (value_in c.loop.lag.memory) (c.received-end.result - c.loop.counter)
      (omega (arith, c.if-received.true, c.received.ensures, c.received-in-loop.ensures)) (c.loop.invariant.left tells);
  phase = search rules;
  err = search rules;
  held = search rules;
  left = search rules;
  stays = search rules;
}

pub returns-in_err-copy_next-clause-copies : goal.returns-in_err-copy_next-clause-copies
returns-in_err-copy_next-clause-copies g c = record {
  ok = search rules;
  value = search rules;
  phase = search rules;
  err = λ tells.
      let plan = plan_in c.args.lag.now.memory in
      let v = value_in c.args.lag.now.memory in
      let w = value_in c.args.lead.now.memory in
      let now = value_in c.loop.lag.memory in
      let same : plan_in c.loop.lag.memory ≡ plan = ap plan_of c.loop.invariant.layout in
      let n : ℕ = c.received-end.result - (c.loop.counter + 1) in
      let fuel : c.received-end.result - c.loop.counter ≡ suc n = omega arith in
      on_err c.from_residual.result _ (λ x may.
      broken_off plan w v now n x (omega (arith, c.if-received.false, c.received.ensures, c.received-in-loop.ensures)) (subst (λ (k : ℕ). IsLeft plan w v now k) fuel (c.loop.invariant.left tells))
      (subst (λ (p : Plan). StandsForOne block_of p (stages p (part_of w (received now) (min (received now + 64) (received w))) now) x) same (c.in_err-copy_next.ensures.err tells x may)));
  held = search rules;
  left = λ tells.
      let w = value_in c.args.lead.now.memory in
      let now = value_in c.loop.lag.memory in
      let same : plan_in c.loop.lag.memory ≡ plan_in c.args.lag.now.memory = ap plan_of c.loop.invariant.layout in
      on_err c.from_residual.result _ (λ x may.
      let some = subst (λ (p : Plan). StandsHolding block_of p (BothHold p w now) x) same (c.in_err-copy_next.ensures.left tells x may) in
      (some.0, some.1, λ trail both. some.2 trail (both.0, c.loop.invariant.held tells trail both)));
  stays = search rules;
}

pub loop-preserved : goal.loop-preserved
loop-preserved g c =
    let plan = plan_in c.args.lag.now.memory in
    let v = value_in c.args.lag.now.memory in
    let w = value_in c.args.lead.now.memory in
    let now = value_in c.loop.lag.memory in
    let new = value_in c.copy_next.new.lag.memory in
    let inv = c.loop.invariant in
    let same : plan_in c.loop.lag.memory ≡ plan = ap plan_of inv.layout in
    let n : ℕ = c.received-end.result - (c.loop.counter + 1) in
    let fuel : c.received-end.result - c.loop.counter ≡ suc n = omega arith in
    record {
      in_use = λ tells. c.in_ok-copy_next.ensures.ok tells;
      left = λ tells. less_left plan w v now n new refl (omega (arith, c.if-received.false, c.received.ensures, c.received-in-loop.ensures)) (subst (λ (k : ℕ). IsLeft plan w v now k) fuel (inv.left tells))
          (subst (λ (p : Plan). Alike new (took p (part_of w (received now) (min (received now + 64) (received w))) now)) same (c.in_ok-copy_next.ensures.value tells));
      held = λ tells trail both. subst (λ (p : Plan). Holds p trail new) same
          (c.in_ok-copy_next.ensures.held tells trail (subst (λ (p : Plan). BothHold p w now trail) (sym same) (both.0, inv.held tells trail both)));
      phase = c.in_ok-copy_next.ensures.phase ∙ inv.phase;
      layout = c.copy_next.ensures.stays.layout ∙ inv.layout;
      counts = c.in_ok-copy_next.ensures.stays.cause ∙ inv.counts;
    }

pub returns-clause-copies : goal.returns-clause-copies
returns-clause-copies g c = record {
  ok = search rules;
  value = λ tells.
      let left = c.loop.invariant.left tells in
      none_left (plan_in c.args.lag.now.memory) (value_in c.args.lead.now.memory) (value_in c.args.lag.now.memory) (value_in c.loop.lag.memory) (c.received-end.result - c.loop.counter)
      (omega (arith, left.enough, c.loop-test.false)) left;
  phase = search rules;
  err = search rules;
  held = search rules;
  left = search rules;
  stays = search rules;
}
