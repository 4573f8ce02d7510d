use Rattle.std.proofs.Common.{rules, ◌≡◌, ◌∙◌, List, ap, subst, sym, arith, length}
use Rattle.std.proofs.lemmas.List.{length-map}
use Rattle.rdf_types.specs.declared.records.Record.{Record as AnyRecord}
use Rattle.rdf_disk.specs.AnswerLaws.{on_err}
use Rattle.image_disks.specs.Spelled.{block_of}
use Rattle.image_disks.specs.Held.{Holds}
use Rattle.image_disks.specs.Blocks.{Plan}
use Rattle.image_trails.specs.Memory.{plan_in, plan_of, value_in, starts_of}
use Rattle.image_trails.specs.Keeps.{StandsHolding}
use Rattle.purger.specs.Purging.{gone, StandsWithout}
use Rattle.purger.specs.PurgingLaws.{gone_within}
use Rattle.purger.proofs.PurgeLaws.{one_gone, all_gone, either_gone, holding_more}
use Rattle.purger.proofs.purge.Goals as goal

pub returns-in_err-drop_first : goal.returns-in_err-drop_first
returns-in_err-drop_first g c = record {
  ok = search rules;
  value = search rules;
  phase = search rules;
  count = search rules;
  err = λ tells.
      let first = value_in c.args.trails.now.memory in
      let now = c.loop.trails.memory in
      let same : plan_in now ≡ plan_in c.args.trails.now.memory = ap plan_of c.loop.invariant.layout in
      on_err c.from_residual.result _ (λ x may.
      subst (λ (p : Plan). StandsWithout block_of p (gone c.args.retain c.args.floor first.starts) first x) same
      (either_gone block_of (plan_in now) c.args.retain c.args.floor c.loop.counter c.loop.went first (value_in now) x (sym c.may_drop.ensures ∙ c.if-not-may_drop.false) (c.loop.invariant.went tells) (c.in_err-drop_first.ensures.err tells x may)));
  held = search rules;
  left = λ tells.
      let start = c.args.trails.now.memory in
      let now = c.loop.trails.memory in
      let same : plan_in now ≡ plan_in start = ap plan_of c.loop.invariant.layout in
      let H = λ (trail : List AnyRecord). Holds (plan_in start) trail (value_in start) in
      on_err c.from_residual.result _ (λ x may.
      holding_more block_of (plan_in start) H (λ trail. Holds (plan_in start) trail (value_in now)) x (c.loop.invariant.held tells)
      (subst (λ (p : Plan). StandsHolding block_of p (λ trail. Holds p trail (value_in now)) x) same (c.in_err-drop_first.ensures.left tells x may)));
  stays = search rules;
}

pub returns-then-not-may_drop : goal.returns-then-not-may_drop
returns-then-not-may_drop g c =
    let done = λ (tells : g.D.Disk.tells). all_gone c.args.retain c.args.floor c.loop.counter c.loop.went (value_in c.args.trails.now.memory) (value_in c.loop.trails.memory) (sym c.may_drop.ensures ∙ c.if-not-may_drop.true) (c.loop.invariant.went tells) in
    record {
      ok = search rules;
      value = λ tells. (done tells).0;
      phase = search rules;
      count = λ tells. (done tells).1;
      err = search rules;
      held = search rules;
      left = search rules;
      stays = search rules;
    }

pub loop-preserved : goal.loop-preserved
loop-preserved g c =
    let start = c.args.trails.now.memory in
    let now = c.loop.trails.memory in
    let inv = c.loop.invariant in
    let same : plan_in now ≡ plan_in start = ap plan_of inv.layout in
    let done = c.in_ok-drop_first.ensures in
    record {
      in_use = λ tells. (done.ok tells).in_use;
      went = λ tells. one_gone c.args.retain c.args.floor c.loop.counter c.loop.went c.saturating_add-went.result (value_in start) (value_in now) (value_in c.drop_first.new.self.memory)
          (sym c.may_drop.ensures ∙ c.if-not-may_drop.false) (inv.went tells) (done.ok tells).value (omega (arith, c.saturating_add-went.ensures));
      held = λ tells trail h. subst (λ (p : Plan). Holds p trail (value_in c.drop_first.new.self.memory)) same
          (done.held tells trail (subst (λ (p : Plan). Holds p trail (value_in now)) (sym same) (inv.held tells trail h)));
      phase = done.phase ∙ inv.phase;
      layout = c.drop_first.ensures.stays.layout ∙ inv.layout;
      counts = done.stays.cause ∙ inv.counts;
    }

-- there are fewer generations than turns of the loop
pub returns : goal.returns
returns g c = record {
  ok = search rules;
  value = λ tells.
      let v = c.args.trails.now.memory.generations in
      absurd (omega (arith, c.loop-test.false, (c.loop.invariant.went tells).left, gone_within c.args.retain c.args.floor (starts_of v), let m : length (starts_of v) ≡ length v.items = simp length-map in m, v.ok.0, v.small.0, v.small.1));
  phase = search rules;
  count = search rules;
  err = search rules;
  held = search rules;
  left = search rules;
  stays = search rules;
}
