use Rattle.std.proofs.Common.{◌<◌, List, filter, length, ap, refl, ◌∙◌, arith}
use Rattle.std.specs.List.Sorted.{IsNonDecreasingBy}
use Rattle.rdf_types.specs.declared.records.Stamped.{Stamped}
use Rattle.std.proofs.lemmas.List.{with_items_is}
use Rattle.image_trails.specs.Lists.{is_on}
use Rattle.image_trails.proofs.Sorted.{each, each_all, each_step, each_left}
use Rattle.image_trails.proofs.lists.leave_all.Goals as goal

pub loop-list-init : goal.loop-list-init
loop-list-init c = record {
  done = λ t below. absurd (omega (arith, below));
  left = λ t above. ap (λ l. each l t) c.deref_mut-list-items.ensures.value;
}

pub loop-list-preserved : goal.loop-list-preserved
loop-list-preserved c =
    let below : c.loop-list.list-index < length c.loop-list.list-items = omega (arith, c.loop-list-test.true, c.loop-list.auto.list-items) in
    record {
      done = each_step (λ (l : List Stamped). IsNonDecreasingBy (λ (s : Stamped). s.pos) l) (λ (l : List Stamped). filter (λ (s : Stamped). is_on c.args.side c.args.at s.pos) l) c.args.lists.now.items c.loop-list.list-items c.loop-list.list-index c.list-item.result c.leave.new.list below (λ q. c.leave.ensures q) c.loop-list.invariant.done c.loop-list.invariant.left;
      left = each_left c.args.lists.now.items c.loop-list.list-items c.loop-list.list-index c.leave.new.list c.loop-list.invariant.left;
    }

pub returns-clause-each : goal.returns-clause-each
returns-clause-each c =
    let same = with_items_is c.args.lists.now c.loop-list.list-items (omega (arith, c.loop-list.auto.list-items, ap length c.deref_mut-list-items.ensures.value, c.args.lists.now.ok.0)) in
    λ t rises. ap (λ l. each l t) same ∙ (each_all (λ (l : List Stamped). IsNonDecreasingBy (λ (s : Stamped). s.pos) l) (λ (l : List Stamped). filter (λ (s : Stamped). is_on c.args.side c.args.at s.pos) l) c.args.lists.now.items c.loop-list.list-items c.loop-list.list-index refl (omega (arith, ap length c.deref_mut-list-items.ensures.value, c.loop-list-test.false)) (c.loop-list.auto.list-items ∙ ap length c.deref_mut-list-items.ensures.value) c.loop-list.invariant.done) t rises
