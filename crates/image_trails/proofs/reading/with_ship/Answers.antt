use Rattle.std.proofs.Common.{◌++◌, List, refl, sym, ap, ◌∙◌}
use Rattle.std.specs.List.{list_all}
use Rattle.rdf_types.specs.declared.records.Stamped.{Stamped}
use Rattle.image_disks.specs.Blocks.{keeps}
use Rattle.image_trails.specs.Memory.{plan_of}
use Rattle.image_trails.proofs.BlockReads.{all_kept, ship_follows, both_values}
use Rattle.image_trails.proofs.reading.with_ship.Goals as goal

pub returns-then-not-are_kept-clause-none : goal.returns-then-not-are_kept-clause-none
returns-then-not-are_kept-clause-none c = λ here.
    let plan = plan_of c.args.layout.now in
    both_values c.are_kept.result (c.are_kept.ensures ∙ ap (λ (l : List Stamped). list_all (λ s. keeps plan c.args.trail s.rec) l) c.as_slice.ensures ∙ all_kept (keeps plan c.args.trail) c.args.ship.from c.args.ship.to c.args.ship.part here.2) c.if-not-are_kept.true

pub returns-clause-some : goal.returns-clause-some
returns-clause-some c =
    let plan = plan_of c.args.layout.now in
    ship_follows plan c.args.trail c.args.said _ c.args.ship c.requires c.if-ship-said.false
    (sym (ap (λ (l : List Stamped). list_all (λ s. keeps plan c.args.trail s.rec) l) c.as_slice.ensures) ∙ sym c.are_kept.ensures ∙ c.if-not-are_kept.false)
    refl refl (c.in_ok-append.ensures.items ∙ ap (λ (l : List Stamped). c.args.said.part.items ++ l) c.into_vec-part.ensures)
