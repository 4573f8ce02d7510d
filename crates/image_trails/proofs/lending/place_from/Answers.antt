use Rattle.std.proofs.Common.{◌≤◌, ◌<◌, ◌∙◌, get_or, length, subst, arith}
use Rattle.std.proofs.lemmas.List.{get_or_default}
use Rattle.rdf_types.specs.declared.records.Stamped.{Stamped}
use Rattle.image_trails.proofs.Sorted.{from_place}
use Rattle.image_trails.proofs.lending.place_from.Goals as goal

pub returns-then-at-index-clause-behind : goal.returns-then-at-index-clause-behind
returns-then-at-index-clause-behind c = λ rises past.
    let l = c.args.list.now.items in
    let n = c.loop-next.next in
    let here : (s : Stamped) → n < length l → c.args.at ≤ (get_or l n s).pos = λ s below. subst (λ (x : Stamped). c.args.at ≤ x.pos) (c.index.ensures ∙ get_or_default l n c.index.result.now s below) c.if-at-index.true in
    from_place l c.args.at n (c.loop-next.invariant.past past) c.loop-next.invariant.within (λ i s low below. omega (arith, here s (omega (arith, low, below)), rises n i s low below))

pub returns-clause-behind : goal.returns-clause-behind
returns-clause-behind c = λ rises past.
    from_place c.args.list.now.items c.args.at c.loop-next.next (c.loop-next.invariant.past past) c.loop-next.invariant.within (λ i s low below. absurd (omega (arith, low, below, c.loop-next-test.false, c.len.ensures, c.args.list.now.ok.0)))
