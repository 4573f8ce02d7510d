use Rattle.std.proofs.Common.{◌≡◌, ◌<◌, ◌≤◌, map, length, get_or, take, subst, arith}
use Rattle.rdf_types.specs.declared.records.Stamped.{Stamped}
use Rattle.rdf_types.specs.Entries.{before}
use Rattle.rdf_types.specs.EntryLaws.{before_entry, no_less, entry_below}
use Rattle.updaters.proofs.Holding.{held_at, held_within}
use Rattle.updaters.proofs.entries.position_at.Given.{Over}
use Rattle.updaters.proofs.entries.position_at.Goals.{After-stamped}
use Rattle.updaters.proofs.entries.position_at.Goals as goal

here : (g : Over) (c : After-stamped g) → get_or (map g.E.Held.stands c.args.part.now) c.args.index (g.E.Held.stands c.index-part-index.result) ≡ c.stamped.result.now
here g c = held_at g.E.Held.stands c.args.part.now c.args.index c.index-part-index.result c.stamped.result.now c.index-part-index.is c.stamped.ensures

below : (g : Over) (c : After-stamped g) → c.args.index < length (map g.E.Held.stands c.args.part.now)
below g c = held_within g.E.Held.stands c.args.part.now c.args.index (omega (arith, c.if-index-part.true))

pub returns-then-index-part-clause-cut : goal.returns-then-index-part-clause-cut
returns-then-index-part-clause-cut g c = λ rise.
    let entries = map g.E.Held.stands c.args.part.now in
    subst (λ (s : Stamped). before s.pos entries ≡ take c.args.index entries) (here g c) (before_entry 0 entries c.args.index (g.E.Held.stands c.index-part-index.result) (below g c) rise)

pub returns-then-index-part-clause-behind : goal.returns-then-index-part-clause-behind
returns-then-index-part-clause-behind g c = λ at le rise.
    subst (λ (s : Stamped). at ≤ s.pos) (here g c) (no_less at (map g.E.Held.stands c.args.part.now) rise c.args.index (g.E.Held.stands c.index-part-index.result) (below g c))

pub returns-then-index-part-clause-within : goal.returns-then-index-part-clause-within
returns-then-index-part-clause-within g c =
    let h = subst (λ (s : Stamped). s.pos < c.args.end) (here g c) (entry_below c.args.end (map g.E.Held.stands c.args.part.now) c.args.index (g.E.Held.stands c.index-part-index.result) (below g c) c.requires.below) in
    omega (arith, h)
