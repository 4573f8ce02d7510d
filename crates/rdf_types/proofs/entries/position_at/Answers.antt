use Rattle.std.proofs.Common.{arith}
use Rattle.rdf_types.specs.EntryLaws.{before_entry, no_less, entry_below}
use Rattle.rdf_types.proofs.entries.position_at.Goals as goal

pub returns-then-index-part-clause-cut : goal.returns-then-index-part-clause-cut
returns-then-index-part-clause-cut c = λ rise. before_entry 0 c.args.part.now c.args.index c.index-part-index.result (omega (arith, c.if-index-part.true)) rise

pub returns-then-index-part-clause-behind : goal.returns-then-index-part-clause-behind
returns-then-index-part-clause-behind c = λ at le rise. no_less at c.args.part.now rise c.args.index c.index-part-index.result (omega (arith, c.if-index-part.true))

pub returns-then-index-part-clause-within : goal.returns-then-index-part-clause-within
returns-then-index-part-clause-within c =
    let h = entry_below c.args.end c.args.part.now c.args.index c.index-part-index.result (omega (arith, c.if-index-part.true)) c.requires.below in
    omega (arith, h)

pub returns-then-index-part-clause-amid : goal.returns-then-index-part-clause-amid
returns-then-index-part-clause-amid c = λ within.
    entry_below c.args.end c.args.part.now c.args.index c.index-part-index.result (omega (arith, c.if-index-part.true)) c.requires.below
