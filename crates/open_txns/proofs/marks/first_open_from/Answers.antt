use Rattle.std.proofs.Common.{◌≤◌, suc, arith}
use Rattle.open_txns.specs.Marks.{first_open}
use Rattle.open_txns.proofs.Marked.{open_at_least, ended_before, first_within}
use Rattle.open_txns.proofs.marks.first_open_from.Goals as goal

pub returns-then-is_some : goal.returns-then-is_some
returns-then-is_some c =
    let least : first_open c.args.marks.now.entries ≤ c.loop-at.at = open_at_least c.args.marks.now.entries c.loop-at.at c.index.result.now c.index.ensures c.if-is_some.ensures in
    omega (arith, least, c.loop-at.invariant)

pub loop-at-preserved : goal.loop-at-preserved
loop-at-preserved c =
    let next : suc c.loop-at.at ≤ first_open c.args.marks.now.entries = ended_before c.args.marks.now.entries c.loop-at.at c.index.result.now c.index.ensures c.if-is_some.ensures c.loop-at.invariant in
    omega (arith, next)

pub returns : goal.returns
returns c =
    let most = first_within c.args.marks.now.entries in
    omega (arith, most, c.loop-at.invariant, c.len-at-end.ensures.len)
