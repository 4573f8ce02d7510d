use Rattle.std.proofs.Common.{sym, ◌∙◌}
use Rattle.rdf_volume.proofs.ReadingLaws.{end_misplaced, end_read}
use Rattle.rdf_volume.proofs.reading.next_end.Goals as goal

pub returns-then-not-is_counted : goal.returns-then-not-is_counted
returns-then-not-is_counted c = λ before payload at n is.
    end_misplaced before payload at c.args.read is c.args.restart c.args.rows c.args.blocks n (sym c.is_counted.ensures ∙ c.if-not-is_counted.true)

pub returns : goal.returns
returns c = λ before payload at n is.
    let e = c.in_ok-table.ensures in
    end_read before payload at c.args.read is c.args.restart c.args.rows c.args.blocks n (sym c.is_counted.ensures ∙ c.if-not-is_counted.false)
    c.in_ok-table.table e.shown e.index e.blocks e.overlay
