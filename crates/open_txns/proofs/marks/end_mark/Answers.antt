use Rattle.std.proofs.Common.{sym, None, true≢false}
use Rattle.indexmap.specs.Layout.{length-set_value_at}
use Rattle.open_txns.proofs.Marked.{within, has-placed, marks-ended, first-ended, absent_removed}
use Rattle.open_txns.specs.Marks.{open_marks}
use Rattle.open_txns.proofs.marks.end_mark.Goals as goal

pub index_mut-requires : goal.index_mut-requires
index_mut-requires c = within c.args.txn c.args.marks.now.entries c.in-Some.at c.in-Some.ensures

pub returns-in-Some-clause-ended : goal.returns-in-Some-clause-ended
returns-in-Some-clause-ended c = sym (has-placed c.args.txn c.args.marks.now.entries c.in-Some.at c.in-Some.ensures)

pub returns-in-Some-clause-marks : goal.returns-in-Some-clause-marks
returns-in-Some-clause-marks c = marks-ended c.args.txn c.args.marks.now.entries c.in-Some.at c.in-Some.ensures

pub returns-in-Some-clause-later : goal.returns-in-Some-clause-later
returns-in-Some-clause-later c = first-ended c.args.marks.now.entries c.in-Some.at

pub returns-in-Some-clause-len : goal.returns-in-Some-clause-len
returns-in-Some-clause-len c = length-set_value_at c.args.marks.now.entries c.in-Some.at None

pub returns-in-None-clause-marks : goal.returns-in-None-clause-marks
returns-in-None-clause-marks c = absent_removed c.args.txn (open_marks c.args.marks.now.entries) c.in-None.ensures

pub returns-in-Some-clause-same : goal.returns-in-Some-clause-same
returns-in-Some-clause-same c = λ e. absurd (true≢false e)
