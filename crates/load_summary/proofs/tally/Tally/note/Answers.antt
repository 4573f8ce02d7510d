use Rattle.load_summary.proofs.TallyLaws.{noted}
use Rattle.load_summary.proofs.tally.Tally.note.Goals as goal

pub returns-clause-ok : goal.returns-clause-ok
returns-clause-ok c = noted c.args.self.now c.args.line.now c.args.reply c.with-counts.result c.with-b.result c.with-c.result c.note.new.self c.with-counts.ensures c.with-b.ensures c.with-c.ensures c.in_ok-note.ensures.ok
