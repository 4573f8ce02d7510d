use Rattle.std.proofs.Common.{◌∙◌, Some, ◌==◌}
use Rattle.indexmap.proofs.CallerLemmas.{insert_entry-new}
use Rattle.open_txns.proofs.marks.add_mark.Goals as goal

pub returns-clause-ok : goal.returns-clause-ok
returns-clause-ok c = c.in_ok-insert.ensures.entries ∙ insert_entry-new ◌==◌ c.args.marks.now c.args.txn (Some c.args.pos) c.requires
