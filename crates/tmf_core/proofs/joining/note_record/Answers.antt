use Rattle.std.proofs.Common.{sym, subst}
use Rattle.tmf_core.specs.Joins.{NotesNext}
use Rattle.tmf_core.proofs.JoinLaws.{commit_next, abort_next}
use Rattle.tmf_core.proofs.joining.note_record.Goals as goal

pub returns-in-Commit : goal.returns-in-Commit
returns-in-Commit c = subst (λ r. NotesNext r c.args.txns.now c.end.new.self) (sym c.in-Commit.is) (commit_next c.next_follows.ensures c.args.txns.now c.end.new.self c.in-Commit.txn c.end.ensures.commit)

pub returns-in-Abort : goal.returns-in-Abort
returns-in-Abort c = subst (λ r. NotesNext r c.args.txns.now c.end-in-Abort.new.self) (sym c.in-Abort.is) (abort_next c.next_follows.ensures c.args.txns.now c.end-in-Abort.new.self c.in-Abort.txn c.end-in-Abort.ensures.abort)
