use Rattle.std.proofs.Common.{ap, ◌∙◌, ◌==◌}
use Rattle.std.specs.Map.{lookup}
use Rattle.open_txns.specs.Noted.{has_txn}
use Rattle.open_txns.proofs.Marked.{absent-swept}
use Rattle.open_txns.proofs.Kept.{kept-swept, kept-added, view-swept, view-added, view-same}
use Rattle.open_txns.proofs.OpenTxns.open_again.Goals as goal

pub add_mark-requires : goal.add_mark-requires
add_mark-requires c =
    ap (λ m. lookup (λ k. c.args.txn == k) m) c.sweep.ensures
    ∙ absent-swept c.args.txn c.self.inside.marks.entries (ap (λ m. has_txn m c.args.txn) c.self.view_is ∙ c.requires)

pub invariant_of-self : goal.invariant_of-self
invariant_of-self c =
    kept-added 0 0 c.args.txn c.args.pos c.sweep.new.marks.entries c.add_mark.new.marks.entries c.add_mark.result
    (kept-swept c.self.inside.marks.entries c.sweep.new.marks.entries c.sweep.ensures) c.add_mark.ensures.ok c.add_mark.ensures.err

pub returns-clause-ok : goal.returns-clause-ok
returns-clause-ok c =
    view-added c.args.txn c.args.pos c.sweep.new.marks.entries c.add_mark.new.marks.entries c.args.self.now c.add_mark.result
    (view-swept c.self.inside.marks.entries c.sweep.new.marks.entries c.args.self.now c.sweep.ensures c.self.view_is) c.add_mark.ensures.ok

pub returns-clause-err : goal.returns-clause-err
returns-clause-err c =
    view-same c.sweep.new.marks.entries c.add_mark.new.marks.entries c.args.self.now c.add_mark.result
    (view-swept c.self.inside.marks.entries c.sweep.new.marks.entries c.args.self.now c.sweep.ensures c.self.view_is) c.add_mark.ensures.err
