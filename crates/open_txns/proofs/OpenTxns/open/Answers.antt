use Rattle.std.proofs.Common.{◌≡◌, subst, cond, ◌++◌, ◌∷◌, [], OnOk}
use Rattle.open_txns.specs.Marks.{open_marks}
use Rattle.open_txns.proofs.Kept.{kept-added, view-added}
use Rattle.open_txns.proofs.OpenTxns.open.Goals as goal

pub invariant_of-self : goal.invariant_of-self
invariant_of-self c =
    kept-added c.self.inside.head c.self.inside.ended c.args.txn c.args.pos c.self.inside.marks.entries c.add_mark.new.marks.entries c.add_mark.result
    c.self.invariant c.add_mark.ensures.ok c.add_mark.ensures.err

pub returns-else-contains_key-clause-ok : goal.returns-else-contains_key-clause-ok
returns-else-contains_key-clause-ok c =
    subst (λ m. OnOk c.add_mark.result (open_marks c.add_mark.new.marks.entries ≡ cond m c.args.self.now (c.args.self.now ++ (c.args.txn, c.args.pos) ∷ [])))
    c.if-is_open.ensures
    (view-added c.args.txn c.args.pos c.self.inside.marks.entries c.add_mark.new.marks.entries c.args.self.now c.add_mark.result c.self.view_is c.add_mark.ensures.ok)
