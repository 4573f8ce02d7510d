use Rattle.std.proofs.Common.{◌≡◌, [], ◌∷◌, ◌++◌, ap, ◌∙◌}
use Rattle.std.specs.FinMap as map
use Rattle.record_locks.specs.Locks.{owner_of, places_of}
use Rattle.record_locks.proofs.AgreeLemmas.{agree_same, agree_locked, unlocked_again, on_err, on_ok, err_given}
use Rattle.record_locks.proofs.table.LockTable.lock_free.Goals as goal

-- the lock that was put is taken back
back : (c : goal.After-remove) → c.remove.new.self ≡ c.self.inside.owners
back c =
    c.remove.ensures
    ∙ ap (λ m. map.remove m c.args.key.now) (c.in_ok-put.ensures.ok ∙ ap (λ k. map.insert c.self.inside.owners k c.args.txn) c.in_ok-owned.ensures)
    ∙ unlocked_again c.self.inside.owners c.args.key.now c.args.txn (ap (λ m. owner_of m c.args.key.now) c.self.view_is ∙ c.requires.free)

pub invariant_of-self-then-is_err : goal.invariant_of-self-then-is_err
invariant_of-self-then-is_err c =
    agree_same c.self.inside.owners c.remove.new.self c.self.inside.held c.add-added.new.self (back c)
    (on_err c.add-added.result c.if-is_err.ensures.value c.add-added.ensures.err) c.self.invariant

pub invariant_of-self-else-is_err : goal.invariant_of-self-else-is_err
invariant_of-self-else-is_err c =
    agree_same (map.insert c.self.inside.owners c.args.key.now c.args.txn) c.put.new.self
    (map.insert c.self.inside.held c.args.txn (places_of c.self.inside.held c.args.txn ++ c.args.key.now ∷ [])) c.add-added.new.self
    (c.in_ok-put.ensures.ok ∙ ap (λ k. map.insert c.self.inside.owners k c.args.txn) c.in_ok-owned.ensures)
    (on_ok c.add-added.result c.if-is_err.ensures.value c.add-added.ensures.ok
    ∙ ap (λ k. map.insert c.self.inside.held c.args.txn (places_of c.self.inside.held c.args.txn ++ k ∷ [])) c.in_ok-listed.ensures)
    (agree_locked c.self.inside.owners c.self.inside.held c.args.txn c.args.key.now c.self.invariant
    (ap (λ m. owner_of m c.args.key.now) c.self.view_is ∙ c.requires.free))

pub returns-then-is_err-clause-err : goal.returns-then-is_err-clause-err
returns-then-is_err-clause-err c = err_given c.add-added.result (back c ∙ c.self.view_is)
