use Rattle.std.proofs.Common.{◌≡◌, ap, sym, subst, ◌∙◌}
use Rattle.std.specs.FinMap as map
use Rattle.record_locks.specs.Locks.{owner_of, freed, listed, places_of, without, Agree}
use Rattle.record_locks.proofs.AgreeLemmas.{agree_same, agree_released, agree_nothing, owner_of-released}
use Rattle.record_locks.proofs.table.LockTable.release_all.Goals as goal

pub invariant_of-self : goal.invariant_of-self
invariant_of-self c =
    subst (λ n. Agree c.self.inside.owners n) (sym c.take.ensures.after)
    (agree_nothing c.self.inside.owners c.self.inside.held c.args.txn c.self.invariant (sym c.in_default.ensures.value))

-- the places noted for the transaction are freed
left : (c : goal.After-drop-places-inside) → c.remove_all.new.self ≡ without c.self.inside.owners (places_of c.self.inside.held c.args.txn)
left c = c.remove_all.ensures ∙ ap (without c.self.inside.owners) (c.keys.ensures ∙ ap listed c.in-Some.ensures.value)

pub invariant_of-self-2 : goal.invariant_of-self-2
invariant_of-self-2 c =
    agree_same (without c.self.inside.owners (places_of c.self.inside.held c.args.txn)) c.remove_all.new.self (map.remove c.self.inside.held c.args.txn) c.take.new.self
    (left c) c.take.ensures.after (agree_released c.self.inside.owners c.self.inside.held c.args.txn c.self.invariant)

pub returns-clause-freed : goal.returns-clause-freed
returns-clause-freed c key =
    ap (λ m. owner_of m key) (left c)
    ∙ owner_of-released c.self.inside.owners c.self.inside.held c.args.txn c.self.invariant key
    ∙ ap (λ m. freed c.args.txn (owner_of m key)) c.self.view_is
