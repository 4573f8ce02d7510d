use Rattle.std.proofs.Common.{◌≡◌, List, drop, fold}
use Rattle.rdf_types.specs.declared.records.Record.{Record}
use Rattle.primary_machine.specs.Kept.{Lasts}
use Rattle.primary_machine.specs.Backouts.{IsOnWay, Fits, cut_at, backed_out}
use Rattle.primary_machine.proofs.aborting.put_all_back.Given as goal

abbrev pub invariant-loop-txn : goal.invariant-loop-txn
invariant-loop-txn l = (old : List Record) (before : Lasts) → IsOnWay old before l.fn.trail.items l.fn.places l.fn.log →
    IsOnWay old before l.trail.items l.places l.log
    × (Fits l.most l.fn.trail.items → Fits l.most l.trail.items × (cut_at l.most (fold (backed_out l.fn.founds) l.trail.items (drop l.txn-index l.txns)) ≡ cut_at l.most (fold (backed_out l.fn.founds) l.fn.trail.items l.txns)))
