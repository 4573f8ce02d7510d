use Rattle.std.proofs.Common.{◌≡◌, List}
use Rattle.std.specs.FinMap as map
use Rattle.rdf_types.specs.declared.records.Record.{Record}
use Rattle.rdf_model.specs.Lines.{put_back}
use Rattle.primary_machine.specs.Kept.{Lasts}
use Rattle.primary_machine.specs.Backouts.{IsOnWay, Fits, cut_at}
use Rattle.primary_machine.proofs.backouts.put_back.Given as goal

abbrev pub invariant-loop-key : goal.invariant-loop-key
invariant-loop-key l = (old : List Record) (before : Lasts) → IsOnWay old before l.fn.trail.items l.fn.places l.fn.log →
    IsOnWay old before l.trail.items l.places l.log
    × (Fits l.most l.fn.trail.items → Fits l.most l.trail.items × (cut_at l.most (put_back l.txn l.trail.items l.key-iterator) ≡ cut_at l.most (put_back l.txn l.fn.trail.items (map.entries l.fn.found))))
