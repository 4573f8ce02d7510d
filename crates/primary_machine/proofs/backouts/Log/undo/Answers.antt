use Rattle.std.proofs.Common.{ap, sym, ◌∙◌}
use Rattle.primary_machine.specs.Backouts.{all_again}
use Rattle.primary_machine.proofs.BackoutLaws.{again_last}
use Rattle.primary_machine.proofs.backouts.Log.undo.Goals as goal

pub loop-key-preserved : goal.loop-key-preserved
loop-key-preserved c =
    ap (λ m. all_again m c.pop.new.self.items) c.set_again.ensures
    ∙ sym (again_last c.loop-key.places c.pop.new.self.items c.in-Some.key c.in-Some.last)
    ∙ sym (ap (all_again c.loop-key.places) c.in-Some.ensures.items)
    ∙ c.loop-key.invariant
