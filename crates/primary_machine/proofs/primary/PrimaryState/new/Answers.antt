use Rattle.primary_machine.proofs.KeptLaws.{fit_by}
use Rattle.primary_machine.proofs.primary.PrimaryState.new.Goals as goal

pub invariant_of-result : goal.invariant_of-result
invariant_of-result c =
    fit_by c.new.result.items c.new-2.result c.new-3.result c.new-4.result c.new-5.result c.new.ensures.items c.new-2.ensures c.new-3.ensures c.new-4.ensures c.new-5.ensures
