use Rattle.std.proofs.Common.{fold, ap}
use Rattle.primary_machine.specs.Backouts.{without_aborted}
use Rattle.primary_machine.proofs.CutLaws.{take_rest}
use Rattle.primary_machine.proofs.aborting.forget_aborted.Goals as goal

pub loop-entry-init : goal.loop-entry-init
loop-entry-init c = ap (fold without_aborted c.args.founds.now) (take_rest c.args.from c.args.trail.now)
