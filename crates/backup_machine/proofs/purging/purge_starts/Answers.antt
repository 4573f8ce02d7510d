use Rattle.std.proofs.Common.{arith, drop, length-drop}
use Rattle.backup_machine.proofs.PurgeLaws.{count_dropped}
use Rattle.backup_machine.proofs.purging.purge_starts.Goals as goal

pub returns-clause-count : goal.returns-clause-count
returns-clause-count c = λ h.
    let starts = c.args.starts.now in
    let gone = c.count_old-gone.result in
    let e = count_dropped c.args.retain c.args.floor starts (drop gone starts) c.args.most c.count_old-gone.ensures.starts h in
    omega (arith, e, length-drop gone starts, c.count_old-gone.ensures.within)
