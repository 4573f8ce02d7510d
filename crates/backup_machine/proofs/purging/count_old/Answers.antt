use Rattle.std.proofs.Common.{◌≡◌, ◌∙◌, ◌+◌, ap, false, true, drop, sym, arith}
use Rattle.rdf_core.specs.Backup.{drops}
use Rattle.backup_machine.specs.Budgets.{after_some, is_spent}
use Rattle.backup_machine.specs.Purged.{may_go}
use Rattle.backup_machine.proofs.BudgetLaws.{spent_is}
use Rattle.backup_machine.proofs.PurgeLaws.{one_further, one_stands}
use Rattle.backup_machine.proofs.purging.count_old.Goals as goal

pub overflow_add-gone : goal.overflow_add-gone
overflow_add-gone c =
    let l = c.loop-left in
    let may : may_go c.args.retain c.args.floor (drop l.gone c.args.starts.now) ≡ true = sym c.may_drop.ensures.may ∙ c.if-may_drop.true in
    let stands = one_stands l.gone c.args.retain c.args.floor c.args.starts.now may in
    omega (arith, stands, c.may_drop.ensures.counted)

pub loop-left-preserved : goal.loop-left-preserved
loop-left-preserved c =
    let l = c.loop-left in
    let starts = c.args.starts.now in
    let may : may_go c.args.retain c.args.floor (drop l.gone starts) ≡ true = sym c.may_drop.ensures.may ∙ c.if-may_drop.true in
    let some : is_spent l.left ≡ false = sym c.is_spent.ensures ∙ c.loop-left-test.true in
    record {
      within = one_stands l.gone c.args.retain c.args.floor starts may;
      left = l.invariant.left ∙ one_further l.gone c.args.retain c.args.floor starts l.left some may
          ∙ ap (after_some (drop (l.gone + 1) starts) (drops c.args.retain c.args.floor (drop (l.gone + 1) starts))) (sym c.one_less-left.ensures);
    }

pub returns-after-loop-left-clause-starts : goal.returns-after-loop-left-clause-starts
returns-after-loop-left-clause-starts c =
    let l = c.loop-left in
    let left = drop l.gone c.args.starts.now in
    spent_is left (drops c.args.retain c.args.floor left) l.left (sym c.is_spent.ensures ∙ c.loop-left-test.false) ∙ sym l.invariant.left
