use Rattle.std.proofs.Common.{◌≡◌, ◌≤◌, ◌-◌, ◌∙◌, nat_lt, false, length, drop, arith, length-drop}
use Rattle.std.proofs.lemmas.Bool.Decides.{nat_tests}
use Rattle.backup_machine.proofs.PurgeLaws.{all_retained, too_few}
use Rattle.backup_machine.proofs.purging.may_drop.Goals as goal

pub returns-then-stand-lt2-clause-may : goal.returns-then-stand-lt2-clause-may
returns-then-stand-lt2-clause-may c =
    let starts = c.args.starts.now in
    too_few c.args.retain c.args.floor (drop c.args.gone starts) (omega (arith, c.if-stand-lt2.true, c.len.ensures, length-drop c.args.gone starts))

pub returns-else-stand-retain-clause-may : goal.returns-else-stand-retain-clause-may
returns-else-stand-retain-clause-may c =
    let starts = c.args.starts.now in
    let few : length (drop c.args.gone starts) ≤ c.args.retain = omega (arith, c.if-stand-retain.false, c.len.ensures, length-drop c.args.gone starts) in
    let no : nat_lt c.args.retain (c.len.result - c.args.gone) ≡ false = grind (arith, nat_tests, c.if-stand-retain.false) in
    no ∙ all_retained c.args.retain c.args.floor (drop c.args.gone starts) few
