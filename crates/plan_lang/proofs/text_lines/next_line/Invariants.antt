use Rattle.std.proofs.Common.{◌≡◌, ◌≤◌, length}
use Rattle.plan_lang.specs.Words.{lines_in}
use Rattle.plan_lang.specs.Grammar.{next_line}
use Rattle.plan_lang.proofs.text_lines.next_line.Given as goal

abbrev pub invariant-loop-rest : goal.invariant-loop-rest
invariant-loop-rest l = record { same : next_line l.number (lines_in l.rest) ≡ next_line l.fn.text.number (lines_in l.fn.text.rest.now); further : l.fn.text.number ≤ l.number; few : l.number ≤ 20001 }

abbrev pub decreases-loop-rest : goal.decreases-loop-rest
decreases-loop-rest l = length l.rest
