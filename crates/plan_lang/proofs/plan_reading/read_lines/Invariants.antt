use Rattle.std.proofs.Common.{◌-◌, None}
use Rattle.plan_lang.specs.Words.{lines_in}
use Rattle.plan_lang.specs.Grammar.{lines_from}
use Rattle.plan_lang.proofs.LineLoop.{SoFar}
use Rattle.plan_lang.proofs.plan_reading.read_lines.Given as goal

abbrev pub invariant-loop-lines : goal.invariant-loop-lines
invariant-loop-lines l =
    SoFar (lines_from l.fuses l.backups None 0 l.fn.text.number (lines_in l.fn.text.rest.now)) l.lines (lines_from l.fuses l.backups l.session l.since l.text.number (lines_in l.text.rest.now))

abbrev pub decreases-loop-lines : goal.decreases-loop-lines
decreases-loop-lines l = 20001 - l.text.number
