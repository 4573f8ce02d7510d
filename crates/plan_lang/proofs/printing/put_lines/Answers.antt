use Rattle.std.proofs.Common.{arith}
use Rattle.plan_lang.specs.LineText.{line_words}
use Rattle.plan_lang.proofs.Spacing.{texts-done}
use Rattle.plan_lang.proofs.printing.put_lines.Goals as goal

pub returns : goal.returns
returns c = texts-done line_words c.args.lines.now c.loop-line.line-index c.args.out.now.items c.loop-line.out.items (omega arith) c.loop-line.invariant
