use Rattle.plan_lang.proofs.NextLaws.{line_found, line_last}
use Rattle.plan_lang.proofs.text_lines.first_line.Goals as goal

pub returns-in-Some-clause-value : goal.returns-in-Some-clause-value
returns-in-Some-clause-value c = line_found c.args.bytes.now c.in-Some.parts.0.now c.in-Some.parts.1.now c.in-Some.ensures.value

pub returns-in-None-clause-value : goal.returns-in-None-clause-value
returns-in-None-clause-value c = line_last c.args.bytes.now c.in-None.ensures.value c.requires
