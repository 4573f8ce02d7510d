use Rattle.std.proofs.Common.{rules, append_assoc}
use Rattle.plan_lang.specs.Verbs.{verb_text, verb_of}
use Rattle.plan_lang.specs.LineText.{word_text, arguments}
use Rattle.plan_lang.proofs.Spacing.{line-map}
use Rattle.plan_lang.proofs.printing.put_line.Goals as goal

pub returns : goal.returns
returns c = rw (line-map word_text (verb_text (verb_of c.args.line.now)) (arguments c.args.line.now)) (search (rules, append_assoc))
