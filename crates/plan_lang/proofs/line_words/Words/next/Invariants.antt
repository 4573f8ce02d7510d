use Rattle.std.proofs.Common.{◌≡◌, length}
use Rattle.plan_lang.specs.Words.{words_in}
use Rattle.plan_lang.proofs.line_words.Words.next.Given as goal

abbrev pub invariant-loop-word : goal.invariant-loop-word
invariant-loop-word l = words_in l.rest ≡ words_in l.self.rest.now

abbrev pub decreases-loop-word : goal.decreases-loop-word
decreases-loop-word l = length l.rest
