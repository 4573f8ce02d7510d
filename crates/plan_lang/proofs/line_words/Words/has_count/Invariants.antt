use Rattle.std.proofs.Common.{◌≡◌, ◌+◌, length}
use Rattle.plan_lang.specs.LineReading.{words_left}
use Rattle.plan_lang.proofs.line_words.Words.has_count.Given as goal

abbrev pub invariant-loop : goal.invariant-loop
invariant-loop l = length (words_left l.words) + l.counter ≡ length (words_left l.self)
