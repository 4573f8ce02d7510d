use Rattle.std.proofs.Common.{◌≡◌, ◌-◌, length, take}
use Rattle.plan_lang.specs.LineReading.{words_left}
use Rattle.plan_lang.specs.Grammar.{numbers_at}
use Rattle.plan_lang.proofs.DigitLoop.{with_front}
use Rattle.plan_lang.proofs.header_reading.digits_at.Given as goal

abbrev pub invariant-loop-i : goal.invariant-loop-i
invariant-loop-i l =
    record { size : length l.digits ≡ 16; so_far : with_front (take l.i l.digits) (numbers_at 0 l.top (l.count - l.i) (words_left l.words)) ≡ numbers_at 0 l.fn.top l.fn.count (words_left l.fn.words) }
