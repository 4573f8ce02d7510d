use Rattle.std.proofs.Common.{◌≡◌, length, arith}
use Rattle.command_words.proofs.FormLaws.{no_form}
use Rattle.command_words.proofs.reading.read_words.Goals as goal

pub returns-in-len2-clause-given : goal.returns-in-len2-clause-given
returns-in-len2-clause-given c =
    no_form c.args.words.now
    (λ e. let one : length c.args.words.now ≡ 1 = e in omega (arith, one, c.in-len2.len_at_least))
    (λ e. let three : length c.args.words.now ≡ 3 = e in omega (arith, three, c.in-len2.len_below))

pub returns-in-len4-up-clause-given : goal.returns-in-len4-up-clause-given
returns-in-len4-up-clause-given c =
    no_form c.args.words.now
    (λ e. let one : length c.args.words.now ≡ 1 = e in omega (arith, one, c.in-len4-up.len_at_least))
    (λ e. let three : length c.args.words.now ≡ 3 = e in omega (arith, three, c.in-len4-up.len_at_least))
