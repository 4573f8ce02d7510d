use Rattle.std.proofs.Common.{take, drop, ◌+◌}
use Rattle.plan_lang.proofs.WordLaws.{word_at-none, word_at-some, without, parted}
use Rattle.plan_lang.proofs.words.split_at_byte.Goals as goal

pub returns-in-None-clause-value : goal.returns-in-None-clause-value
returns-in-None-clause-value c = word_at-none c.args.end c.args.bytes.now c.find_byte.result c.find_byte.ensures.value c.in-None.is

pub returns-in-None-clause-none : goal.returns-in-None-clause-none
returns-in-None-clause-none c = without c.args.end c.args.bytes.now (word_at-none c.args.end c.args.bytes.now c.find_byte.result c.find_byte.ensures.value c.in-None.is)

pub returns-in-Some-clause-value : goal.returns-in-Some-clause-value
returns-in-Some-clause-value c = rw (c.split_at.ensures.front, c.split_at-in-Some.ensures.back) (word_at-some c.args.end c.args.bytes.now c.find_byte.result c.in-Some.at c.find_byte.ensures.value c.in-Some.is)

pub returns-in-Some-clause-found : goal.returns-in-Some-clause-found
returns-in-Some-clause-found c = rw (c.split_at.ensures.front, c.split_at-in-Some.ensures.back) (parted c.args.end c.args.bytes.now (take c.in-Some.at c.args.bytes.now) (drop (c.in-Some.at + 1) c.args.bytes.now) (word_at-some c.args.end c.args.bytes.now c.find_byte.result c.in-Some.at c.find_byte.ensures.value c.in-Some.is))
