use Rattle.std.proofs.Common.{ap, ◌∙◌, [], length}
use Rattle.keyed_blocks.proofs.IndexLaws.{joined_is}
use Rattle.keyed_blocks.proofs.LaidLaws.{laid_all, entries_many}
use Rattle.keyed_blocks.proofs.laws.index_covers.Goals as goal

pub returns-clause-many : goal.returns-clause-many
returns-clause-many c = λ index rows payloads x.
    let all = laid_all x.blocks rows index x.base in
    ap length all.index_is ∙ entries_many [] x.blocks

pub returns-clause-all : goal.returns-clause-all
returns-clause-all c = λ index rows payloads x. joined_is index rows payloads x

pub returns-clause-rise : goal.returns-clause-rise
returns-clause-rise c = λ index rows payloads x. (laid_all x.blocks rows index x.base).risen
