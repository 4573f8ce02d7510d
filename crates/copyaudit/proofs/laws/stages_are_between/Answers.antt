use Rattle.copyaudit.proofs.CopyLaws.{all_between}
use Rattle.copyaudit.proofs.laws.stages_are_between.Goals as goal

pub returns : goal.returns
returns c = λ plan lead lag used. all_between plan lead lag used
