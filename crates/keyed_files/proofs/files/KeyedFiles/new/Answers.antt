use Rattle.std.proofs.Common.{ap, sym, subst, ◌∙◌}
use Rattle.std.specs.FinMap as map
use Rattle.keyed_files.specs.Joined.{joined, AllFilled}
use Rattle.keyed_files.proofs.JoinedLemmas.{text, filled_empty, joined_empty}
use Rattle.keyed_files.proofs.files.KeyedFiles.new.Goals as goal

pub invariant_of-result : goal.invariant_of-result
invariant_of-result c = subst (λ fs. AllFilled (map.from_entries {R = text} fs)) (sym c.new.ensures.empty) filled_empty

pub returns : goal.returns
returns c = ap (λ fs. joined (map.from_entries {R = text} fs)) c.new.ensures.empty ∙ joined_empty
