use Rattle.std.proofs.Common.{slice_get, ap, sym, ◌∙◌}
use Rattle.std.specs.FinMap as map
use Rattle.keyed_files.proofs.OrderLemmas.{first_joined}
use Rattle.keyed_files.proofs.files.KeyedFiles.first.Goals as goal

pub returns : goal.returns
returns c =
    c.first_row.ensures ∙ sym (first_joined (map.from_entries c.self.inside.files.entries) c.self.invariant)
    ∙ ap (λ m. slice_get (map.entries m) 0) c.self.view_is
