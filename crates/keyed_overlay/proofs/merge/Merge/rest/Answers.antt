use Rattle.std.proofs.Common.{◌++◌, T, List, sym, ap, subst, ◌∙◌}
use Rattle.rdf_types.specs.declared.records.Row.{Row}
use Rattle.keyed_overlay.specs.Merging.{Merging}
use Rattle.keyed_overlay.proofs.PassLemmas.{passed_all}
use Rattle.keyed_overlay.proofs.merge.Merge.rest.Goals as goal

pub returns-clause-all : goal.returns-clause-all
returns-clause-all c base out so_far h =
    ap (λ (rows : List Row). out ++ rows) (c.into_vec.ensures.items ∙ ap (λ (m : Merging). m.to_come) c.self.view_is)
    ∙ passed_all c.args.self.laid base out c.args.self.to_come so_far (subst T (sym h) tt)
