use Rattle.std.proofs.Common.{rules}
use Rattle.std.proofs.lemmas.Fn.{filter_same}
use Rattle.rdf_types.specs.declared.records.Stamped.{Stamped}
use Rattle.rdf_model.specs.Window.{concerns}
use Rattle.extractor.specs.Extract.{protects}
use Rattle.extractor.proofs.extractor.keep_concerned.Goals as goal

pub returns : goal.returns
returns c = filter_same _ (λ (s : Stamped). concerns (protects c.args.layout.now) s.rec) _ (λ x b q k. search rules) _ _ c.retain.ensures.filtered
