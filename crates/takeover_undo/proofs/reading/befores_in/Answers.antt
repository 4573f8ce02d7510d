use Rattle.std.proofs.Common.{ap, not, ◌∙◌}
use Rattle.std.specs.FinMap.{get, get-empty}
use Rattle.rdf_types.specs.Places.{place_cmp}
use Rattle.rdf_model.specs.Trail.{first_before}
use Rattle.rdf_model.specs.Window.{records}
use Rattle.rdf_model.specs.Settled.{has}
use Rattle.active_txns.specs.Founds.{FirstBefore}
use Rattle.takeover_undo.specs.Undo.{lent}
use Rattle.takeover_undo.proofs.Noting.{empty_first}
use Rattle.takeover_undo.proofs.reading.befores_in.Goals as goal

pub loop-entry-init : goal.loop-entry-init
loop-entry-init c = record {
  here = λ q on.
      empty_first (get c.new-befores.result q) (first_before (λ t. not (has c.args.ended.now t)) q (records (lent c.args.part.now)))
      (ap (λ (m : FirstBefore). get m q) c.new-befores.ensures ∙ get-empty place_cmp q);
  elsewhere = λ q other. ap (λ (m : FirstBefore). get m q) c.new-befores.ensures ∙ get-empty place_cmp q;
}
