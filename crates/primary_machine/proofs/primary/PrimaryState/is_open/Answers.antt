use Rattle.std.proofs.Common.{sym, ap, ◌∙◌}
use Rattle.std.specs.FinSet as set
use Rattle.rdf_model.specs.Trail.{is_open}
use Rattle.rdf_core.specs.Primary.{Primary}
use Rattle.primary_machine.proofs.KeptLaws.{open_kept}
use Rattle.primary_machine.proofs.Refusals.{idle_parts}
use Rattle.primary_machine.proofs.primary.PrimaryState.is_open.Goals as goal

pub returns : goal.returns
returns c = λ e.
    let a = c.self.inside in
    let parts = idle_parts c.args.self.now.standing (set.contains c.args.self.now.active c.args.txn) (sym e) in
    c.contains.ensures
    ∙ sym (open_kept a.trail.items a.active a.standing a.places a.used a.founds c.args.txn c.self.invariant
    (ap (λ (p : Primary). p.standing) c.self.view_is ∙ parts.0) (ap (λ (p : Primary). set.contains p.active c.args.txn) c.self.view_is ∙ parts.1))
    ∙ ap (λ (p : Primary). is_open c.args.txn p.trail) c.self.view_is
