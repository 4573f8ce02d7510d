use Rattle.std.proofs.Common.{sym, subst}
use Rattle.rdf_model.specs.Lines.{after_change}
use Rattle.rdf_core.specs.Primary.{Primary}
use Rattle.rdf_core.specs.Proper.{IsProper, IsProperAt}
use Rattle.primary_machine.proofs.FoundLaws.{running_of}
use Rattle.primary_machine.proofs.primary.PrimaryState.change.Goals as goal

pub append_noted-requires-clause-running : goal.append_noted-requires-clause-running
append_noted-requires-clause-running c =
    let a = c.self.inside in
    let now = c.args.self.now in
    let p = c.requires (subst (λ (q : Primary). IsProper q) c.self.view_is c.self.invariant.proper) in
    running_of a.standing a.trail.items a.active c.args.txn c.args.key.now c.args.after
    (subst (λ (q : Primary). IsProperAt q.standing (after_change q.trail c.args.txn c.args.key.now c.args.after) q.active) (sym c.self.view_is) p)
