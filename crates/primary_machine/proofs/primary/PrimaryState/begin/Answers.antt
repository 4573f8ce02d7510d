use Rattle.std.proofs.Common.{◌||◌, sym, subst, ◌∙◌}
use Rattle.std.specs.FinSet as set
use Rattle.std.specs.Ordering.{nat_cmp}
use Rattle.rdf_model.specs.Running.{is_used}
use Rattle.plan_lang.specs.declared.lines.Line.TheVariants as line
use Rattle.rdf_core.specs.declared.replies.NoWhy.TheVariants as no
use Rattle.rdf_core.specs.Effects.{when}
use Rattle.rdf_core.specs.Primary.{Primary, needs_up}
use Rattle.rdf_core.specs.Proper.{IsProperAt, IsProper}
use Rattle.primary_machine.proofs.Refusals.{none_first, when_false}
use Rattle.primary_machine.proofs.primary.PrimaryState.begin.Goals as goal

pub invariant_of-self-2 : goal.invariant_of-self-2
invariant_of-self-2 c =
    let a = c.args.self.now in
    let t = c.args.txn in
    let used = set.contains a.active t || is_used t a.trail in
    let none = none_first (needs_up a) (when used no.Used) c.in_default.ensures (when_false used no.Used (sym c.is_taken.ensures ∙ c.if-is_taken.false)) in
    let runs = c.line_keeps_proper.ensures c.args.layout.now a (line.Begin t) none (subst (λ (p : Primary). IsProper p) c.self.view_is c.self.invariant.proper) in
    record {
      kept = c.self.invariant.kept;
      found = c.self.invariant.found;
      proper = subst (λ (s : set.FinSet nat_cmp). IsProperAt c.self.inside.standing c.self.inside.trail.items s) (sym c.in_ok-insert.ensures.ok)
          (subst (λ (p : Primary). IsProperAt p.standing p.trail (set.insert p.active t)) (sym c.self.view_is) runs);
    }
