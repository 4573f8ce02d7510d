use Rattle.std.proofs.Common.{ℕ, not, List, Some, sym, ap, subst, ◌∙◌}
use Rattle.rdf_model.specs.Lines.{after_change}
use Rattle.plan_lang.specs.declared.lines.Line.TheVariants as line
use Rattle.rdf_core.specs.declared.replies.NoWhy.TheVariants as no
use Rattle.rdf_core.specs.Effects.{when}
use Rattle.rdf_core.specs.Primary.{cannot_use, stands}
use Rattle.rdf_core.specs.Proper.{IsProper}
use Rattle.primary_machine.proofs.Refusals.{none_first, when_false}
use Rattle.primary_machine.proofs.primary.PrimaryState.update.Goals as goal

pub change-requires : goal.change-requires
change-requires c =
    let a = c.args.self.now in
    let k = c.args.key.now in
    let none = none_first (cannot_use c.args.layout.now a c.args.txn k) (when (not (stands a.trail k)) no.Missing) c.in_default.ensures (when_false (not (stands a.trail k)) no.Missing (ap not (sym c.stands.ensures ∙ c.if-not-stands.false))) in
    λ p. subst (λ (v : List ℕ). IsProper (record a { trail = after_change a.trail c.args.txn k (Some v) })) (sym c.in_ok-after.ensures)
    (c.line_keeps_proper.ensures c.args.layout.now a (line.Update c.args.txn k c.args.value.now) none p)
