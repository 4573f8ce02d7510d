use Rattle.std.proofs.Common.{ℕ, List, Some, sym, subst, ◌∙◌}
use Rattle.rdf_model.specs.Lines.{after_change}
use Rattle.plan_lang.specs.declared.lines.Line.TheVariants as line
use Rattle.rdf_core.specs.declared.replies.NoWhy.TheVariants as no
use Rattle.rdf_core.specs.Effects.{when}
use Rattle.rdf_core.specs.Primary.{cannot_use, stands}
use Rattle.rdf_core.specs.Proper.{IsProper}
use Rattle.primary_machine.proofs.Refusals.{none_first, when_false}
use Rattle.primary_machine.proofs.primary.PrimaryState.insert.Goals as goal

pub change-requires : goal.change-requires
change-requires c =
    let a = c.args.self.now in
    let k = c.args.key.now in
    let none = none_first (cannot_use c.args.layout.now a c.args.txn k) (when (stands a.trail k) no.Exists) c.in_default.ensures (when_false (stands a.trail k) no.Exists (sym c.stands.ensures ∙ c.if-stands.false)) in
    λ p. subst (λ (v : List ℕ). IsProper (record a { trail = after_change a.trail c.args.txn k (Some v) })) (sym c.in_ok-after.ensures)
    (c.line_keeps_proper.ensures c.args.layout.now a (line.Insert c.args.txn k c.args.value.now) none p)
