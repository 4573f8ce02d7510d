use Rattle.std.proofs.Common.{not, sym, ap, ◌∙◌}
use Rattle.plan_lang.specs.declared.lines.Line.TheVariants as line
use Rattle.rdf_core.specs.declared.replies.NoWhy.TheVariants as no
use Rattle.rdf_core.specs.Effects.{when}
use Rattle.rdf_core.specs.Primary.{cannot_use, stands}
use Rattle.primary_machine.proofs.Refusals.{none_first, when_false}
use Rattle.primary_machine.proofs.primary.PrimaryState.delete.Goals as goal

pub change-requires : goal.change-requires
change-requires c =
    let a = c.args.self.now in
    let k = c.args.key.now in
    let none = none_first (cannot_use c.args.layout.now a c.args.txn k) (when (not (stands a.trail k)) no.Missing) c.in_default.ensures (when_false (not (stands a.trail k)) no.Missing (ap not (sym c.stands.ensures ∙ c.if-not-stands.false))) in
    λ p. c.line_keeps_proper.ensures c.args.layout.now a (line.Delete c.args.txn k) none p
