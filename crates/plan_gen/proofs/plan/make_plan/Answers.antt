use Rattle.std.proofs.Common.{◌≡◌, ◌+◌, ◌/◌, List, ◌++◌, sym, ap, subst, ◌∙◌}
use Rattle.plan_lang.specs.declared.lines.Line.{Line}
use Rattle.plan_lang.specs.declared.lines.Plan.{Plan}
use Rattle.plan_lang.specs.PlanText.{IsPlan}
use Rattle.plan_gen.specs.Generated.{load, last_part}
use Rattle.plan_gen.proofs.Making.{made}
use Rattle.plan_gen.proofs.Spelled.{is_plan}
use Rattle.plan_gen.proofs.plan.make_plan.Goals as goal

pub returns-clause-made : goal.returns-clause-made
returns-clause-made c =
    let seed = c.args.seed in
    let txns = c.args.txns in
    let plan : Plan = record { layout = c.in_ok-layout.layout; lines = c.put_last_part.new.lines } in
    let before : c.put_load.new.lines ≡ load txns 1 seed = c.in_ok-put_load.ensures ∙ ap (λ (ls : List Line). ls ++ load txns 1 seed) c.new-lines.ensures in
    made plan seed txns c.in_ok-layout.ensures (c.in_ok-put_last_part.ensures ∙ ap (λ (ls : List Line). ls ++ last_part (txns + 1) (txns / 4)) before)

pub returns-clause-spelled : goal.returns-clause-spelled
returns-clause-spelled c = subst IsPlan (sym (returns-clause-made c)) (is_plan c.args.seed c.args.txns c.requires.few)
