-- A plan with the layout and the lines of the generated one.
use Rattle.std.proofs.Common.{◌≡◌, ℕ, ◌+◌, ◌/◌, List, ◌++◌, Some, ap, ◌∙◌}
use Rattle.plan_lang.specs.declared.lines.Line.{Line}
use Rattle.plan_lang.specs.declared.lines.Plan.{Plan}
use Rattle.plan_lang.specs.PlanReading.{Heading, heading_of}
use Rattle.plan_lang.specs.LayoutLaws.{same_plan}
use Rattle.plan_gen.specs.Generated.{generated_layout, load, last_part, generated_plan}

pub made : (plan : Plan) (seed txns : ℕ) → heading_of plan.layout ≡ heading_of generated_layout → plan.lines ≡ load txns 1 seed ++ last_part (txns + 1) (txns / 4) → plan ≡ generated_plan seed txns
made plan seed txns h e =
    same_plan plan (generated_plan seed txns) (ap (λ (x : Heading). Some (x, plan.lines)) h ∙ ap (λ (ls : List Line). Some (heading_of generated_layout, ls)) e)
