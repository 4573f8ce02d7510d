-- Laws of layouts and plans: a header and the lines tell them.
use Rattle.std.proofs.Common.{◌≡◌, List, Some, ap, subst, ◌∙◌}
use Rattle.std.proofs.Props.{props}
use Rattle.rdf_types.specs.declared.layout.Layout.{Layout}
use Rattle.plan_lang.specs.declared.lines.Line.{Line}
use Rattle.plan_lang.specs.declared.lines.Plan.{Plan}
use Rattle.plan_lang.specs.PlanReading.{Heading, IsHeading, heading_of}
use Rattle.std.proofs.lemmas.Option.{same_Some}

-- the layout of a header
abbrev pub layout_from : (h : Heading) → IsHeading h → Layout
layout_from h is = record {
  backups = h.backups;
  volumes = h.volumes;
  trail_of = h.trails;
  protect = h.protect;
  extent = h.extent;
  retain = h.retain;
  some_backup = is.some_backup;
  few_backups = is.few_backups;
  some_volume = is.some_volume;
  few_volumes = is.few_volumes;
  a_trail_each = is.a_trail_each;
  few_trails = is.few_trails;
  a_flag_each = is.a_flag_each;
  some_extent = is.some_extent;
  small_extent = is.small_extent;
  some_retained = is.some_retained;
  few_retained = is.few_retained;
}

-- a layout is within its limits
abbrev pub is_heading : (layout : Layout) → IsHeading (heading_of layout)
is_heading layout = record {
  some_backup = layout.some_backup;
  few_backups = layout.few_backups;
  some_volume = layout.some_volume;
  few_volumes = layout.few_volumes;
  a_trail_each = layout.a_trail_each;
  few_trails = layout.few_trails;
  a_flag_each = layout.a_flag_each;
  some_extent = layout.some_extent;
  small_extent = layout.small_extent;
  some_retained = layout.some_retained;
  few_retained = layout.few_retained;
}

limits_prop : (h : Heading) → IsProp (IsHeading h)
limits_prop h = hlevel props

same_from : (h k : Heading) → h ≡ k → (f : IsHeading h) (g : IsHeading k) → layout_from h f ≡ layout_from k g
same_from h k e f = subst (λ (x : Heading). (g : IsHeading x) → layout_from h f ≡ layout_from x g) e (λ g. ap (layout_from h) (limits_prop h f g))

-- layouts with one header are one
same_layout : (a b : Layout) → heading_of a ≡ heading_of b → a ≡ b
same_layout a b e = same_from (heading_of a) (heading_of b) e (is_heading a) (is_heading b)

-- what a plan says
abbrev pub parts_of : Plan → Heading × List Line
parts_of plan = (heading_of plan.layout, plan.lines)

-- plans with one header and the same lines are one
pub same_plan : (p q : Plan) → Some (parts_of p) ≡ Some (parts_of q) → p ≡ q
same_plan p q e =
    let parts : parts_of p ≡ parts_of q = same_Some (parts_of p) (parts_of q) e in
    let layouts : p.layout ≡ q.layout = same_layout p.layout q.layout (ap (λ (x : Heading × List Line). x.0) parts) in
    let lines : p.lines ≡ q.lines = ap (λ (x : Heading × List Line). x.1) parts in
    ap (λ (l : Layout). let r : Plan = record { layout = l; lines = p.lines } in r) layouts ∙ ap (λ (ls : List Line). let r : Plan = record { layout = q.layout; lines = ls } in r) lines
