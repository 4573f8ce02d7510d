use Rattle.std.proofs.Common.{◌≡◌, cond, Some, None, ap, sym, ◌∙◌}
use Rattle.rdf_model.specs.Trail.{owner}
use Rattle.rdf_core.specs.declared.events.Standing.TheVariants.{Up}
use Rattle.rdf_core.specs.Primary.{Primary}
use Rattle.primary_machine.proofs.KeptLaws.{owner_kept}
use Rattle.primary_machine.proofs.primary.PrimaryState.owner.Goals as goal

pub returns-in-None : goal.returns-in-None
returns-in-None c =
    let a = c.self.inside in
    let up : a.standing ≡ Up = ap (λ (p : Primary). p.standing) c.self.view_is ∙ c.requires in
    sym (owner_kept c.one_holder.ensures a.trail.items a.active a.standing a.places a.used a.founds c.args.key.now None c.self.invariant up c.in-None.ensures)
    ∙ ap (λ (p : Primary). owner p.trail c.args.key.now) c.self.view_is

pub returns-then-contains : goal.returns-then-contains
returns-then-contains c =
    let a = c.self.inside in
    let up : a.standing ≡ Up = ap (λ (p : Primary). p.standing) c.self.view_is ∙ c.requires in
    ap (λ b. cond b (Some c.in-Some.by) None) (sym c.if-contains.true ∙ c.contains.ensures)
    ∙ sym (owner_kept c.one_holder.ensures a.trail.items a.active a.standing a.places a.used a.founds c.args.key.now (Some c.in-Some.by) c.self.invariant up c.in-Some.ensures)
    ∙ ap (λ (p : Primary). owner p.trail c.args.key.now) c.self.view_is

pub returns-else-contains : goal.returns-else-contains
returns-else-contains c =
    let a = c.self.inside in
    let up : a.standing ≡ Up = ap (λ (p : Primary). p.standing) c.self.view_is ∙ c.requires in
    ap (λ b. cond b (Some c.in-Some.by) None) (sym c.if-contains.false ∙ c.contains.ensures)
    ∙ sym (owner_kept c.one_holder.ensures a.trail.items a.active a.standing a.places a.used a.founds c.args.key.now (Some c.in-Some.by) c.self.invariant up c.in-Some.ensures)
    ∙ ap (λ (p : Primary). owner p.trail c.args.key.now) c.self.view_is
