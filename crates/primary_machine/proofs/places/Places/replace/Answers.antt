use Rattle.std.proofs.Common.{refl, ap, sym, cond, subst, ◌∙◌}
use Rattle.std.specs.FinMap as map
use Rattle.std.specs.Option.{IsSome, is_some}
use Rattle.rdf_types.specs.Places.{place_cmp, place_cmp_total, place_cmp_exact}
use Rattle.rdf_types.specs.MapViews.{get_entries, entries_given}
use Rattle.primary_machine.proofs.places.Places.replace.Goals as goal

pub returns-in-Some : goal.returns-in-Some
returns-in-Some c =
    entries_given place_cmp place_cmp_total place_cmp_exact c.self.inside.lasts.entries (c.get_mut.follows.lender c.args.last).entries c.args.key.now c.args.last
    ((c.get_mut.follows.holds c.args.last).3 (subst IsSome c.in-Some.ensures.value refl)).0
    ∙ ap (λ m. map.insert m c.args.key.now c.args.last) c.self.view_is
    ∙ sym (ap (λ b. cond b (map.insert c.args.self.now c.args.key.now c.args.last) c.args.self.now)
    (sym (ap (λ o. is_some o) (c.in-Some.ensures.value ∙ get_entries place_cmp place_cmp_total c.self.inside.lasts.entries c.args.key.now ∙ ap (λ m. map.get m c.args.key.now) c.self.view_is))))

pub returns : goal.returns
returns c =
    ap (λ m. map.from_entries m.entries) c.get_mut.follows.holds-at-none ∙ c.self.view_is
    ∙ sym (ap (λ b. cond b (map.insert c.args.self.now c.args.key.now c.args.last) c.args.self.now)
    (sym (ap (λ o. is_some o) (c.in_default.ensures.value ∙ get_entries place_cmp place_cmp_total c.self.inside.lasts.entries c.args.key.now ∙ ap (λ m. map.get m c.args.key.now) c.self.view_is))))
