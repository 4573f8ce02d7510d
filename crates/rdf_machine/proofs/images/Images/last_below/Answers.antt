use Rattle.std.proofs.Common.{List, ℕ, [], Option, unwrap_or, nat_lt, filter, ap, sym, subst, ◌∙◌}
use Rattle.std.specs.FinMap as map
use Rattle.std.specs.List.Sorted.{IsNonDecreasing}
use Rattle.rdf_types.specs.MapViews.{get_entries}
use Rattle.rdf_types.specs.Places.{place_cmp, place_cmp_total}
use Rattle.backup_machine.specs.Positions.{last_in}
use Rattle.rdf_machine.proofs.images.Images.last_below.Goals as goal

-- what is found among the positions
abbrev found : ℕ → Option (List ℕ) → Option ℕ
found upto o = last_in (filter (λ p. nat_lt p upto) (unwrap_or o []))

pub returns-in-None : goal.returns-in-None
returns-in-None c = λ rises.
    ap (found c.args.upto) (c.in-None.ensures.value ∙ get_entries place_cmp place_cmp_total c.self.inside.by_place.entries c.args.key.now ∙ ap (λ m. map.get m c.args.key.now) c.self.view_is)

pub returns-in-Some : goal.returns-in-Some
returns-in-Some c = λ rises.
    let is = c.in-Some.ensures.value ∙ get_entries place_cmp place_cmp_total c.self.inside.by_place.entries c.args.key.now ∙ ap (λ m. map.get m c.args.key.now) c.self.view_is in
    c.last_below.ensures (subst (λ (o : Option (List ℕ)). IsNonDecreasing (unwrap_or o [])) (sym is) rises) ∙ ap (found c.args.upto) is
