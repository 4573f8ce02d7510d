use Rattle.std.proofs.Common.{arith, length, ap, sym, ◌∙◌}
use Rattle.std.specs.FinMap as map
use Rattle.rdf_types.specs.MapViews.{entries-ordered}
use Rattle.rdf_types.specs.Places.{place_cmp, place_cmp_total, place_cmp_exact}
use Rattle.active_txns.proofs.FoundLemmas.{popped_some, popped_none}
use Rattle.std.proofs.lemmas.List.{nil_from_length}
use Rattle.active_txns.proofs.found.Found.pop.Goals as goal

pub returns-then-len-eq0-clause-none : goal.returns-then-len-eq0-clause-none
returns-then-len-eq0-clause-none c =
    sym (ap map.entries c.self.view_is) ∙ entries-ordered place_cmp place_cmp_total place_cmp_exact c.self.inside.by_place.entries c.len.ensures.ordered
    ∙ nil_from_length c.self.inside.by_place.entries (sym c.len.ensures.len ∙ c.if-len-eq0.true)

pub returns-clause-some : goal.returns-clause-some
returns-clause-some c =
    popped_some c.pop_first.result c.self.inside.by_place.entries c.pop_first.new.self.entries c.args.self.now _
    (sym (ap map.entries c.self.view_is) ∙ entries-ordered place_cmp place_cmp_total place_cmp_exact c.self.inside.by_place.entries c.len.ensures.ordered)
    (entries-ordered place_cmp place_cmp_total place_cmp_exact c.pop_first.new.self.entries c.pop_first.ensures.ordered)
    c.pop_first.ensures.removal

pub returns-clause-none : goal.returns-clause-none
returns-clause-none c = popped_none _ c.pop_first.result (length c.self.inside.by_place.entries) c.pop_first.ensures.variant.1 (omega (arith, c.len.ensures.len, c.if-len-eq0.false))
