use Rattle.std.proofs.Common.{refl, ap, subst, ◌∙◌}
use Rattle.std.specs.FinMap as map
use Rattle.std.specs.Ordering.{nat_cmp}
use Rattle.std.specs.Cmp.{nat_cmp_total}
use Rattle.std.specs.Option.{IsSome}
use Rattle.std.proofs.lemmas.Map.Lookups.{exact_unsigned}
use Rattle.rdf_types.specs.MapViews.{get_entries, entries_given}
use Rattle.active_txns.specs.FoundLaws.{without_there, without_none}
use Rattle.active_txns.proofs.active.Active.forget.Goals as goal

pub returns-in-Some : goal.returns-in-Some
returns-in-Some c =
    without_there c.args.self.now (map.from_entries (c.get_mut.follows.lender c.forget.new.self).entries) c.args.txn c.args.key.now c.in-Some.found.now c.forget.new.self
    (c.in-Some.ensures.value ∙ get_entries nat_cmp nat_cmp_total c.self.inside.by_txn.entries c.args.txn ∙ ap (λ m. map.get m c.args.txn) c.self.view_is)
    (entries_given nat_cmp nat_cmp_total exact_unsigned c.self.inside.by_txn.entries (c.get_mut.follows.lender c.forget.new.self).entries c.args.txn c.forget.new.self
    ((c.get_mut.follows.holds c.forget.new.self).3 (subst IsSome c.in-Some.ensures.value refl)).0 ∙ ap (λ m. map.insert m c.args.txn c.forget.new.self) c.self.view_is)
    c.forget.ensures

pub returns : goal.returns
returns c =
    without_none c.args.self.now _ c.args.txn c.args.key.now
    (c.in_default.ensures.value ∙ get_entries nat_cmp nat_cmp_total c.self.inside.by_txn.entries c.args.txn ∙ ap (λ m. map.get m c.args.txn) c.self.view_is)
    (ap (λ m. map.from_entries m.entries) c.get_mut.follows.holds-at-none ∙ c.self.view_is)
