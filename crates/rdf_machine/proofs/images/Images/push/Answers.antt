use Rattle.std.proofs.Common.{◌≡◌, [], ◌∷◌, ◌++◌, OnOk, OnErr, refl, ap, sym, subst, ◌∙◌}
use Rattle.std.specs.FinMap as map
use Rattle.std.specs.Option.{IsSome}
use Rattle.rdf_types.specs.MapViews.{get_entries, entries_given}
use Rattle.rdf_types.specs.Places.{place_cmp, place_cmp_total, place_cmp_exact}
use Rattle.rdf_machine.specs.Images.{positions_in}
use Rattle.rdf_machine.proofs.PushLaws.{Pushed, pushed_more, first_pushed}
use Rattle.rdf_machine.proofs.images.Images.push.Goals as goal

done : (c : goal.After-drop-key-in-Some) → Pushed c.push.result (map.from_entries c.self.inside.by_place.entries) (map.from_entries (c.get_mut.follows.lender c.push.new.self).entries) c.args.key c.args.pos
done c =
    pushed_more c.push.result (map.from_entries c.self.inside.by_place.entries) _ c.args.key c.args.pos c.in-Some.positions.now c.push.new.self
    (sym (c.in-Some.ensures.value ∙ get_entries place_cmp place_cmp_total c.self.inside.by_place.entries c.args.key))
    (entries_given place_cmp place_cmp_total place_cmp_exact c.self.inside.by_place.entries (c.get_mut.follows.lender c.push.new.self).entries c.args.key c.push.new.self
    ((c.get_mut.follows.holds c.push.new.self).3 (subst IsSome c.in-Some.ensures.value refl)).0)
    c.push.ensures.ok c.push.ensures.err

pub returns-in-Some-clause-ok : goal.returns-in-Some-clause-ok
returns-in-Some-clause-ok c =
    subst (λ m. OnOk c.push.result (map.from_entries (c.get_mut.follows.lender c.push.new.self).entries ≡ map.insert m c.args.key (positions_in m c.args.key ++ c.args.pos ∷ []))) c.self.view_is (done c).ok

pub returns-in-Some-clause-err : goal.returns-in-Some-clause-err
returns-in-Some-clause-err c =
    subst (λ m. OnErr c.push.result (map.from_entries (c.get_mut.follows.lender c.push.new.self).entries ≡ m)) c.self.view_is (done c).err

pub returns-clause-ok : goal.returns-clause-ok
returns-clause-ok c =
    first_pushed c.put.result c.args.self.now _ c.put.new.self c.args.key c.args.pos c.push-2.new.self
    (ap (λ m. map.from_entries m.entries) c.get_mut.follows.holds-at-none ∙ c.self.view_is)
    (c.in_ok-push.ensures.ok ∙ ap (λ ps. ps ++ c.args.pos ∷ []) c.new-positions.ensures)
    (c.in_default.ensures.value ∙ get_entries place_cmp place_cmp_total c.self.inside.by_place.entries c.args.key ∙ ap (λ m. map.get m c.args.key) c.self.view_is)
    c.put.ensures.ok
