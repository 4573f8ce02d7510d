use Rattle.std.proofs.Common.{◌≡◌, [], ◌∷◌, ◌++◌, OnOk, OnErr, refl, ap, sym, subst, ◌∙◌}
use Rattle.std.specs.Option.{IsSome}
use Rattle.std.specs.FinMap as map
use Rattle.std.specs.Ordering.{nat_cmp}
use Rattle.std.specs.Cmp.{nat_cmp_total}
use Rattle.std.proofs.lemmas.Map.Lookups.{exact_unsigned}
use Rattle.rdf_types.specs.MapViews.{get_entries, entries_given}
use Rattle.record_locks.specs.Locks.{listed, places_of}
use Rattle.record_locks.proofs.ListLemmas.{ListDone, listed_more}
use Rattle.record_locks.proofs.held.Held.add.Goals as goal

done : (c : goal.After-self-in-Some-1) → ListDone c.add.result (map.from_entries c.self.inside.by_txn.entries) (map.from_entries (c.get_mut.follows.lender c.add.new.self).entries) c.args.txn c.args.key
done c =
    listed_more c.add.result (map.from_entries c.self.inside.by_txn.entries) _ c.args.txn c.args.key c.in-Some.places.now c.add.new.self
    (sym (c.in-Some.ensures.value ∙ get_entries nat_cmp nat_cmp_total c.self.inside.by_txn.entries c.args.txn))
    (entries_given nat_cmp nat_cmp_total exact_unsigned c.self.inside.by_txn.entries (c.get_mut.follows.lender c.add.new.self).entries c.args.txn c.add.new.self
    ((c.get_mut.follows.holds c.add.new.self).3 (subst IsSome c.in-Some.ensures.value refl)).0)
    c.add.ensures.ok c.add.ensures.err

pub returns-in-Some-clause-ok : goal.returns-in-Some-clause-ok
returns-in-Some-clause-ok c =
    subst (λ m. OnOk c.add.result (map.from_entries (c.get_mut.follows.lender c.add.new.self).entries ≡ map.insert m c.args.txn (places_of m c.args.txn ++ c.args.key ∷ []))) c.self.view_is (done c).ok

pub returns-in-Some-clause-err : goal.returns-in-Some-clause-err
returns-in-Some-clause-err c =
    subst (λ m. OnErr c.add.result (map.from_entries (c.get_mut.follows.lender c.add.new.self).entries ≡ m)) c.self.view_is (done c).err

pub returns-clause-ok : goal.returns-clause-ok
returns-clause-ok c =
    entries_given nat_cmp nat_cmp_total exact_unsigned c.get_mut.follows.lender-at-none.entries c.insert.new.self.entries c.args.txn c.in_ok-places.places c.in_ok-insert.ensures.updates.0
    ∙ ap (λ m. map.insert (map.from_entries m.entries) c.args.txn c.in_ok-places.places) c.get_mut.follows.holds-at-none
    ∙ ap (map.insert (map.from_entries c.self.inside.by_txn.entries) c.args.txn)
    (c.in_ok-places.ensures ∙ ap (λ o. listed o ++ c.args.key ∷ []) (c.in_default.ensures.value ∙ get_entries nat_cmp nat_cmp_total c.self.inside.by_txn.entries c.args.txn))
    ∙ ap (λ m. map.insert m c.args.txn (places_of m c.args.txn ++ c.args.key ∷ [])) c.self.view_is
