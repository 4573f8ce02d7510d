use Rattle.std.proofs.Common.{arith, subst, sym, ap, length, List, ◌∙◌, max}
use Rattle.rdf_types.specs.declared.records.Stamped.{Stamped}
use Rattle.rdf_types.specs.Entries.{Rises, RiseFrom, since}
use Rattle.rdf_backup.proofs.FeedingLaws.{within_rises, within_few, within_since}
use Rattle.rdf_backup.proofs.feeding.new_part.Goals as goal

pub keep_since-requires : goal.keep_since-requires
keep_since-requires c = subst (λ (l : List Stamped). RiseFrom 0 l) (sym c.into_vec-part.ensures) (within_rises c.args.ship.from c.args.ship.to c.args.ship.part c.requires.spelled.rise)

pub returns-clause-new : goal.returns-clause-new
returns-clause-new c = c.keep_since.ensures ∙ ap (λ l. since c.args.from l) c.into_vec-part.ensures

pub returns-clause-few : goal.returns-clause-few
returns-clause-few c =
    let few = within_few c.args.ship.from c.args.ship.to c.args.from c.args.ship.part c.requires.spelled.rise in
    let is = ap (λ (l : List Stamped). length l) (returns-clause-new c) in
    omega (arith, few, is, c.requires.spelled.few)

pub returns-clause-rises : goal.returns-clause-rises
returns-clause-rises c = subst (λ (l : List Stamped). Rises c.args.from l (max c.args.ship.to c.args.from)) (sym (returns-clause-new c)) (within_since c.args.ship.from c.args.ship.to c.args.from c.args.ship.part c.requires.spelled.rise)
