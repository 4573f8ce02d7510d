use Rattle.std.proofs.Common.{[], ◌∷◌, fold, sym, ◌∙◌}
use Rattle.rdf_model.specs.Lines.{after_abort}
use Rattle.primary_machine.proofs.AddedLaws.{kept_adds, adds_none, aborts_add, adds_on}
use Rattle.primary_machine.proofs.OpenLaws.{one_open}
use Rattle.primary_machine.proofs.images.append_abort.Goals as goal

pub back_out-requires-clause-opened : goal.back_out-requires-clause-opened
back_out-requires-clause-opened c = one_open c.args.trail.now.items c.args.txn (c.requires.opened ∙ sym c.contains.ensures ∙ c.if-not-contains.false)

pub returns-clause-kept : goal.returns-clause-kept
returns-clause-kept c =
    let trail = c.args.trail.now.items in
    let ts = c.args.txn ∷ [] in
    kept_adds trail c.back_out.new.trail.items c.args.places.now c.back_out.new.places c.args.used.now
    (adds_on c.back_out.result c.args.most trail c.back_out.new.trail.items (fold after_abort trail ts) c.requires.room (aborts_add trail trail ts (adds_none trail)) c.back_out.ensures.ok c.back_out.ensures.err)
    c.requires.kept c.back_out.ensures.last
