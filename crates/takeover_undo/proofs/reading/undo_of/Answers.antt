use Rattle.std.proofs.lemmas.Result.{IfOk-weaker}
use Rattle.rdf_model.specs.Settled.{has}
use Rattle.takeover_undo.specs.Undo.{lent}
use Rattle.takeover_undo.proofs.Listing.{undo_listed}
use Rattle.takeover_undo.proofs.reading.undo_of.Goals as goal

pub returns : goal.returns
returns c = λ ended.
    IfOk-weaker c.listed.result _ _
    (λ changes is. undo_listed c.args.vol (lent c.args.part.now) c.in_ok-befores.befores (has c.args.ended.now) changes.items ended c.in_ok-befores.ensures.here c.in_ok-befores.ensures.elsewhere is)
    c.listed.ensures
