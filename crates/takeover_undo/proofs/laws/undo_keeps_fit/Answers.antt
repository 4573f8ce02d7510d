use Rattle.takeover_undo.proofs.Undoing.{partly_fits}
use Rattle.takeover_undo.proofs.laws.undo_keeps_fit.Goals as goal

pub returns : goal.returns
returns c = λ protects vol trail start rows changes count guarded legal early is shows.
    partly_fits c.window.ensures c.change_sets.ensures protects vol trail start rows changes guarded legal early is shows c.fits_undo.ensures c.half_undone_first.ensures c.half_undone_next.ensures count
