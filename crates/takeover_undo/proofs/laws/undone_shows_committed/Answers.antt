use Rattle.takeover_undo.proofs.Undoing.{undone_shows}
use Rattle.takeover_undo.proofs.laws.undone_shows_committed.Goals as goal

pub returns : goal.returns
returns c = λ protects vol trail start rows changes guarded legal early is shows. undone_shows c.window.ensures c.change_sets.ensures protects vol trail start rows changes guarded legal early is shows c.settling.ensures
