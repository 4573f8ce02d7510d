use Rattle.std.proofs.Common.{refl}
use Rattle.keyed_overlay.specs.OverlayLaws.{overlaid_put}
use Rattle.keyed_overlay.proofs.overlay.Overlay.put.Goals as goal

pub returns-clause-ok : goal.returns-clause-ok
returns-clause-ok c base = rw (← c.self.view_is) (overlaid_put base _ _ _ _ (c.in_ok-put.ensures.ok) refl)
