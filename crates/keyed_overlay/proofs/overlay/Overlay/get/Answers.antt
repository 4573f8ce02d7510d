use Rattle.std.proofs.Common.{is_some, ap, sym}
use Rattle.keyed_overlay.specs.OverlayLaws.{value_set, value_emptied, value_below}
use Rattle.keyed_overlay.proofs.overlay.Overlay.get.Goals as goal

pub returns-in-Some : goal.returns-in-Some
returns-in-Some c base = rw (← c.self.view_is) (value_set base _ _ _ (sym c.in-Some.ensures))

pub returns-in-Some-get : goal.returns-in-Some-get
returns-in-Some-get c base = rw (← c.self.view_is) (value_emptied base _ _ (sym c.in_default.ensures) (ap is_some (sym c.in-Some-get.ensures)))

pub returns-in-None : goal.returns-in-None
returns-in-None c base = rw (← c.self.view_is) (value_below base _ _ (sym c.in_default.ensures) (ap is_some (sym c.in-None.ensures)))
