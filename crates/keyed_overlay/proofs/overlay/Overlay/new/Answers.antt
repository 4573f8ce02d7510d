use Rattle.keyed_overlay.specs.OverlayLaws.{overlaid_none}
use Rattle.keyed_overlay.proofs.overlay.Overlay.new.Goals as goal

pub returns : goal.returns
returns c base = overlaid_none base _ c.new.ensures c.new-2.ensures
