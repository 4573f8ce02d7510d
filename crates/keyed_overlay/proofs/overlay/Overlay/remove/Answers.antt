use Rattle.std.proofs.Common.{◌≡◌}
use Rattle.std.specs.FinMap.{insert}
use Rattle.keyed_overlay.specs.OverlayLaws.{overlaid_remove}
use Rattle.keyed_overlay.proofs.overlay.Overlay.remove.Goals as goal

pub returns-clause-ok : goal.returns-clause-ok
returns-clause-ok c base =
    let emptied : c.put.new.self ≡ insert c.self.inside.emptied (c.args.file, c.args.key) c.in_ok-value.value = cc (c.in_ok-put.ensures.ok, c.in_ok-try_clone.ensures, c.in_ok-try_clone-2.ensures) in
    rw (← c.self.view_is) (overlaid_remove base _ _ _ _ c.take_away.ensures emptied)
