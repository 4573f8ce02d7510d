use Rattle.std.proofs.Common.{◌≡◌, IfSome}
use Rattle.updaters.specs.Rising.{IsAhead}
use Rattle.updaters.specs.Turns.{IsLater, HasApplied}
use Rattle.updaters.proofs.updating.updater_loop.Given as goal

abbrev pub invariant-loop : goal.invariant-loop
invariant-loop g l =
    IsLater l.initial.board_pass l.board_pass × (HasApplied l.vol l.board_pass.story l.initial.vol_pass l.vol_pass × ((l.from ≡ l.vol_pass.story.number)
    × IfSome l.seen (IsAhead g.D.Disk.tells g.D.Disk.files g.D.Disk.counts l.vol l.seat.first.volume l.board_pass.story.entries l.board_pass.story.number)))
