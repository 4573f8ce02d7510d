use Rattle.std.proofs.Common.{◌∙◌, ap}
use Rattle.image_board.specs.Boards.{closed}
use Rattle.volume_sessions.proofs.Seeing.{over_in}
use Rattle.volume_sessions.proofs.watch.finish.Goals as goal

pub returns : goal.returns
returns g c =
    let i = c.watch.inside in
    over_in g.D.Disk.tells g.D.Disk.files g.D.Disk.counts i.board.now i.seats.now i.pass i.seen.value c.in-Some.pass c.take-turn.result.hold c.give_shown-pass.result i.places.items c.take-turn.result.value c.finish.new.self c.args.watch
    c.watch.view_is c.watch.invariant c.in-Some.is c.take-turn.ensures.same c.take-turn.ensures.writer c.take-turn.ensures.value (c.finish.ensures ∙ ap closed c.value.ensures.value) c.give_shown-pass.ensures
