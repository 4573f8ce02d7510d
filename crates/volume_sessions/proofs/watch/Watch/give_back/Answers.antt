use Rattle.std.proofs.Common.{refl, sym, [], append-nil, arith}
use Rattle.volume_sessions.proofs.Seeing.{room_of, room_back}
use Rattle.volume_sessions.proofs.watch.Watch.give_back.Goals as goal

pub invariant_of-self : goal.invariant_of-self
invariant_of-self g c =
    let i = c.self.inside in
    let room = room_of i.board.now i.seats.now i.pass i.seen.value i.places.items c.args.self.now c.args.room c.self.view_is c.requires.room in
    room_back g.D.Disk.tells g.D.Disk.files g.D.Disk.counts i.board.now i.seats.now i.pass i.seen.value c.give_shown-pass.result c.of.result.value i.places.items c.args.self.now c.args.room c.args.room.turn.value []
    c.self.view_is c.requires.room c.self.invariant c.of.ensures c.give_shown-pass.ensures (sym (append-nil c.args.room.turn.value.items)) refl (omega (arith, room.end_is))
