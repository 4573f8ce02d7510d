use Rattle.std.proofs.Common.{sym, ap, ◌∙◌, subst, ℕ}
use Rattle.rdf_types.specs.Entries.{Rises}
use Rattle.image_board.specs.Boards.{Published, with_part}
use Rattle.updaters.specs.declared.note.VolumeNote.{VolumeNote}
use Rattle.volume_sessions.proofs.Seeing.{room_of, rises_here, room_back, board_shows}
use Rattle.volume_sessions.proofs.watch.Watch.publish.Goals as goal

pub give_shown-pass-requires-clause-value : goal.give_shown-pass-requires-clause-value
give_shown-pass-requires-clause-value g c =
    let i = c.self.inside in
    let room = room_of i.board.now i.seats.now i.pass i.seen.value i.places.items c.args.self.now c.args.room c.self.view_is c.requires.room in
    let more = rises_here i.board.now i.seats.now i.pass i.seen.value i.places.items c.args.self.now c.args.part.items c.args.end c.self.view_is c.requires.rises in
    let w = c.self.invariant in
    let put = c.publish.ensures ∙ ap (λ (b : Published (VolumeNote g.row.D.Denot)). with_part b c.args.part.items c.args.end) c.value.ensures.value in
    board_shows i.board.now.first c.args.room.turn.value c.publish.new.self i.seen.value.story.entries c.args.part.items i.seen.value.story.number c.args.end w.empty room.start_is room.items w.rises more
    (ap (λ (b : Published (VolumeNote g.row.D.Denot)). b.start) put) (ap (λ (b : Published (VolumeNote g.row.D.Denot)). b.items) put) (ap (λ (b : Published (VolumeNote g.row.D.Denot)). b.end) put)
    (ap (λ (b : Published (VolumeNote g.row.D.Denot)). b.firsts) put ∙ room.firsts)

pub invariant_of-self : goal.invariant_of-self
invariant_of-self g c =
    let i = c.self.inside in
    let more = rises_here i.board.now i.seats.now i.pass i.seen.value i.places.items c.args.self.now c.args.part.items c.args.end c.self.view_is c.requires.rises in
    let put = c.publish.ensures ∙ ap (λ (b : Published (VolumeNote g.row.D.Denot)). with_part b c.args.part.items c.args.end) c.value.ensures.value in
    room_back g.D.Disk.tells g.D.Disk.files g.D.Disk.counts i.board.now i.seats.now i.pass i.seen.value c.give_shown-pass.result c.of.result.value i.places.items c.args.self.now c.args.room c.publish.new.self c.args.part.items
    c.self.view_is c.requires.room c.self.invariant c.of.ensures c.give_shown-pass.ensures (ap (λ (b : Published (VolumeNote g.row.D.Denot)). b.items) put) (ap (λ (b : Published (VolumeNote g.row.D.Denot)). b.finished) put)
    (subst (λ (k : ℕ). Rises i.seen.value.story.number c.args.part.items k) (sym (ap (λ (b : Published (VolumeNote g.row.D.Denot)). b.end) put)) more)
