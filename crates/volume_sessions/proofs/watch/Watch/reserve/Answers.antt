use Rattle.std.proofs.Common.{sym, ap, ◌∙◌}
use Rattle.image_board.specs.Boards.{Published}
use Rattle.updaters.specs.declared.note.VolumeNote.{VolumeNote}
use Rattle.volume_sessions.proofs.Seeing.{took_back}
use Rattle.volume_sessions.proofs.watch.Watch.reserve.Goals as goal

pub invariant_of-self-in-Err : goal.invariant_of-self-in-Err
invariant_of-self-in-Err g c =
    let i = c.self.inside in
    let same = c.reserve.ensures.same in let value = c.value.ensures.value in
    took_back g.D.Disk.tells g.D.Disk.files g.D.Disk.counts i.board.now i.seats.now i.pass i.seen.value c.in-Some.pass c.take-turn.result.hold c.give_shown-pass.result c.of.result.value i.places.items c.take-turn.result.value c.reserve.new.self
    c.self.invariant (sym c.in-Some.ensures.value) c.take-turn.ensures.same c.take-turn.ensures.writer c.take-turn.ensures.value
    (ap (λ (b : Published (VolumeNote g.row.D.Denot)). b.items) same ∙ ap (λ (b : Published (VolumeNote g.row.D.Denot)). b.items) value) (ap (λ (b : Published (VolumeNote g.row.D.Denot)). b.end) same ∙ ap (λ (b : Published (VolumeNote g.row.D.Denot)). b.end) value) (ap (λ (b : Published (VolumeNote g.row.D.Denot)). b.finished) same ∙ ap (λ (b : Published (VolumeNote g.row.D.Denot)). b.finished) value)
    c.of.ensures c.give_shown-pass.ensures
