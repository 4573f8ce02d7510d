use Rattle.std.proofs.Common.{sym, ap, ◌∙◌, subst}
use Rattle.std.specs.List.{AllZip}
use Rattle.image_board.specs.Boards.{Published}
use Rattle.updaters.specs.declared.note.VolumeNote.{VolumeNote}
use Rattle.volume_sessions.specs.declared.placed.Placed.{Placed}
use Rattle.std.proofs.Common.{List, map}
use Rattle.volume_sessions.specs.Shown.{Shown, noted_by}
use Rattle.volume_sessions.specs.Rising.{AreRisen}
use Rattle.volume_sessions.specs.Watching.{IsFirst, StandsAs}
use Rattle.volume_sessions.proofs.Seeing.{took_back, back_shows, stands_as, shown_stands, shown_grows}
use Rattle.volume_sessions.proofs.Noted.{with_places, view_asked, risen_by}
use Rattle.volume_sessions.proofs.watch.Watch.ask.Goals as goal

pub ask_all-requires-clause-board : goal.ask_all-requires-clause-board
ask_all-requires-clause-board g c =
    let i = c.self.inside in let w = c.self.invariant in let turn = c.take-turn.ensures in let hold = c.take-turn.result.hold in let value = c.take-turn.result.value in
    let stands = stands_as g.D.Disk.tells g.D.Disk.files g.D.Disk.counts i.board.now i.seats.now i.pass i.seen.value c.in-Some.pass hold i.places.items value w (sym c.in-Some.ensures.value) turn.same turn.writer turn.value in
    (subst (λ (b : Published (VolumeNote g.row.D.Denot)). StandsAs i.seen.value.story b) (sym c.value.ensures.value) stands, w.rises)

pub ask_all-requires-clause-notes : goal.ask_all-requires-clause-notes
ask_all-requires-clause-notes g c =
    let i = c.self.inside in let w = c.self.invariant in
    subst (λ (b : Published (VolumeNote g.row.D.Denot)). AllZip IsFirst i.seats.now b.firsts) (sym c.value.ensures.value) (subst (λ (l : List (VolumeNote g.row.D.Denot)). AllZip IsFirst i.seats.now l) (sym c.take-turn.ensures.value.0.firsts) w.firsts)

pub give_shown-pass-requires-clause-value : goal.give_shown-pass-requires-clause-value
give_shown-pass-requires-clause-value g c =
    let i = c.self.inside in let w = c.self.invariant in let turn = c.take-turn.ensures in let hold = c.take-turn.result.hold in let value = c.take-turn.result.value in
    let left = c.ask_all.ensures.board in let v = c.value.ensures.value in
    shown_stands i.board.now.first value c.ask_all.new.board hold.story w.empty turn.value
    (ap (λ (b : Published (VolumeNote g.row.D.Denot)). b.start) left ∙ ap (λ (b : Published (VolumeNote g.row.D.Denot)). b.start) v) (ap (λ (b : Published (VolumeNote g.row.D.Denot)). b.items) left ∙ ap (λ (b : Published (VolumeNote g.row.D.Denot)). b.items) v)
    (ap (λ (b : Published (VolumeNote g.row.D.Denot)). b.end) left ∙ ap (λ (b : Published (VolumeNote g.row.D.Denot)). b.end) v) (ap (λ (b : Published (VolumeNote g.row.D.Denot)). b.firsts) left ∙ ap (λ (b : Published (VolumeNote g.row.D.Denot)). b.firsts) v)

pub give_shown-pass-requires-clause-grows : goal.give_shown-pass-requires-clause-grows
give_shown-pass-requires-clause-grows g c =
    let i = c.self.inside in let w = c.self.invariant in let turn = c.take-turn.ensures in let hold = c.take-turn.result.hold in let value = c.take-turn.result.value in
    let left = c.ask_all.ensures.board in let v = c.value.ensures.value in
    shown_grows hold i.board.now.first value c.ask_all.new.board w.empty turn.value
    (ap (λ (b : Published (VolumeNote g.row.D.Denot)). b.items) left ∙ ap (λ (b : Published (VolumeNote g.row.D.Denot)). b.items) v) (ap (λ (b : Published (VolumeNote g.row.D.Denot)). b.end) left ∙ ap (λ (b : Published (VolumeNote g.row.D.Denot)). b.end) v)
    (ap (λ (b : Published (VolumeNote g.row.D.Denot)). b.finished) left ∙ ap (λ (b : Published (VolumeNote g.row.D.Denot)). b.finished) v)

pub invariant_of-self : goal.invariant_of-self
invariant_of-self g c =
    let i = c.self.inside in let w = c.self.invariant in let turn = c.take-turn.ensures in let hold = c.take-turn.result.hold in let value = c.take-turn.result.value in
    let left = c.ask_all.ensures.board in let v = c.value.ensures.value in
    let asked = with_places g.D.Disk.tells g.D.Disk.files g.D.Disk.counts i.board.now i.seats.now i.pass i.seen.value i.places.items c.ask_all.new.places.items w c.ask_all.ensures.places in
    took_back g.D.Disk.tells g.D.Disk.files g.D.Disk.counts i.board.now i.seats.now i.pass i.seen.value c.in-Some.pass hold c.give_shown-pass.result c.of.result.value c.ask_all.new.places.items value c.ask_all.new.board
    asked (sym c.in-Some.ensures.value) turn.same turn.writer turn.value
    (ap (λ (b : Published (VolumeNote g.row.D.Denot)). b.items) left ∙ ap (λ (b : Published (VolumeNote g.row.D.Denot)). b.items) v) (ap (λ (b : Published (VolumeNote g.row.D.Denot)). b.end) left ∙ ap (λ (b : Published (VolumeNote g.row.D.Denot)). b.end) v)
    (ap (λ (b : Published (VolumeNote g.row.D.Denot)). b.finished) left ∙ ap (λ (b : Published (VolumeNote g.row.D.Denot)). b.finished) v) c.of.ensures c.give_shown-pass.ensures

pub returns-clause-same : goal.returns-clause-same
returns-clause-same g c =
    let i = c.self.inside in let w = c.self.invariant in let turn = c.take-turn.ensures in let hold = c.take-turn.result.hold in let value = c.take-turn.result.value in
    let left = c.ask_all.ensures.board in let v = c.value.ensures.value in
    let shows = back_shows g.D.Disk.tells g.D.Disk.files g.D.Disk.counts i.board.now i.seats.now i.pass i.seen.value c.in-Some.pass hold c.give_shown-pass.result c.of.result.value i.places.items value c.ask_all.new.board
    w (sym c.in-Some.ensures.value) turn.same turn.writer turn.value
    (ap (λ (b : Published (VolumeNote g.row.D.Denot)). b.items) left ∙ ap (λ (b : Published (VolumeNote g.row.D.Denot)). b.items) v) (ap (λ (b : Published (VolumeNote g.row.D.Denot)). b.end) left ∙ ap (λ (b : Published (VolumeNote g.row.D.Denot)). b.end) v) c.of.ensures c.give_shown-pass.ensures in
    view_asked i.board.now i.seats.now i.pass i.seen.value c.of.result.value c.give_shown-pass.result i.places.items c.ask_all.new.places.items c.args.self.now c.self.view_is c.requires.open shows.0 shows.1 shows.2 c.ask_all.ensures.same

pub returns-clause-noted : goal.returns-clause-noted
returns-clause-noted g c =
    let i = c.self.inside in let new = c.ask_all.new.places.items in let story = i.seen.value.story in
    subst (λ (x : Shown g.row.D.Denot). AreRisen g.D.Disk.tells g.D.Disk.files g.D.Disk.counts x.entries x.end x.volumes (map noted_by new)) c.self.view_is
    (subst (λ (l : List (Placed g.row.D.Denot)). AreRisen g.D.Disk.tells g.D.Disk.files g.D.Disk.counts story.entries story.number l (map noted_by new)) c.ask_all.ensures.same
    (risen_by g.D.Disk.tells g.D.Disk.files g.D.Disk.counts story new c.ask_all.ensures.asked))
