use Rattle.std.proofs.Common.{sym, ap, subst, ◌∙◌, IfOk, arith}
use Rattle.seated_lock.specs.declared.story.Story.{Story}
use Rattle.seated_lock.specs.Stories.{Begins}
use Rattle.seated_lock.specs.Passes.{Seeing}
use Rattle.seated_lock.specs.Rules.{StandsFor}
use Rattle.rdf_types.specs.EntryLaws.{rises_le}
use Rattle.image_board.specs.Boards.{Published}
use Rattle.image_board.specs.Boards.{Shows}
use Rattle.rdf_types.specs.Entries.{Rises}
use Rattle.updaters.specs.declared.note.VolumeNote.{VolumeNote}
use Rattle.updaters.specs.Turns.{IsFound}
use Rattle.updaters.proofs.Looking.{found_of, rises_of, noted_shows, may_leave}
use Rattle.updaters.proofs.looks.look.Goals as goal

pub leave-requires : goal.leave-requires
leave-requires g c =
    let board = c.args.board.now.first in let story = c.take-turn.result.hold.story in let value = c.value-value.result.now in
    let stood = subst (λ (b : Published (VolumeNote g.row.D.Denot)). StandsFor Shows (λ x. x.end) board story b) (sym c.value-value.ensures.value) c.take-turn.ensures.value in
    may_leave g.D.Disk.tells g.D.Disk.files g.D.Disk.counts board value c.args.pass.story story c.args.vol c.args.place c.args.seen stood c.requires.board.empty c.take-turn.ensures.seen c.requires.seen

pub next_for-piece-requires-clause-from : goal.next_for-piece-requires-clause-from
next_for-piece-requires-clause-from g c =
    let value = c.value-value.ensures.value in
    let stood = c.take-turn.ensures.value in
    let seen = c.take-turn.ensures.seen in
    let left = c.leave.ensures in
    let start = ap (λ (b : Published (VolumeNote g.row.D.Denot)). b.start) left ∙ ap (λ (b : Published (VolumeNote g.row.D.Denot)). b.start) value ∙ stood.0.start in
    let end = ap (λ (b : Published (VolumeNote g.row.D.Denot)). b.end) left ∙ ap (λ (b : Published (VolumeNote g.row.D.Denot)). b.end) value ∙ stood.1 in
    (omega (arith, start, c.requires.from.0), omega (arith, end, c.requires.from.1, rises_le c.args.pass.story.number seen.later c.take-turn.result.hold.story.number seen.rises))

pub give_back-pass-requires-clause-value : goal.give_back-pass-requires-clause-value
give_back-pass-requires-clause-value g c =
    let board = c.args.board.now.first in let story = c.take-turn.result.hold.story in
    let stood = subst (λ (b : Published (VolumeNote g.row.D.Denot)). StandsFor Shows (λ x. x.end) board story b) (sym c.value-value.ensures.value) c.take-turn.ensures.value in
    noted_shows board c.value-value.result.now c.leave.new.board story stood c.leave.ensures

pub returns-clause-pass : goal.returns-clause-pass
returns-clause-pass g c =
    let given = c.give_back-pass.ensures in
    let same = c.take-turn.ensures.same in
    record {
      lock = ap (λ (q : Seeing). q.lock) given ∙ ap (λ (q : Seeing). q.lock) same;
      seats = ap (λ (q : Seeing). q.seats) given ∙ ap (λ (q : Seeing). q.seats) same;
      writes = ap (λ (q : Seeing). q.writes) given ∙ ap (λ (q : Seeing). q.writes) same;
      seen = subst (λ (s : Story). Begins c.args.pass.story s) (sym (ap (λ (q : Seeing). q.story) given)) c.take-turn.ensures.seen;
    }

pub returns-clause-rises : goal.returns-clause-rises
returns-clause-rises g c =
    subst (λ (s : Story). Rises c.args.board.now.first.start s.entries s.number) (sym (ap (λ (q : Seeing). q.story) c.give_back-pass.ensures))
    (rises_of c.args.board.now.first c.take-turn.result.value c.take-turn.result.hold.story c.take-turn.ensures.value c.requires.board.empty)

pub returns-clause-found : goal.returns-clause-found
returns-clause-found g c =
    let stood = subst (λ (b : Published (VolumeNote g.row.D.Denot)). StandsFor Shows (λ x. x.end) c.args.board.now.first c.take-turn.result.hold.story b) (sym c.value-value.ensures.value) c.take-turn.ensures.value in
    subst (λ (s : Story). IfOk c.next_for-piece.result (IsFound c.args.vol c.args.from s)) (sym (ap (λ (q : Seeing). q.story) c.give_back-pass.ensures))
    (found_of c.args.vol c.args.from c.args.board.now.first c.leave.new.board c.take-turn.result.hold.story c.next_for-piece.result (noted_shows c.args.board.now.first c.value-value.result.now c.leave.new.board c.take-turn.result.hold.story stood c.leave.ensures) c.requires.board.empty c.next_for-piece.ensures)
