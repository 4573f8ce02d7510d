use Rattle.std.proofs.Common.{rules, refl, sym, ap, subst, ◌∙◌, ◌≡◌, ℕ, [], arith}
use Rattle.rdf_volume.specs.Views.{restart_of}
use Rattle.seated_lock.specs.StoryLaws.{begins_itself}
use Rattle.seated_lock.specs.Passes.{Seeing}
use Rattle.updaters.specs.declared.seat.VolumeSeat.{VolumeSeat}
use Rattle.updaters.specs.Turns.{Advances, done_of}
use Rattle.updaters.proofs.Turning.{Stays, turn_is, turn_stays, advances_on, fit_in_use, well_where}
use Rattle.updaters.proofs.reads.read_in.Given.{Over}
use Rattle.updaters.proofs.reads.read_in.Goals.{After-join-board_pass}
use Rattle.updaters.proofs.reads.read_in.Goals as goal

pub look_up-value-requires-clause-in_use : goal.look_up-value-requires-clause-in_use
look_up-value-requires-clause-in_use g c =
    fit_in_use g.D.Disk.tells g.D.Disk.files g.D.Disk.counts c.args.seat.now.first c.args.turn.value c.value-place.result.now c.args.turn.hold.story c.requires.stands c.value-place.ensures.value

-- the seat as the turn leaves it
abbrev left : (g : Over) → After-join-board_pass g → VolumeSeat g.row.D.Denot
left g c = record c.look_up-value.new.self { board = c.replace-old.new.dest }

stood : (g : Over) (c : After-join-board_pass g) → restart_of c.value-place.result.now.volume ≡ c.args.turn.hold.story.number
stood g c = ap (λ (s : VolumeSeat g.row.D.Denot). restart_of s.volume) c.value-place.ensures.value ∙ c.requires.stands.value.1

point : (g : Over) (c : After-join-board_pass g) → restart_of (left g c).volume ≡ c.args.turn.hold.story.number
point g c = c.look_up-value.ensures.point ∙ stood g c

looked : (g : Over) (c : After-join-board_pass g) → Advances g.D.Disk.tells g.D.Disk.files [] c.args.turn.hold.story.number (done_of c.look_up-value.result) c.value-place.result.now c.look_up-value.new.self
looked g c = subst (λ (k : ℕ). Advances g.D.Disk.tells g.D.Disk.files [] k (done_of c.look_up-value.result) c.value-place.result.now c.look_up-value.new.self) (stood g c) c.look_up-value.ensures.advances

-- the look applies no image
stays : (g : Over) (c : After-join-board_pass g) → Stays g.D.Disk.tells g.D.Disk.files g.D.Disk.counts c.args.seat.now.first c.args.turn.hold.story (left g c) c.args.board_pass.story
stays g c =
    let first = c.args.seat.now.first in
    let story = c.args.turn.hold.story in
    let b = c.args.board_pass.story in
    let at = c.args.board.now.first.start in
    let was = c.value-place.result.now in
    let mid = c.look_up-value.new.self in
    let turn = turn_is g.D.Disk.tells g.D.Disk.files g.D.Disk.counts first c.args.turn.value was mid story c.args.board_pass c.split-new.new.pass c.split-new.result c.replace-old.new.dest c.replace-old.result c.join-board_pass.result _ _ at
    c.value-place.ensures.value c.requires.stands.value c.requires.stands.fit c.look_up-value.ensures.same c.split-new.ensures.kept c.split-new.ensures.given c.replace-old.ensures.after c.replace-old.ensures.value c.join-board_pass.ensures.seen c.requires.board.lock c.requires.seat.board_is c.requires.rises in
    let whole : b ≡ c.join-board_pass.result.story = sym (c.join-board_pass.ensures.writer.0 (ap (λ (q : Seeing). q.writes) c.split-new.ensures.kept ∙ c.requires.writer) ∙ ap (λ (q : Seeing). q.story) c.split-new.ensures.kept) in
    turn_stays g.D.Disk.tells g.D.Disk.files g.D.Disk.counts first story was (left g c) b c.join-board_pass.result.story at turn whole
    (done_of c.look_up-value.result) (advances_on _ _ _ _ (done_of c.look_up-value.result) was mid (left g c) refl refl (looked g c)) c.look_up-value.ensures.cause (point g c)

pub give-vol_pass-requires : goal.give-vol_pass-requires
give-vol_pass-requires g c κs given = (search rules, (c.requires.seat.lock, (((stays g c).sits, point g c), record { begins = begins_itself c.args.turn.hold.story; same = λ r. refl })))

pub returns-clause-seen : goal.returns-clause-seen
returns-clause-seen g c =
    let s = stays g (goal.at.returns-clause-seen g c).After-join-board_pass in
    record { behind = omega (arith, c.requires.stands.value.0.behind, c.requires.stands.value.1); within = s.within; entries = s.entries }

pub returns-clause-volume : goal.returns-clause-volume
returns-clause-volume g c =
    let shared = (goal.at.returns-clause-volume g c).After-join-board_pass in
    let story = c.args.turn.hold.story in
    well_where g.D.Disk.tells g.D.Disk.files g.D.Disk.counts c.args.seat.now.first c.replace-old.new.dest.story story story.number c.look_up-value.result c.value-place.result.now c.look_up-value.new.self c.of-volume.result.value (looked g shared) (stays g shared).sits.state (point g shared) c.of-volume.ensures
