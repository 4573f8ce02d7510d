use Rattle.std.proofs.Common.{rules, refl, sym, ap, subst, ◌∙◌, ◌≡◌, ◌≤◌, ◌<◌, ℕ, List, Bool, true, false, Option}
use Rattle.std.specs.List.{AllByRecursion}
use Rattle.rdf_types.specs.declared.records.Stamped.{Stamped}
use Rattle.rdf_gatelog.specs.declared.fault.LogFault.{LogFault}
use Rattle.rdf_volume.specs.Views.{restart_of}
use Rattle.seated_lock.specs.Stories.{Begins}
use Rattle.seated_lock.specs.declared.story.Story.{Story}
use Rattle.seated_lock.specs.Passes.{Seeing}
use Rattle.image_board.specs.Entries.{images_between}
use Rattle.image_board.specs.ImageLaws.{images_within}
use Rattle.updaters.specs.declared.seat.VolumeSeat.{VolumeSeat}
use Rattle.updaters.specs.Seats.{told_of}
use Rattle.updaters.specs.Turns.{Added, fault_of}
use Rattle.updaters.proofs.Turning.{Tells, turn_is, turn_tells, joined_later, advances_on, rose_by, fit_after, fit_in_use}
use Rattle.updaters.proofs.Looking.{seen_ahead}
use Rattle.updaters.proofs.turns.advance.Given.{Over}
use Rattle.updaters.proofs.turns.advance.Goals.{After-join-board_pass}
use Rattle.updaters.proofs.turns.advance.Goals as goal

pub advance-done-requires-clause-between : goal.advance-done-requires-clause-between
advance-done-requires-clause-between g c =
    let b = c.args.board_pass.story.entries in
    let n = c.args.turn.hold.story.number in
    let num : restart_of c.value-value.result.now.volume ≡ n = ap (λ (s : VolumeSeat g.row.D.Denot). restart_of s.volume) c.value-value.ensures.value ∙ c.requires.stands.value.1 in
    subst (λ (k : ℕ). AllByRecursion (λ (s : Stamped). (k ≤ s.pos) × (s.pos < c.args.upto)) c.args.images.now) (sym num)
    (subst (λ (l : List Stamped). AllByRecursion (λ (s : Stamped). (n ≤ s.pos) × (s.pos < c.args.upto)) l) (sym c.requires.given.images) (images_within c.args.vol n c.args.upto b))

pub advance-done-requires-clause-in_use : goal.advance-done-requires-clause-in_use
advance-done-requires-clause-in_use g c =
    fit_in_use g.D.Disk.tells g.D.Disk.files g.D.Disk.counts c.args.seat.now.first c.args.turn.value c.value-value.result.now c.args.turn.hold.story c.requires.stands c.value-value.ensures.value

-- the seat as the turn leaves it
abbrev left : (g : Over) → After-join-board_pass g → VolumeSeat g.row.D.Denot
left g c = record c.advance-done.new.self { board = c.replace-old.new.dest }

told : (g : Over) (c : After-join-board_pass g) → Tells g.D.Disk.tells g.D.Disk.files g.D.Disk.counts c.args.seat.now.first c.args.turn.hold.story (left g c) c.args.images.now c.args.upto (fault_of c.advance-done.result)
told g c =
    let first = c.args.seat.now.first in
    let was = c.value-value.result.now in
    let mid = c.advance-done.new.self in
    let turn = turn_is g.D.Disk.tells g.D.Disk.files g.D.Disk.counts first c.args.turn.value was mid c.args.turn.hold.story c.args.board_pass c.split-new.new.pass c.split-new.result c.replace-old.new.dest c.replace-old.result c.join-board_pass.result _ _ c.args.board.now.first.start
    c.value-value.ensures.value c.requires.stands.value c.requires.stands.fit c.advance-done.ensures.same c.split-new.ensures.kept c.split-new.ensures.given c.replace-old.ensures.after c.replace-old.ensures.value c.join-board_pass.ensures.seen c.requires.board.lock c.requires.seat.0.board_is c.requires.rises in
    turn_tells g.D.Disk.tells g.D.Disk.files g.D.Disk.counts first c.args.turn.hold.story was (left g c) c.args.board_pass.story c.join-board_pass.result.story c.args.board.now.first.start turn c.args.upto c.args.images.now c.requires.given.within.0 c.requires.given.within.1
    (c.requires.given.images ∙ ap (λ (v : ℕ). images_between v c.args.turn.hold.story.number c.args.upto c.args.board_pass.story.entries) (sym c.requires.seat.0.vol_is))
    c.advance-done.result (advances_on _ _ _ _ c.advance-done.result was mid (left g c) refl refl c.advance-done.ensures.advances) c.advance-done.ensures.cause

pub give-vol_pass-requires : goal.give-vol_pass-requires
give-vol_pass-requires g c κs within =
    let t = told g c in
    (search rules, (c.requires.seat.0.lock, ((t.sits, refl), record { begins = t.begins; same = λ r. absurd (differs c.args.turn.hold.writes c.requires.seat.1.0 r) })))
  where
    differs : (x : Bool) → x ≡ true → x ≡ false → ⊥
    differs x f t = cc

pub returns-clause-adds : goal.returns-clause-adds
returns-clause-adds g c =
    let shared = (goal.at.returns-clause-adds g c).After-join-board_pass in
    subst (λ (s : Story). Added c.fault_in.result c.args.turn.hold.story c.args.images.now c.args.upto s) (sym (ap (λ (q : Seeing). q.story) c.give-vol_pass.ensures))
    (subst (λ (f : Option LogFault). Added f c.args.turn.hold.story c.args.images.now c.args.upto (told_of c.args.seat.now.first (left g shared))) (sym c.fault_in.ensures) (told g shared).added)

pub returns-clause-board : goal.returns-clause-board
returns-clause-board g c =
    let held = c.requires.stands.value.0 in
    let taken : c.replace-old.result ≡ c.args.turn.value.board =
    c.replace-old.ensures.value ∙ ap (λ (s : VolumeSeat g.row.D.Denot). s.board) c.advance-done.ensures.same ∙ ap (λ (s : VolumeSeat g.row.D.Denot). s.board) c.value-value.ensures.value in
    joined_later c.args.board_pass c.split-new.new.pass c.replace-old.result c.join-board_pass.result c.split-new.ensures.kept c.join-board_pass.ensures.both
    (ap (λ (q : Seeing). q.writes) taken ∙ held.reader) (ap (λ (q : Seeing). q.seats) taken ∙ held.seats) c.requires.board.some c.join-board_pass.ensures.seen.0

pub returns-clause-seen : goal.returns-clause-seen
returns-clause-seen g c =
    let shared = (goal.at.returns-clause-seen g c).After-join-board_pass in
    let first = c.args.seat.now.first in
    let now = left g shared in
    let whole = c.join-board_pass.result.story in
    let shows = ap (λ (q : Seeing). q.story) (c.replace-old.ensures.after ∙ c.split-new.ensures.given) in
    let begins = subst (λ (q : Seeing). Begins q.story whole) c.split-new.ensures.kept c.join-board_pass.ensures.seen.0 in
    seen_ahead g.D.Disk.tells g.D.Disk.files g.D.Disk.counts c.args.vol first.volume now.volume whole.entries whole.number (fault_of c.advance-done.result) c.seen_in-seen.result c.seen_in-seen.ensures
    (λ e. rose_by g.D.Disk.tells g.D.Disk.files g.D.Disk.counts first now c.args.vol (told_of first now) c.args.board_pass.story whole (told g shared).sits
    (fit_after g.D.Disk.tells g.D.Disk.files g.D.Disk.counts c.args.images.now c.args.upto c.advance-done.result c.value-value.result.now c.advance-done.new.self c.advance-done.ensures.advances e) shows begins c.requires.seat.0.vol_is)
