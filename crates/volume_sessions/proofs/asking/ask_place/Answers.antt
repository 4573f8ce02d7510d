use Rattle.std.proofs.Common.{◌≡◌, ◌⊎◌, ◌<◌, ◌≤◌, ℕ, List, Option, Some, IfSome, slice_get, subst}
use Rattle.rdf_types.specs.declared.records.Stamped.{Stamped}
use Rattle.updaters.specs.Rising.{IsAheadOf}
use Rattle.updaters.specs.declared.note.SeenVolume.{SeenVolume}
use Rattle.volume_sessions.proofs.Noted.{asked}
use Rattle.volume_sessions.proofs.asking.ask_place.Goals as goal

pub returns-clause-place : goal.returns-clause-place
returns-clause-place g c =
    let seen = c.args.seen.now.value in let p = c.args.place.now in let board = c.args.board.now in
    let found = c.take_note-found.result in
    let taken = subst (λ (l : List Stamped). IfSome found (λ s. IfSome (slice_get board.firsts c.args.at) (λ f. (f.seen ≡ Some s) ⊎ IsAheadOf g.D.Disk.tells g.D.Disk.files g.D.Disk.counts f l seen.story.number s))) c.requires.board.0.0
    (subst (λ (k : ℕ). IfSome found (λ s. IfSome (slice_get board.firsts c.args.at) (λ f. (f.seen ≡ Some s) ⊎ IsAheadOf g.D.Disk.tells g.D.Disk.files g.D.Disk.counts f board.items k s))) c.requires.board.0.1 c.take_note-found.ensures.taken) in
    let chosen = subst (λ (o : Option (SeenVolume g.row.D.Denot)). IfSome c.furthest.result (λ s. ((found ≡ Some s) ⊎ (o ≡ Some s)) × (p.point < s.point) × (s.point ≤ c.reach-reached.result))) c.take-noted.ensures.value c.furthest.ensures in
    (asked g.D.Disk.tells g.D.Disk.files g.D.Disk.counts c.args.lock.now.id seen c.args.seat.now c.args.lock.now.first.start c.requires.board.1 p c.requires.place c.reach-reached.new.own c.reach-reached.result found c.furthest.result board.firsts c.args.at
    c.reach-reached.ensures c.requires.noted taken chosen).0

pub returns-clause-asked : goal.returns-clause-asked
returns-clause-asked g c =
    let seen = c.args.seen.now.value in let p = c.args.place.now in let board = c.args.board.now in
    let found = c.take_note-found.result in
    let taken = subst (λ (l : List Stamped). IfSome found (λ s. IfSome (slice_get board.firsts c.args.at) (λ f. (f.seen ≡ Some s) ⊎ IsAheadOf g.D.Disk.tells g.D.Disk.files g.D.Disk.counts f l seen.story.number s))) c.requires.board.0.0
    (subst (λ (k : ℕ). IfSome found (λ s. IfSome (slice_get board.firsts c.args.at) (λ f. (f.seen ≡ Some s) ⊎ IsAheadOf g.D.Disk.tells g.D.Disk.files g.D.Disk.counts f board.items k s))) c.requires.board.0.1 c.take_note-found.ensures.taken) in
    let chosen = subst (λ (o : Option (SeenVolume g.row.D.Denot)). IfSome c.furthest.result (λ s. ((found ≡ Some s) ⊎ (o ≡ Some s)) × (p.point < s.point) × (s.point ≤ c.reach-reached.result))) c.take-noted.ensures.value c.furthest.ensures in
    (asked g.D.Disk.tells g.D.Disk.files g.D.Disk.counts c.args.lock.now.id seen c.args.seat.now c.args.lock.now.first.start c.requires.board.1 p c.requires.place c.reach-reached.new.own c.reach-reached.result found c.furthest.result board.firsts c.args.at
    c.reach-reached.ensures c.requires.noted taken chosen).1
