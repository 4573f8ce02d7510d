use Rattle.std.proofs.Common.{List, sym, subst}
use Rattle.std.specs.List.{AllZip}
use Rattle.volume_sessions.specs.declared.watch.Place.{Place}
use Rattle.volume_sessions.specs.Watching.{IsPlaceOf}
use Rattle.volume_sessions.proofs.Noted.{with_places, accepted_places, view_accepted}
use Rattle.volume_sessions.proofs.watch.Watch.accept.Goals as goal

pub invariant_of-self : goal.invariant_of-self
invariant_of-self g c =
    let i = c.self.inside in let w = c.self.invariant in
    with_places g.D.Disk.tells g.D.Disk.files g.D.Disk.counts i.board.now i.seats.now i.pass i.seen.value i.places.items _ w
    (subst (λ (l : List (Place g.row.D.Denot)). AllZip (IsPlaceOf g.D.Disk.tells g.D.Disk.files g.D.Disk.counts i.board.now.id i.seen.value) i.seats.now l) (sym c.accept_all.ensures)
    (accepted_places g.D.Disk.tells g.D.Disk.files g.D.Disk.counts i.board.now.id i.seen.value i.seats.now i.places.items w.places_are))

pub returns : goal.returns
returns g c =
    let i = c.self.inside in
    view_accepted i.board.now i.seats.now i.pass i.seen.value i.places.items c.accept_all.new.places.items c.args.self.now c.self.view_is c.accept_all.ensures
