use Rattle.std.proofs.Common.{◌≡◌, IfSome, slice_get, sym, subst}
use Rattle.rdf_volume.specs.Views.{restart_of}
use Rattle.volume_sessions.proofs.Points.{noted_point}
use Rattle.volume_sessions.proofs.watch.Watch.noted.Goals as goal

pub returns : goal.returns
returns g c =
    let i = c.self.inside in
    subst (λ n. IfSome (slice_get c.args.self.now.noted c.args.place) (λ was. n ≡ restart_of was.volume)) (sym c.noted_point.ensures)
    (noted_point g.D.Disk.tells g.D.Disk.files g.D.Disk.counts i.board.now i.seats.now i.pass i.seen.value i.places.items c.args.self.now c.args.place c.index.result.now c.self.view_is c.self.invariant c.index.ensures c.requires.there)
