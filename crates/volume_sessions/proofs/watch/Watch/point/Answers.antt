use Rattle.volume_sessions.proofs.Points.{point_there}
use Rattle.volume_sessions.proofs.watch.Watch.point.Goals as goal

pub returns : goal.returns
returns g c =
    let i = c.self.inside in
    point_there g.D.Disk.tells g.D.Disk.files g.D.Disk.counts i.board.now i.seats.now i.pass i.seen.value i.places.items c.args.self.now c.args.place c.index.result.now c.self.view_is c.self.invariant c.index.ensures c.requires.there
