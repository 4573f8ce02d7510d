use Rattle.std.proofs.Common.{sym, arith}
use Rattle.volume_sessions.proofs.Spots.{spot_there, seat_there, spot_is, spot_of, spot_new, found_row, found_none}
use Rattle.volume_sessions.proofs.watch.Watch.read.Goals as goal

pub seat_at-seat-requires : goal.seat_at-seat-requires
seat_at-seat-requires g c =
    let i = c.self.inside in
    let there = spot_there g.D.Disk.tells g.D.Disk.files g.D.Disk.counts i.board.now i.seats.now i.pass i.seen.value i.places.items c.args.self.now c.args.key.now.vol c.args.place c.self.view_is c.requires.there in
    seat_there g.D.Disk.tells g.D.Disk.files g.D.Disk.counts i.board.now i.seats.now i.pass i.seen.value i.places.items c.args.self.now c.args.place c.self.invariant there

pub index_mut-requires : goal.index_mut-requires
index_mut-requires g c =
    let i = c.self.inside in
    let there = spot_there g.D.Disk.tells g.D.Disk.files g.D.Disk.counts i.board.now i.seats.now i.pass i.seen.value i.places.items c.args.self.now c.args.key.now.vol c.args.place c.self.view_is c.requires.there in
    omega (arith, there, i.places.ok)

pub read_place-pass-requires-clause-place : goal.read_place-pass-requires-clause-place
read_place-pass-requires-clause-place g c =
    let i = c.self.inside in
    let there = spot_there g.D.Disk.tells g.D.Disk.files g.D.Disk.counts i.board.now i.seats.now i.pass i.seen.value i.places.items c.args.self.now c.args.key.now.vol c.args.place c.self.view_is c.requires.there in
    spot_of g.D.Disk.tells g.D.Disk.files g.D.Disk.counts i.board.now i.seats.now i.pass i.seen.value i.places.items c.args.self.now c.args.place c.index_mut.result.now c.seat_at-seat.result.now c.in-Some.pass c.self.invariant (sym c.in-Some.ensures.value) there c.index_mut.ensures.value c.seat_at-seat.ensures

pub read_place-pass-requires-clause-vol : goal.read_place-pass-requires-clause-vol
read_place-pass-requires-clause-vol g c =
    let i = c.self.inside in
    let spot = spot_is g.D.Disk.tells g.D.Disk.files g.D.Disk.counts i.board.now i.seats.now i.pass i.seen.value i.places.items c.args.self.now c.args.key.now.vol c.args.place c.index_mut.result.now c.self.view_is c.requires.there c.index_mut.ensures.value in
    spot.3

pub invariant_of-self : goal.invariant_of-self
invariant_of-self g c =
    let i = c.self.inside in
    spot_new g.D.Disk.tells g.D.Disk.files g.D.Disk.counts i.board.now i.seats.now i.pass i.seen.value i.places.items c.args.self.now c.args.place c.read_place-pass.new.place c.seat_at-seat.result.now c.in-Some.pass c.read_place-pass.result.0 c.self.invariant (sym c.in-Some.ensures.value) c.read_place-pass.ensures.pass c.seat_at-seat.ensures c.read_place-pass.ensures.place.0

pub returns-clause-ok : goal.returns-clause-ok
returns-clause-ok g c =
    let i = c.self.inside in
    found_row g.D.Disk.tells g.D.Disk.files g.D.Disk.counts i.board.now i.seats.now i.pass i.seen.value i.places.items c.args.self.now c.args.place c.index_mut.result.now c.read_place-pass.new.place c.in-Some.pass c.read_place-pass.result.0 c.args.key.now c.read_place-pass.result.1
    c.self.view_is (sym c.in-Some.ensures.value) c.self.invariant c.requires.there c.index_mut.ensures.value c.read_place-pass.ensures.place.1 c.read_place-pass.ensures.noted c.read_place-pass.ensures.ok

pub returns-clause-err : goal.returns-clause-err
returns-clause-err g c =
    let i = c.self.inside in
    let there = spot_there g.D.Disk.tells g.D.Disk.files g.D.Disk.counts i.board.now i.seats.now i.pass i.seen.value i.places.items c.args.self.now c.args.key.now.vol c.args.place c.self.view_is c.requires.there in
    found_none g.D.Disk.tells g.D.Disk.files g.D.Disk.counts i.board.now i.seats.now i.pass i.seen.value i.places.items c.args.self.now c.args.place c.index_mut.result.now c.read_place-pass.new.place c.in-Some.pass c.read_place-pass.result.0 c.read_place-pass.result.1
    c.self.view_is (sym c.in-Some.ensures.value) c.index_mut.ensures.value c.read_place-pass.ensures.place.1 c.read_place-pass.ensures.noted c.read_place-pass.ensures.err there
