use Rattle.std.proofs.Common.{◌≡◌, ◌<◌, List, length, slice_get, refl, sym, ap, ◌∙◌, subst, arith}
use Rattle.std.proofs.lemmas.List.{length-map}
use Rattle.std.proofs.lemmas.List.Elements.{AllWithin-more_set}
use Rattle.std.proofs.lemmas.Option.{slice_get_read}
use Rattle.std.proofs.lemmas.Slice.Zip.{AllZip-long}
use Rattle.std.proofs.Math.Seq.{map-set_same}
use Rattle.seated_lock.specs.Passes.{Lock}
use Rattle.image_board.specs.Boards.{Published}
use Rattle.image_board.specs.NoteLaws.{zip_set, zip_there}
use Rattle.updaters.specs.Rising.{IsNotedAt}
use Rattle.updaters.specs.declared.note.VolumeNote.{VolumeNote}
use Rattle.updaters.specs.declared.seat.VolumeSeat.{VolumeSeat}
use Rattle.volume_sessions.specs.declared.placed.Placed.{Placed}
use Rattle.volume_sessions.specs.declared.watch.Place.{Place}
use Rattle.volume_sessions.specs.Shown.{placed_by}
use Rattle.volume_sessions.specs.Watching.{IsPlaceOf, IsFirst, IsAsked}
use Rattle.volume_sessions.proofs.Points.{beside_left}
use Rattle.volume_sessions.proofs.Noted.{at_some}
use Rattle.volume_sessions.proofs.asking.ask_all.Goals as goal

pub seat_at-seat-requires : goal.seat_at-seat-requires
seat_at-seat-requires g c =
    let inv = c.loop-at.invariant in
    let many : length c.loop-at.places.items ≡ length c.args.places.now.items = sym (length-map c.loop-at.places.items placed_by) ∙ ap (λ (l : List (Placed g.row.D.Denot)). length l) inv.same ∙ length-map c.args.places.now.items placed_by in
    let long = AllZip-long (IsPlaceOf g.D.Disk.tells g.D.Disk.files g.D.Disk.counts c.args.lock.now.id c.args.seen.now.value) c.args.seats.now c.loop-at.places.items inv.places in
    omega (arith, long, many, c.loop-at-test.true, c.len-at-end.ensures)

pub ask_place-requires-clause-noted : goal.ask_place-requires-clause-noted
ask_place-requires-clause-noted g c =
    let inv = c.loop-at.invariant in let seat = c.seat_at-seat.result.now in
    let many : length c.loop-at.places.items ≡ length c.args.places.now.items = sym (length-map c.loop-at.places.items placed_by) ∙ ap (λ (l : List (Placed g.row.D.Denot)). length l) inv.same ∙ length-map c.args.places.now.items placed_by in
    let long = AllZip-long (IsPlaceOf g.D.Disk.tells g.D.Disk.files g.D.Disk.counts c.args.lock.now.id c.args.seen.now.value) c.args.seats.now c.loop-at.places.items inv.places in
    let lt : c.loop-at.at < length c.args.seats.now = omega (arith, long, many, c.loop-at-test.true, c.len-at-end.ensures) in
    let n = beside_left IsFirst c.args.seats.now c.args.board.now.firsts c.loop-at.at seat c.requires.notes (slice_get_read c.args.seats.now (length c.args.seats.now) c.loop-at.at seat refl lt c.seat_at-seat.ensures) in
    subst (λ (l : List (VolumeNote g.row.D.Denot)). IsNotedAt l c.loop-at.at seat.first.vol seat.first.volume) (sym (ap (λ (b : Published (VolumeNote g.row.D.Denot)). b.firsts) inv.board)) (record { note = n.0; there = n.1; is = n.2 })

pub ask_place-requires-clause-place : goal.ask_place-requires-clause-place
ask_place-requires-clause-place g c =
    let inv = c.loop-at.invariant in let seat = c.seat_at-seat.result.now in
    let many : length c.loop-at.places.items ≡ length c.args.places.now.items = sym (length-map c.loop-at.places.items placed_by) ∙ ap (λ (l : List (Placed g.row.D.Denot)). length l) inv.same ∙ length-map c.args.places.now.items placed_by in
    let long = AllZip-long (IsPlaceOf g.D.Disk.tells g.D.Disk.files g.D.Disk.counts c.args.lock.now.id c.args.seen.now.value) c.args.seats.now c.loop-at.places.items inv.places in
    let lt : c.loop-at.at < length c.args.seats.now = omega (arith, long, many, c.loop-at-test.true, c.len-at-end.ensures) in
    let Q = IsPlaceOf g.D.Disk.tells g.D.Disk.files g.D.Disk.counts c.args.lock.now.id c.args.seen.now.value in
    at_some (λ s. Q s c.index_mut.result.now) (slice_get c.args.seats.now c.loop-at.at) seat (slice_get_read c.args.seats.now (length c.args.seats.now) c.loop-at.at seat refl lt c.seat_at-seat.ensures)
    (zip_there Q c.args.seats.now c.loop-at.places.items c.loop-at.at c.index_mut.result.now inv.places c.index_mut.ensures.value)

pub loop-at-preserved : goal.loop-at-preserved
loop-at-preserved g c =
    let inv = c.loop-at.invariant in let seat = c.seat_at-seat.result.now in let places = c.loop-at.places.items in let new = c.ask_place.new.place in let e = c.ask_place.ensures in
    let many : length places ≡ length c.args.places.now.items = sym (length-map places placed_by) ∙ ap (λ (l : List (Placed g.row.D.Denot)). length l) inv.same ∙ length-map c.args.places.now.items placed_by in
    let lt : c.loop-at.at < length places = omega (arith, many, c.loop-at-test.true, c.len-at-end.ensures) in
    let Q = IsPlaceOf g.D.Disk.tells g.D.Disk.files g.D.Disk.counts c.args.lock.now.id c.args.seen.now.value in
    record {
      board = e.board ∙ ap (λ (b : Published (VolumeNote g.row.D.Denot)). record b { notes = c.ask_place.new.board.notes }) inv.board;
      places = zip_set Q c.args.seats.now places c.loop-at.at new seat inv.places (λ _. subst (λ (s : Lock (VolumeSeat g.row.D.Denot)). Q s new) c.seat_at-seat.ensures e.place);
      same = map-set_same placed_by places c.loop-at.at new c.index_mut.result.now (e.same ∙ ap (λ (p : Place g.row.D.Denot). placed_by p) c.index_mut.ensures.value) ∙ inv.same;
      asked = AllWithin-more_set places c.loop-at.at new lt (IsAsked g.D.Disk.tells g.D.Disk.files g.D.Disk.counts c.args.seen.now.value.story) inv.asked e.asked;
    }
