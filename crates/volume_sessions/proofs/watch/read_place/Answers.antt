use Rattle.std.proofs.Common.{◌≡◌, refl, sym, ap, ◌∙◌, subst, IfOk, IfSome}
use Rattle.rdf_volume.specs.declared.volume.Volume.{Volume}
use Rattle.volume_sessions.specs.declared.watch.Place.{Place}
use Rattle.volume_sessions.specs.Shown.{noted_by}
use Rattle.volume_sessions.specs.Rising.{SeesRow}
use Rattle.volume_sessions.specs.Watching.{IsKept, IsPlaceOf}
use Rattle.updaters.specs.Turns.{HasSeen, IsShown}
use Rattle.updaters.specs.Seats.{row_at}
use Rattle.rdf_volume.specs.Views.{rows_of}
use Rattle.volume_sessions.proofs.Reading.{own_of, own_later, sees_row, all_later, place_seen, kept_same}
use Rattle.volume_sessions.proofs.watch.read_place.Goals as goal

pub returns-in-Ok-clause-ok : goal.returns-in-Ok-clause-ok
returns-in-Ok-clause-ok g c =
    let p = c.args.place.now in let r = c.read_row-board_pass.result in let e = c.read_row-board_pass.ensures in
    let seen = subst (λ v. IfOk v (λ _. HasSeen c.args.seat.now.first c.args.pass.story r.vol_pass.story)) c.in-Ok.is e.seen in
    let shown = subst (λ v. IfOk v (λ _. IsShown g.D.Disk.tells g.D.Disk.files g.D.Disk.counts c.args.seat.now.first r.vol_pass.story r.volume.value)) c.in-Ok.is e.volume in
    subst (λ v. SeesRow g.D.Disk.tells g.D.Disk.files g.D.Disk.counts c.args.pass.story c.args.key.now p.last.value v c.in-Ok.value) (sym (ap (λ (x : Place g.row.D.Denot). x.last.value) c.see.ensures))
    (sees_row g.D.Disk.tells g.D.Disk.files g.D.Disk.counts c.args.board.now.id c.args.pass c.args.seat.now p c.in-Some.own r.vol_pass c.args.board.now.first.start c.args.key.now c.in-Ok.value r.volume.value
    c.requires.place (sym c.in-Some.ensures.value) c.requires.vol c.requires.rises e.seat seen shown
    (λ t. subst (λ v. IfOk v (λ value. value ≡ row_at (rows_of c.args.seat.now.first.volume) r.vol_pass.story.entries c.args.key.now)) c.in-Ok.is (e.value t)))

pub returns-in-Err-clause-place : goal.returns-in-Err-clause-place
returns-in-Err-clause-place g c =
    let p = c.args.place.now in let is = c.requires.place in
    let own = own_of g.D.Disk.tells g.D.Disk.files g.D.Disk.counts c.args.board.now.id c.args.pass c.args.seat.now p c.in-Some.own is (sym c.in-Some.ensures.value) in (
      record {
        own = own_later c.args.seat.now _ c.in-Some.own c.read_row-board_pass.result.vol_pass own c.read_row-board_pass.ensures.seat;
        all_seats = is.all_seats;
        vol = is.vol;
        board_is = is.board_is;
        rose = is.rose;
        point_is = is.point_is;
        noted = all_later g.D.Disk.tells g.D.Disk.files g.D.Disk.counts c.args.pass c.args.seat.now p.vol c.in-Some.own c.read_row-board_pass.result.vol_pass p.noted
            (subst (λ o. IfSome p.noted (IsKept g.D.Disk.tells g.D.Disk.files g.D.Disk.counts c.args.pass c.args.seat.now o p.vol)) (sym c.in-Some.ensures.value) is.noted) c.read_row-board_pass.ensures.seat;
      },
      refl,
    )

pub returns-in-Ok-clause-place : goal.returns-in-Ok-clause-place
returns-in-Ok-clause-place g c =
    let p = c.args.place.now in let r = c.read_row-board_pass.result in let e = c.read_row-board_pass.ensures in
    let seen = subst (λ v. IfOk v (λ _. HasSeen c.args.seat.now.first c.args.pass.story r.vol_pass.story)) c.in-Ok.is e.seen in
    let shown = subst (λ v. IfOk v (λ _. IsShown g.D.Disk.tells g.D.Disk.files g.D.Disk.counts c.args.seat.now.first r.vol_pass.story r.volume.value)) c.in-Ok.is e.volume in
    let placed = place_seen g.D.Disk.tells g.D.Disk.files g.D.Disk.counts c.args.board.now.id c.args.pass c.args.seat.now p c.in-Some.own r.vol_pass r.volume r.point c.requires.place (sym c.in-Some.ensures.value) e.seat seen shown e.point in
    (subst (λ (x : Place g.row.D.Denot). IsPlaceOf g.D.Disk.tells g.D.Disk.files g.D.Disk.counts c.args.board.now.id c.args.pass c.args.seat.now x) (sym c.see.ensures) placed, ap (λ (x : Place g.row.D.Denot). x.vol) c.see.ensures)

pub returns-in-Ok-clause-noted : goal.returns-in-Ok-clause-noted
returns-in-Ok-clause-noted g c =
    let p = c.args.place.now in
    ap (λ (x : Place g.row.D.Denot). noted_by x) c.see.ensures ∙ ap (λ (v : Volume g.row.D.Denot). record { vol = p.vol; volume = v }) (kept_same p.noted p.last p.point)
