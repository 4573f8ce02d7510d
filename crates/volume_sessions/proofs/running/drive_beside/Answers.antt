use Rattle.std.proofs.Common.{◌≡◌, subst}
use Rattle.seated_lock.specs.Passes.{Lock, LockId}
use Rattle.updaters.specs.declared.seat.VolumeSeat.{VolumeSeat}
use Rattle.volume_sessions.specs.Workers.{HasUpdated}
use Rattle.volume_sessions.proofs.Zips.{zip_through}
use Rattle.volume_sessions.proofs.running.drive_beside.Goals as goal

pub returns-clause-ends : goal.returns-clause-ends
returns-clause-ends g c =
    zip_through (λ seat w. (w.seat.now ≡ seat) × (w.board.now.id ≡ c.args.board.now.id)) (λ w end. HasUpdated w.board.now.id w.seat.now end) (HasUpdated c.args.board.now.id)
    (λ seat w end made ran. subst (λ (b : LockId). HasUpdated b seat end) made.1 (subst (λ (s : Lock (VolumeSeat g.row.D.Denot)). HasUpdated w.board.now.id s end) made.0 ran))
    c.args.seats.now _ c.run_in.result.0.items c.updaters_of-updaters.ensures.made c.run_in.ensures.outs
