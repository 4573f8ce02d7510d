use Rattle.std.proofs.Common.{◌≤◌, refl, sym, ap, ◌∙◌, subst, arith}
use Rattle.rdf_volume.specs.Views.{restart_of, InUse}
use Rattle.rdf_volume.specs.declared.volume.Volume.{Volume}
use Rattle.seated_lock.specs.Passes.{Seeing}
use Rattle.volume_sessions.proofs.Begun.{sits_fresh, place_fresh}
use Rattle.volume_sessions.proofs.opening.open_one.Goals as goal

pub make-requires-clause-value : goal.make-requires-clause-value
make-requires-clause-value g c =
    let given = c.split.ensures.given in
    let number = ap (λ (p : Seeing). p.story.number) given in
    sits_fresh g.D.Disk.tells g.D.Disk.files g.D.Disk.counts _ refl (ap (λ (p : Seeing). p.seats) given) (ap (λ (p : Seeing). p.writes) given) (let e = c.requires.enter.1 in omega (arith, number, e)) c.requires.in_use

pub returns-in-Ok-clause-place : goal.returns-in-Ok-clause-place
returns-in-Ok-clause-place g c =
    place_fresh g.D.Disk.tells g.D.Disk.files g.D.Disk.counts c.args.board.now.id c.args.pass.now c.in-Ok.seat _ _ c.split-in-Ok.result c.in-Ok.vol_pass _ c.in-Ok.ensures.lock.0 c.in-Ok.ensures.lock.1 refl (sym c.of-last.ensures) (ap (λ (p : Seeing). p.lock) c.split.ensures.given ∙ c.requires.pass.0.lock) refl c.split-in-Ok.ensures.given c.in-Ok.ensures.pass (ap (λ (v : Volume g.row.D.Denot). restart_of v) c.of-last.ensures) (c.restart_point-point.ensures ∙ sym (ap (λ (v : Volume g.row.D.Denot). restart_of v) c.of-last.ensures))
    (subst (λ (v : Volume g.row.D.Denot). restart_of v ≤ c.args.pass.now.story.number) (sym c.of-last.ensures) c.requires.enter.1) (subst (λ (v : Volume g.row.D.Denot). g.D.Disk.tells → InUse g.D.Disk.files v) (sym c.of-last.ensures) c.requires.in_use) refl
