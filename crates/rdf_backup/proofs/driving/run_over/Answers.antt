use Rattle.std.proofs.Common.{sym}
use Rattle.rdf_backup.specs.Sessions.{HasRunInside, IsGivenBack}
use Rattle.rdf_backup.proofs.BeginningLaws.{match_some, match_none, same_pair}
use Rattle.rdf_backup.proofs.driving.run_over.Goals as goal

pub returns-in-Some-clause-ran : goal.returns-in-Some-clause-ran
returns-in-Some-clause-ran g c = same_pair (λ trails txns. HasRunInside g.D.Disk.tells g.D.Disk.files g.D.Disk.counts (g.H.Here.Drives c.args.here g.D.Disk) c.args.first.value c.args.flags.now c.args.apart.value.items c.args.placed.items c.args.start c.args.part.items c.args.end
    c.in-Some.ran.0.0.items c.in-Some.ran.0.1 c.in-Some.ran.1 trails txns) _ c.run_inside.result.trails.now _ c.run_inside.result.txns.now (c.trails-1.given.1 (sym c.run_inside.ensures.same_trails)) (c.txns-1.given.1 (sym c.run_inside.ensures.same_txns))
    (match_some (λ r. HasRunInside g.D.Disk.tells g.D.Disk.files g.D.Disk.counts (g.H.Here.Drives c.args.here g.D.Disk) c.args.first.value c.args.flags.now c.args.apart.value.items c.args.placed.items c.args.start c.args.part.items c.args.end
    r.0.0.items r.0.1 r.1 c.run_inside.result.trails.now c.run_inside.result.txns.now) _ c.run_inside.new.ran c.in-Some.ran c.in-Some.is c.run_inside.ensures.ran)

pub returns-clause-not : goal.returns-clause-not
returns-clause-not g c = same_pair (λ trails txns. IsGivenBack g.D.Disk.tells g.D.Disk.files g.D.Disk.counts c.args.placed.items c.in-Some-unbegun.back.0.items c.args.here c.in-Some-unbegun.back.1 c.args.trails.now trails c.args.txns.now txns)
    _ c.run_inside.result.trails.now _ c.run_inside.result.txns.now (c.trails-1.given.1 (sym c.run_inside.ensures.same_trails)) (c.txns-1.given.1 (sym c.run_inside.ensures.same_txns))
    (match_some (λ u. IsGivenBack g.D.Disk.tells g.D.Disk.files g.D.Disk.counts c.args.placed.items u.0.items c.args.here u.1 c.args.trails.now c.run_inside.result.trails.now c.args.txns.now c.run_inside.result.txns.now) _ c.run_inside.new.unbegun c.in-Some-unbegun.back c.in-Some-unbegun.is
    (match_none _ _ c.run_inside.new.ran c.in_default.is c.run_inside.ensures.not))
