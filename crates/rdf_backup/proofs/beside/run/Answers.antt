use Rattle.std.proofs.Common.{sym, subst}
use Rattle.std.specs.List.{AllZip}
use Rattle.std.proofs.lemmas.List.Elements.{recursion_from_All}
use Rattle.rdf_backup.specs.Taking.{MayTake, HasTaken}
use Rattle.rdf_backup.proofs.WorkedLaws.{all_unrun}
use Rattle.rdf_backup.proofs.beside.run.Goals as goal

pub returns-in-Err : goal.returns-in-Err
returns-in-Err g c =
    let ready = recursion_from_All (λ w. MayTake g.D.Disk.tells g.D.Disk.files w.audit.now w.answer w.volume) c.args.workers.items c.requires.ready in
    let all = all_unrun g.D.Disk.tells g.D.Disk.files g.D.Disk.counts (λ w. w.audit.now) (λ w. w.vol) (λ w. w.answer) (λ w. w.volume) c.args.workers.items ready in
    record { ran = subst (λ l. AllZip (λ w out. HasTaken g.D.Disk.tells g.D.Disk.files g.D.Disk.counts w.audit.now w.vol out.answer w.volume out.volume) c.args.workers.items l.items) (sym c.in-Err.ensures.unrun.0) all }
