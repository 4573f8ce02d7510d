use Rattle.std.proofs.Common.{◌+◌, sym, subst}
use Rattle.rdf_disk.specs.Outcomes.{Durably}
use Rattle.rdf_disk.specs.AnswerLaws.{on_err}
use Rattle.rdf_gatelog.specs.Logs.{Logs, Rests, ReadsEither}
use Rattle.image_trails.specs.Memory.{plan_of}
use Rattle.image_trails.proofs.Generating.{trail_made, absent_at}
use Rattle.image_trails.proofs.generations.begin_trail.Goals as goal

pub returns-in_err-create-clause-err : goal.returns-in_err-create-clause-err
returns-in_err-create-clause-err g c = λ tells. on_err c.from_residual.result _ (λ logs rests absent.
    subst (λ (l : Logs). Durably (g.D.Disk.files c.create.new.disk) (ReadsEither logs l))
    (sym (trail_made (plan_of c.args.layout.now) c.args.master c.args.trail logs c.is_used.result c.is_used.ensures c.if-not-is_used.false))
    (c.in_err-create.ensures.err tells logs rests))

pub returns-clause-ok : goal.returns-clause-ok
returns-clause-ok g c = λ tells logs rests absent.
    subst (λ (l : Logs). Rests l (g.D.Disk.files c.create.new.disk))
    (sym (trail_made (plan_of c.args.layout.now) c.args.master c.args.trail logs c.is_used.result c.is_used.ensures c.if-not-is_used.false))
    (c.in_ok-create.ensures.ok tells logs rests).0

pub create-requires-clause-absent : goal.create-requires-clause-absent
create-requires-clause-absent g c = λ tells.
    let r = c.requires.absent tells in
    absent_at r.0 (c.args.master + c.args.trail) (g.D.Disk.files c.args.disk.now) r.1 r.2
