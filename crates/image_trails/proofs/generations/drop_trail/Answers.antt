use Rattle.std.proofs.Common.{ℕ, ◌+◌, None, sym, subst}
use Rattle.rdf_disk.specs.Outcomes.{Durably}
use Rattle.rdf_gatelog.specs.Logs.{Logs, Rests, ReadsEither, with_log}
use Rattle.image_trails.specs.Generations.{without_trail}
use Rattle.image_trails.specs.Memory.{plan_of}
use Rattle.image_trails.proofs.Generating.{trail_gone, on_err_map}
use Rattle.image_trails.proofs.generations.drop_trail.Goals as goal

pub returns-clause-err : goal.returns-clause-err
returns-clause-err g c = λ tells.
    let new = g.D.Disk.files c.discard.new.disk in
    let plan = plan_of c.args.layout.now in
    let file : ℕ = c.args.master + c.args.trail in
    on_err_map c.discard.result ((logs : Logs) → Rests logs (g.D.Disk.files c.args.disk.now) → Durably new (ReadsEither logs (with_log logs file None)))
    ((logs : Logs) → Rests logs (g.D.Disk.files c.args.disk.now) → Durably new (ReadsEither logs (without_trail plan c.args.master c.args.trail logs)))
    (λ answers logs rests. subst (λ (l : Logs). Durably new (ReadsEither logs l)) (sym (trail_gone plan c.args.master c.args.trail logs c.is_used.result c.is_used.ensures c.if-not-is_used.false)) (answers logs rests))
    (c.discard.ensures.err tells)
