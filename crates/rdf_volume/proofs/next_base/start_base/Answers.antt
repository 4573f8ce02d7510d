use Rattle.std.proofs.Common.{◌≡◌, ℕ, ◌+◌, [], Some, None, sym, subst}
use Rattle.std.proofs.lemmas.Result.{on_err_weaker, IfOk-weaker}
use Rattle.rdf_disk.specs.Files.{settled}
use Rattle.rdf_disk.specs.Outcomes.{Durably}
use Rattle.rdf_gatelog.specs.Logs.{Rests, ReadsEither, IsOpenIn, with_log}
use Rattle.rdf_volume.proofs.StepLaws.{rests_behind, started, start_either}
use Rattle.rdf_volume.proofs.next_base.start_base.Goals as goal

pub create-requires-clause-absent : goal.create-requires-clause-absent
create-requires-clause-absent g c = λ tells. let u = c.requires.in_use tells in
    subst (λ (n : ℕ). g.D.Disk.files c.args.disk.now (n + 1) ≡ settled None) (sym c.file.ensures.file)
    (rests_behind (g.D.Disk.files c.args.disk.now) (g.D.Disk.files c.args.disk.now) c.args.log.now.file u.0 u.1.0 u.1.1.0 u.1.1.1.0 u.1.1.1.1)

pub returns-clause-ok : goal.returns-clause-ok
returns-clause-ok g c = λ tells. IfOk-weaker c.create.result _ _ (λ next holds end rows restart batches u.
    started (g.D.Disk.files c.args.disk.now) (g.D.Disk.files c.create.new.disk) c.args.log.now.file end rows restart batches u next.end
    (subst (λ (n : ℕ). Rests (with_log u.logs (n + 1) (Some [])) (g.D.Disk.files c.create.new.disk) × IsOpenIn (with_log u.logs (n + 1) (Some [])) (n + 1) next.end) c.file.ensures.file (holds u.logs u.rests))) (c.create.ensures.ok tells)

pub returns-clause-err : goal.returns-clause-err
returns-clause-err g c = λ tells. on_err_weaker c.create.result (λ holds end rows restart batches u.
    start_either (g.D.Disk.files c.args.disk.now) (g.D.Disk.files c.create.new.disk) c.args.log.now.file end rows restart batches u
    (subst (λ (n : ℕ). Durably (g.D.Disk.files c.create.new.disk) (ReadsEither u.logs (with_log u.logs (n + 1) (Some [])))) c.file.ensures.file (holds u.logs u.rests))) (c.create.ensures.err tells)
