use Rattle.std.proofs.Common.{◌≡◌, ℕ, ◌+◌, None, sym, subst}
use Rattle.std.proofs.lemmas.Result.{on_err_weaker, on_ok_weaker}
use Rattle.rdf_disk.specs.Outcomes.{Durably}
use Rattle.rdf_gatelog.specs.Logs.{Rests, ReadsEither, with_log}
use Rattle.rdf_volume.specs.InUse.{IsInUse}
use Rattle.rdf_volume.proofs.StepLaws.{dropped, drop_either}
use Rattle.rdf_volume.proofs.next_base.drop_old.Goals as goal

pub returns-clause-ok : goal.returns-clause-ok
returns-clause-ok g c = λ tells. on_ok_weaker c.discard.result (λ holds end kept w file_is.
    subst (λ (n : ℕ). (u : IsInUse (g.D.Disk.files c.discard.new.disk) (n + 1) end kept.rows kept.restart 0) × (u.log.payloads ≡ w.log.payloads)) (sym file_is)
    (dropped (g.D.Disk.files c.args.disk.now) (g.D.Disk.files c.discard.new.disk) end kept w
    (subst (λ (n : ℕ). Rests (with_log w.logs n None) (g.D.Disk.files c.discard.new.disk)) file_is (holds w.logs w.rests)))) (c.discard.ensures.ok tells)

pub returns-clause-err : goal.returns-clause-err
returns-clause-err g c = λ tells. on_err_weaker c.discard.result (λ holds end kept w file_is.
    drop_either (g.D.Disk.files c.args.disk.now) (g.D.Disk.files c.discard.new.disk) end kept w
    (subst (λ (n : ℕ). Durably (g.D.Disk.files c.discard.new.disk) (ReadsEither w.logs (with_log w.logs n None))) file_is (holds w.logs w.rests))) (c.discard.ensures.err tells)
