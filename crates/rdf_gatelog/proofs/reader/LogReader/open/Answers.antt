use Rattle.std.proofs.Common.{◌∙◌, sym}
use Rattle.rdf_disk.specs.OutcomeLaws.{syncs_narrows}
use Rattle.rdf_gatelog.proofs.FirstGateLaws.{refused}
use Rattle.rdf_gatelog.proofs.MountLaws.{keeps_narrows, looked, gated_keeps, gated_mounted, gated_others}
use Rattle.rdf_gatelog.proofs.ReaderLaws.{begun_short}
use Rattle.rdf_gatelog.proofs.reader.LogReader.open.Goals as goal

pub returns-in_err-sync-clause-files : goal.returns-in_err-sync-clause-files
returns-in_err-sync-clause-files g c = λ tells. refused _ _ _ c.from_residual.result c.from_residual.ensures.1 (λ m other. syncs_narrows c.sync.result _ _ (c.sync.ensures.files tells) m)

pub returns-in_err-sync-clause-keeps : goal.returns-in_err-sync-clause-keeps
returns-in_err-sync-clause-keeps g c = λ tells. keeps_narrows _ _ (syncs_narrows c.sync.result _ _ (c.sync.ensures.files tells))

pub returns-in_err-len-clause-files : goal.returns-in_err-len-clause-files
returns-in_err-len-clause-files g c = λ tells. refused _ _ _ c.from_residual-in_err-len.result c.from_residual-in_err-len.ensures.1 (λ m other. looked c.sync.result c.len.result _ _ _ (c.sync.ensures.files tells) (c.len.ensures.files tells) m)

pub returns-in_err-len-clause-keeps : goal.returns-in_err-len-clause-keeps
returns-in_err-len-clause-keeps g c = λ tells. keeps_narrows _ _ (looked c.sync.result c.len.result _ _ _ (c.sync.ensures.files tells) (c.len.ensures.files tells))

pub returns-in_default-clause-keeps : goal.returns-in_default-clause-keeps
returns-in_default-clause-keeps g c = λ tells. keeps_narrows _ _ (looked c.sync.result c.len.result _ _ _ (c.sync.ensures.files tells) (c.len.ensures.files tells))

pub returns-in_err-close_first_gate-clause-files : goal.returns-in_err-close_first_gate-clause-files
returns-in_err-close_first_gate-clause-files g c = λ tells. refused _ _ _ c.from_residual-in_err-close_first_gate.result c.from_residual-in_err-close_first_gate.ensures.1 (gated_others c.args.file _ _ _ (c.in_ok-sync.ensures.files tells) (c.in_ok-len.ensures.files tells) _ (c.close_first_gate.ensures.others tells))

pub returns-in_err-close_first_gate-clause-keeps : goal.returns-in_err-close_first_gate-clause-keeps
returns-in_err-close_first_gate-clause-keeps g c = λ tells.
    gated_keeps c.args.file _ _ _ (c.in_ok-sync.ensures.files tells) (c.in_ok-len.ensures.files tells) c.in-Some.len (sym (c.in_ok-len.ensures.ok tells) ∙ c.in-Some.is) c.if-len-le1.true _ (c.close_first_gate.ensures.others tells) (c.close_first_gate.ensures.this tells)

pub returns-then-len-le1-clause-files : goal.returns-then-len-le1-clause-files
returns-then-len-le1-clause-files g c = λ tells.
    let closed = c.in_ok-close_first_gate.ensures.ok tells in
    begun_short c.args.file (g.D.Disk.files c.args.disk.now) (g.D.Disk.files c.close_first_gate.new.disk)
    (gated_mounted c.args.file (g.D.Disk.files c.args.disk.now) (g.D.Disk.files c.sync.new.self) (g.D.Disk.files c.len.new.self) (c.in_ok-sync.ensures.files tells) (c.in_ok-len.ensures.files tells) c.in-Some.len (sym (c.in_ok-len.ensures.ok tells) ∙ c.in-Some.is) c.if-len-le1.true (g.D.Disk.files c.close_first_gate.new.disk) closed)
    closed.this

pub returns-then-len-le1-clause-keeps : goal.returns-then-len-le1-clause-keeps
returns-then-len-le1-clause-keeps g c = λ tells.
    gated_keeps c.args.file _ _ _ (c.in_ok-sync.ensures.files tells) (c.in_ok-len.ensures.files tells) c.in-Some.len (sym (c.in_ok-len.ensures.ok tells) ∙ c.in-Some.is) c.if-len-le1.true _ (c.close_first_gate.ensures.others tells) (c.close_first_gate.ensures.this tells)

pub returns-clause-keeps : goal.returns-clause-keeps
returns-clause-keeps g c = λ tells. keeps_narrows _ _ (looked c.sync.result c.len.result _ _ _ (c.sync.ensures.files tells) (c.len.ensures.files tells))
