use Rattle.rdf_gatelog.proofs.FirstGateLaws.{refused, not_created}
use Rattle.rdf_gatelog.proofs.log.LogFile.create.Goals as goal

pub returns-in_err-close_first_gate-clause-files : goal.returns-in_err-close_first_gate-clause-files
returns-in_err-close_first_gate-clause-files g c = λ tells.
    refused _ _ _ c.from_residual.result c.from_residual.ensures.1 (not_created c.args.file _ _ (c.requires.absent tells) (c.close_first_gate.ensures.this tells) (c.close_first_gate.ensures.others tells))
