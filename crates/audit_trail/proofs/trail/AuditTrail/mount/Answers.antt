use Rattle.std.proofs.Common.{◌∙◌, ap, Err}
use Rattle.rdf_disk.specs.Outcomes.{seen_of}
use Rattle.rdf_gatelog.specs.declared.fault.LogFault.{LogFault}
use Rattle.audit_trail.proofs.OpeningLaws.{spells_no_flaw}
use Rattle.audit_trail.proofs.trail.AuditTrail.mount.Goals as goal

pub returns-in-Err-clause-whole : goal.returns-in-Err-clause-whole
returns-in-Err-clause-whole g c = λ tells trail spells file at is.
    spells_no_flaw trail (seen_of (g.D.Disk.files c.args.disk)) file at spells (c.open_log.ensures.damaged tells file at (c.in-Err.is ∙ ap (λ (f : LogFault). Err f) is))
