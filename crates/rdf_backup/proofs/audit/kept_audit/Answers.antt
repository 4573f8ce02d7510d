use Rattle.std.proofs.Common.{subst}
use Rattle.takeover_undo.specs.Undo.{Ended, lent}
use Rattle.image_trails.specs.Trails.{trails_layout, trails_value}
use Rattle.rdf_backup.proofs.AuditLaws.{audit_is}
use Rattle.rdf_backup.proofs.audit.kept_audit.Goals as goal

pub returns-clause-audit : goal.returns-clause-audit
returns-clause-audit g c = λ tells use_ trail volumes opens over low.
    audit_is (trails_layout c.args.trails.now) trail (trails_value c.args.trails.now) volumes opens over c.prefix_is_legal.ensures c.legal_is_proper.ensures c.low_of_notes.ensures c.low_of_part.ensures
    (record { part = c.in_ok-part.part; ended = c.in_ok-ended.ended; upto = c.received.result; low = c.args.low })
    c.kept.result c.kept.ensures (c.in_ok-part.ensures.entries tells use_) (subst (λ l. Ended c.in_ok-ended.ended (lent l)) c.as_slice.ensures.value c.in_ok-ended.ensures) c.received.ensures low
