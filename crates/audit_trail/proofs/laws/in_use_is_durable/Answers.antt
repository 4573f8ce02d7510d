use Rattle.audit_trail.specs.SpelledLaws.{trail_durable}
use Rattle.audit_trail.proofs.laws.in_use_is_durable.Goals as goal

pub returns : goal.returns
returns c = trail_durable
