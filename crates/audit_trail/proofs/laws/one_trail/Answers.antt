use Rattle.audit_trail.proofs.TrailLaws.{one_trail_spelled}
use Rattle.audit_trail.proofs.laws.one_trail.Goals as goal

pub returns : goal.returns
returns c = one_trail_spelled c.none_begins_another.ensures
