use Rattle.audit_trail.proofs.OpeningLaws.{spells_no_flaw}
use Rattle.audit_trail.proofs.laws.spelled_is_whole.Goals as goal

pub returns : goal.returns
returns c = spells_no_flaw
