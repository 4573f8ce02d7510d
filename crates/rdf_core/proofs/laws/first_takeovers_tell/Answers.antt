use Rattle.rdf_core.specs.State.{blank}
use Rattle.rdf_core.proofs.Agree.{first_tells}
use Rattle.rdf_core.proofs.laws.first_takeovers_tell.Goals as goal

pub returns : goal.returns
returns c = λ layout lines replies last run of n first. first_tells layout (blank layout) lines replies last run of n first
