use Rattle.rdf_gatelog.proofs.AdditionDisks.{begins_with_none}
use Rattle.rdf_gatelog.proofs.additions.begin.Goals as goal

pub returns-clause-none : goal.returns-clause-none
returns-clause-none c = λ logs disk rests. rw c.begin.ensures.place (begins_with_none logs c.args.log.file c.args.log.end disk rests)
