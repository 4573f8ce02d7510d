use Rattle.rdf_system.proofs.Quiet.{end_refused, end_of_stopped, stopped_is}
use Rattle.rdf_system.proofs.system.System.end.Goals as goal

pub returns-in-Refused : goal.returns-in-Refused
returns-in-Refused g c = end_refused c.requires.serves c.stands.ensures c.in-Refused.node c.in-Refused.bar c.why.result c.in-Refused.is c.why.ensures

pub returns-in-Open : goal.returns-in-Open
returns-in-Open g c = end_of_stopped c.requires.serves c.stands.ensures c.in-Open.node (stopped_is c.requires.serves c.stands.ensures c.in-Open.node c.in-Open.stopped c.requires.idle c.in-Open.is)
