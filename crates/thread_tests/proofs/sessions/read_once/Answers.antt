use Rattle.std.proofs.Common.{sym, subst}
use Rattle.thread_tests.specs.Visits.{IsVisited}
use Rattle.thread_tests.proofs.Visiting.{placed_there, visited_on}
use Rattle.thread_tests.proofs.sessions.read_once.Goals as goal

pub read-requires-clause-there : goal.read-requires-clause-there
read-requires-clause-there g c = placed_there c.args.watch.now c.args.key.now.vol c.requires.visited c.requires.key

pub returns-in-Ok-clause-visited : goal.returns-in-Ok-clause-visited
returns-in-Ok-clause-visited g c = visited_on g.D.Disk.tells g.D.Disk.files g.D.Disk.counts c.args.key.now c.in-Ok.value c.args.watch.now c.read.new.self c.requires.visited c.in-Ok.ensures.ok

pub returns-in-Err-clause-visited : goal.returns-in-Err-clause-visited
returns-in-Err-clause-visited g c = subst IsVisited (sym c.in-Err.ensures.err) c.requires.visited
