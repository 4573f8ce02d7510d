use Rattle.std.proofs.Common.{ap, ◌∙◌}
use Rattle.volume_sessions.specs.Shown.{Shown}
use Rattle.thread_tests.proofs.Visiting.{visited_asked, visited_noted}
use Rattle.thread_tests.proofs.sessions.ask_until.Goals as goal

pub returns-then-noted-last-clause-visited : goal.returns-then-noted-last-clause-visited
returns-then-noted-last-clause-visited g c = visited_asked c.loop.watch c.ask.new.self c.ask.ensures.same c.loop.invariant.2

pub returns-then-noted-eq5-clause-visited : goal.returns-then-noted-eq5-clause-visited
returns-then-noted-eq5-clause-visited g c =
    visited_noted g.D.Disk.tells g.D.Disk.files g.D.Disk.counts c.loop.watch c.ask.new.self c.accept.new.self c.loop.invariant.2 c.ask.ensures.noted c.accept.ensures

pub loop-preserved : goal.loop-preserved
loop-preserved g c = (
  ap (λ (x : Shown g.row.D.Denot). x.lent) c.ask.ensures.same ∙ c.loop.invariant.0,
  ap (λ (x : Shown g.row.D.Denot). x.key) c.ask.ensures.same ∙ c.loop.invariant.1,
  visited_asked c.loop.watch c.ask.new.self c.ask.ensures.same c.loop.invariant.2,
)
