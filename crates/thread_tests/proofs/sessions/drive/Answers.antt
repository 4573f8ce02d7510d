use Rattle.std.proofs.Common.{◌∙◌, ap}
use Rattle.volume_sessions.specs.Shown.{Shown}
use Rattle.thread_tests.proofs.Visiting.{visited_as}
use Rattle.thread_tests.proofs.sessions.drive.Goals as goal

pub ask_until-requires-clause-visited : goal.ask_until-requires-clause-visited
ask_until-requires-clause-visited g c =
    visited_as c.args.watch.now c.publish.new.self (ap (λ (x : Shown g.row.D.Denot). x.volumes) c.publish.ensures ∙ ap (λ (x : Shown g.row.D.Denot). x.volumes) c.in-Ok.ensures.ok.2) c.requires.ready.visited
