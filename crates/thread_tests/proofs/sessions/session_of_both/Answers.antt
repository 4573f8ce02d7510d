use Rattle.std.proofs.Common.{refl}
use Rattle.thread_tests.proofs.Visiting.{two_in_use, may_visit}
use Rattle.thread_tests.proofs.sessions.session_of_both.Goals as goal

pub in_session-requires-clause-in_use : goal.in_session-requires-clause-in_use
in_session-requires-clause-in_use g c κs within = two_in_use g.D.Disk.tells g.D.Disk.files c.args.volumes.items c.requires

pub in_session-requires-clause-ready : goal.in_session-requires-clause-ready
in_session-requires-clause-ready g c κs within = λ s opened. may_visit g.D.Disk.tells g.D.Disk.files c.args.volumes.items _ _ _ _ s c.requires opened c.in_ok-image.ensures refl c.in_ok-with_capacity.ensures.items c.in_ok-with_capacity.ensures.capacity
