use Rattle.std.proofs.Common.{lives}
use Rattle.volume_sessions.proofs.watch.give_shown.Goals as goal

pub give-requires : goal.give-requires
give-requires g c κs within = (search lives depth 80 fits 200000 parts 8, (c.requires.lock, (c.requires.value, c.requires.grows)))
