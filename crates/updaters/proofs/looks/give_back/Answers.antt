use Rattle.std.proofs.Common.{lives, refl}
use Rattle.seated_lock.specs.StoryLaws.{begins_itself}
use Rattle.updaters.proofs.looks.give_back.Goals as goal

pub give-requires : goal.give-requires
give-requires g c κs within = (search lives depth 80 fits 200000 parts 8, (c.requires.lock, (c.requires.value, record { begins = begins_itself c.args.turn.hold.story; same = λ r. refl })))
