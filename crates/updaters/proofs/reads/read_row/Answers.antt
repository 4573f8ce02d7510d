use Rattle.std.proofs.Common.{rules, refl}
use Rattle.seated_lock.specs.StoryLaws.{begins_itself}
use Rattle.updaters.proofs.reads.read_row.Goals as goal

pub give-vol_pass-requires : goal.give-vol_pass-requires
give-vol_pass-requires g c κs within = (search rules, (search rules, (search rules, record { begins = begins_itself _; same = λ r. refl })))
