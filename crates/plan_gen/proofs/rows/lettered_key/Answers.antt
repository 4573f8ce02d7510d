use Rattle.std.proofs.Common.{arith, rules}
use Rattle.plan_gen.proofs.Texts.{key_wants}
use Rattle.plan_gen.proofs.rows.lettered_key.Goals as goal

pub want_of_memory-requires : goal.want_of_memory-requires
want_of_memory-requires c = key_wants c.args.letter c.args.number c.deref.result.now c.in-Err.fault (search rules) c.requires (omega arith) c.in-Err.ensures.fault
