use Rattle.std.proofs.Common.{arith, rules}
use Rattle.plan_gen.proofs.Texts.{value_wants}
use Rattle.plan_gen.proofs.rows.decimal_value.Goals as goal

pub want_of_memory-requires : goal.want_of_memory-requires
want_of_memory-requires c = value_wants c.args.number c.as_bytes.result.now c.in-Err.fault (search rules) (omega arith) c.in-Err.ensures.fault
