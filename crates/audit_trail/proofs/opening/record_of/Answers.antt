use Rattle.audit_trail.proofs.Spellings.{part_alone, faulty}
use Rattle.audit_trail.proofs.opening.record_of.Goals as goal

pub returns-in-Ok-2-clause-none : goal.returns-in-Ok-2-clause-none
returns-in-Ok-2-clause-none c = part_alone c.args.payload.now c.read_record.result (c.in-Ok.rec, c.in-Ok.n) c.read_record.ensures.only c.in-Ok.is c.if-n-payload.false

pub returns-in_default : goal.returns-in_default
returns-in_default c = record {
  some = tt;
  none = faulty c.args.payload.now c.read_record.result c.in-Err.fault c.read_record.ensures.only c.in-Err.is c.in_default.not-NoMemory;
}
