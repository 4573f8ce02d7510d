use Rattle.image_trails.proofs.PayloadLaws.{read_ok, read_err}
use Rattle.image_trails.proofs.reading.block_in.Goals as goal

pub returns-in-Ok-clause-block : goal.returns-in-Ok-clause-block
returns-in-Ok-clause-block c = read_ok c.args.payload.now c.in-Ok.block c.in-Ok.ensures.exact

pub returns-in_default : goal.returns-in_default
returns-in_default c = record {
  block = read_err c.args.payload.now c.in-Err.fault c.in-Err.ensures.exact c.in_default.not-NoMemory;
  limits = tt;
}
