use Rattle.std.proofs.Common.{Err, refl, ap, ◌∙◌}
use Rattle.updaters.proofs.seat.VolumeSeat.advance.Goals as goal

pub returns-in-Err-clause-advances : goal.returns-in-Err-clause-advances
returns-in-Err-clause-advances g c = record {
  failed = refl;
  point = c.in-Err.ensures.steps.point;
  either = λ tells. c.in-Err.ensures.steps.err tells;
  known = λ tells. c.in-Err.ensures.known tells;
  sound = λ tells file at e. c.step.ensures.steps.sound tells file at (c.in-Err.is ∙ ap Err e);
}
