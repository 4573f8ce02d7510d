use Rattle.std.proofs.Common.{rules}
use Rattle.rdf_volume.proofs.volume.Volume.checkpoint_from.Goals as goal

pub returns-then-self-least : goal.returns-then-self-least
returns-then-self-least g c = record {
  does = record { ok = search rules; err = search rules; cause = search rules };
  rows = search rules;
  restart = search rules;
  batches = search rules;
  file = search rules;
  sound = λ tells damaged at e. cc;
  names = λ damaged at e. cc;
}
