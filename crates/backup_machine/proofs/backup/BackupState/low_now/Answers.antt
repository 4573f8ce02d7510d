use Rattle.std.proofs.Common.{◌∙◌}
use Rattle.backup_machine.proofs.NoteLaws.{low_is}
use Rattle.backup_machine.proofs.backup.BackupState.low_now.Goals as goal

pub returns : goal.returns
returns c = c.low.ensures ∙ low_is c.args.layout.now c.args.trail.now c.args.self.now c.requires.follows c.requires.noted c.prefix_is_legal.ensures c.legal_is_proper.ensures c.low_of_notes.ensures c.low_of_part.ensures
