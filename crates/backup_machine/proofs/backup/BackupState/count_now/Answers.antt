use Rattle.std.proofs.Common.{◌∙◌}
use Rattle.backup_machine.proofs.NoteLaws.{count_is}
use Rattle.backup_machine.proofs.backup.BackupState.count_now.Goals as goal

pub returns : goal.returns
returns c = c.count.ensures ∙ count_is c.args.layout.now c.args.trail.now c.args.self.now c.requires.follows c.requires.noted c.prefix_is_legal.ensures c.legal_is_proper.ensures c.count_of_notes.ensures c.count_of_part.ensures
