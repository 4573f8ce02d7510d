use Rattle.std.proofs.Common.{◌≡◌, ◌-◌}
use Rattle.rdf_core.specs.Backup.{ends, stores_parts}
use Rattle.backup_machine.specs.Budgets.{after_some}
use Rattle.backup_machine.specs.Kept.{backup_of}
use Rattle.backup_machine.specs.Longer.{IsLonger}
use Rattle.backup_machine.proofs.backup.BackupState.copy_messages.Given as goal

abbrev pub invariant-loop-message : goal.invariant-loop-message
invariant-loop-message l = record {
  more : after_some (backup_of l.fn.self) (stores_parts l.layout (ends (l.upto - l.fn.self.received) l.fn.self.received l.upto) (backup_of l.fn.self)) l.fn.most
      ≡ after_some (backup_of l.self) (stores_parts l.layout (ends (l.upto - l._message) l.self.received l.upto) (backup_of l.self)) l.left;
  longer : IsLonger l.fn.self l.self;
}
