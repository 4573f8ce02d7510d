use Rattle.std.proofs.Common.{◌≡◌, ◌+◌, ◌-◌}
use Rattle.std.specs.Prelude.{vec_len}
use Rattle.folder_disk.specs.Names.{Still}
use Rattle.memory_folder.specs.Fakes.{name_at}
use Rattle.memory_folder.proofs.folder.MemFolder.grow.Given as goal

abbrev pub invariant-loop-row : goal.invariant-loop-row
invariant-loop-row l = record {
  names : Still (name_at l.fn.self.rows.items) (name_at l.self.rows.items);
  lost : l.self.is_lost ≡ l.fn.self.is_lost;
  refused : l.self.refusals ≡ l.fn.self.refusals;
}

abbrev pub decreases-loop-row : goal.decreases-loop-row
decreases-loop-row l = l.file + 1 - vec_len l.self.rows
