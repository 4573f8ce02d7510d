use Rattle.std.proofs.Common.{◌≡◌}
use Rattle.std.specs.Prelude.{vec_len}
use Rattle.memory_folder.specs.Fakes.{name_at}
use Rattle.memory_folder.specs.Changes.{SameCalls}
use Rattle.memory_folder.specs.Sweeps.{IsSweeping}
use Rattle.memory_folder.proofs.folder.MemFolder.sweep.Given as goal

abbrev pub invariant-loop-place : goal.invariant-loop-place
invariant-loop-place l = record {
  many : vec_len l.self.rows ≡ vec_len l.fn.self.rows;
  lost : l.self.is_lost ≡ l.fn.self.is_lost;
  refused : l.self.refusals ≡ l.fn.self.refusals;
  calls : SameCalls l.fn.self l.self;
  swept : IsSweeping l.sweep (name_at l.fn.self.rows.items) (name_at l.self.rows.items) l.place;
}
