use Rattle.std.proofs.Common.{◌-◌, ◌^◌, ◌<◌}
use Rattle.std.specs.Prelude.{All}
use Rattle.memory_folder.specs.Fakes.{name_at}
use Rattle.memory_folder.proofs.Listing.{AreNoted}
use Rattle.memory_folder.proofs.folder.numbers_in.Given as goal

abbrev pub invariant-loop-place : goal.invariant-loop-place
invariant-loop-place l = record {
  noted : AreNoted (name_at l.rows) l.place l.numbers.items;
  numbered : All (λ n. n < 2 ^ 32 - 1) l.numbers.items;
}
