use Rattle.std.proofs.Common.{◌≡◌, ◌++◌, length, take, drop, reverse}
use Rattle.memory_folder.specs.Losses.{mixed_from}
use Rattle.memory_folder.proofs.losses.mix_all.Given as goal

abbrev pub invariant-loop-place : goal.invariant-loop-place
invariant-loop-place l = record {
  long : length l.bytes.items ≡ length l.fn.bytes.items;
  same : take l.place l.bytes.items ++ mixed_from l.newest (reverse l.writes) l.safe l.place (drop l.place l.bytes.items) ≡ mixed_from l.newest (reverse l.writes) l.safe 0 l.fn.bytes.items;
}
