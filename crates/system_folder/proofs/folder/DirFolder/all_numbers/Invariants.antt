use Rattle.std.proofs.Common.{All, ◌<◌, ◌-◌, ◌^◌}
use Rattle.system_folder.proofs.folder.DirFolder.all_numbers.Given as goal

abbrev pub invariant-loop-entry : goal.invariant-loop-entry
invariant-loop-entry g l = All (λ n. n < 2 ^ 32 - 1) l.all.items
