use Rattle.std.proofs.Common.{◌≡◌, ◌-◌, ◌≤◌, ◌++◌, map, vec_len, get_or, []}
use Rattle.image_disks.specs.Values.{listed}
use Rattle.image_disks.specs.Blocks.{found}
use Rattle.image_trails.specs.Lists.{AllRise}
use Rattle.image_trails.proofs.lists.gather.Given as goal

abbrev pub invariant-loop-entries : goal.invariant-loop-entries
invariant-loop-entries l = record {
  few : vec_len l.entries ≤ l.most;
  so_far : AllRise (map (λ v. v.items) l.lists) → listed (found (get_or (map (λ v. v.items) l.lists) l.trail [])) l.from (l.below - l.from) ≡ l.entries.items ++ listed (found (get_or (map (λ v. v.items) l.lists) l.trail [])) l.at (l.below - l.at);
}

abbrev pub decreases-loop-entries : goal.decreases-loop-entries
decreases-loop-entries l = l.most - vec_len l.entries
