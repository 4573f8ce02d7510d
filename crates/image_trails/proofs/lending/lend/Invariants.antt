use Rattle.std.proofs.Common.{◌≡◌, ◌-◌, ◌≤◌, ◌++◌, [], length, get_or, map, vec_len}
use Rattle.rdf_types.specs.Entries.{Rises}
use Rattle.image_disks.specs.Values.{listed}
use Rattle.image_trails.specs.Lists.{AllRise, IsPast, all_of, items_in}
use Rattle.image_trails.proofs.lending.lend.Given as goal

abbrev pub invariant-loop-third : goal.invariant-loop-third
invariant-loop-third l = record {
  few : vec_len l.entries ≤ l.most;
  within : (l.master ≤ length (get_or (items_in l.lists) 0 [])) × (l.first ≤ length (get_or (items_in l.lists) 1 [])) × (l.second ≤ length (get_or (items_in l.lists) 2 [])) × (l.third ≤ length (get_or (items_in l.lists) 3 []));
  past : AllRise (items_in l.lists) → IsPast l.master l.at (get_or (items_in l.lists) 0 []) × IsPast l.first l.at (get_or (items_in l.lists) 1 []) × IsPast l.second l.at (get_or (items_in l.lists) 2 []) × IsPast l.third l.at (get_or (items_in l.lists) 3 []);
  rises : Rises 0 (map (λ s. s.now) l.entries.items) l.at;
  so_far : AllRise (items_in l.lists) → listed (all_of (items_in l.lists)) l.from (l.below - l.from) ≡ map (λ s. s.now) l.entries.items ++ listed (all_of (items_in l.lists)) l.at (l.below - l.at);
}

abbrev pub decreases-loop-third : goal.decreases-loop-third
decreases-loop-third l = l.below - l.at
