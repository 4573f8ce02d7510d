use Rattle.std.proofs.Common.{◌≡◌, ◌++◌, take}
use Rattle.std.specs.List.{All, flat_map}
use Rattle.rdf_codec.specs.Ships.{stamped_spelling, IsStamped}
use Rattle.rdf_codec.proofs.ships.put_each_stamped.Given as goal

abbrev pub invariant-loop-stamped : goal.invariant-loop-stamped
invariant-loop-stamped l = record {
  written : l.out.items ≡ l.initial.out.items ++ flat_map stamped_spelling (take l.stamped-index l.part);
  within : All IsStamped (take l.stamped-index l.part);
}
