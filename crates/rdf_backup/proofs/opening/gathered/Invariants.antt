use Rattle.std.proofs.Common.{◌≡◌, ◌+◌, ◌≤◌, length, map, ◌∷◌, vec_len, vec_capacity}
use Rattle.rdf_volume.specs.Views.{disk_of}
use Rattle.rdf_backup.proofs.opening.gathered.Given as goal

abbrev pub invariant-loop-volume : goal.invariant-loop-volume
invariant-loop-volume g l = record {
  items : l.room.items ≡ l.fn.trails.disk ∷ map (λ volume. disk_of volume) l.yielded;
  few : vec_len l.room ≡ length l.yielded + 1;
  roomy : vec_len l.fn.volumes + 1 ≤ vec_capacity l.fn.room;
  capacity : vec_capacity l.room ≡ vec_capacity l.fn.room;
}
