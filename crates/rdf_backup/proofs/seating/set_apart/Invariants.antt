use Rattle.std.proofs.Common.{◌≡◌, ◌≤◌, ◌+◌, List, ◌++◌, length, drop, vec_capacity}
use Rattle.rdf_volume.specs.declared.volume.Volume.{Volume}
use Rattle.volume_sessions.specs.declared.placed.Placed.{Placed}
use Rattle.rdf_backup.specs.Sessions.{IsPlaceOf}
use Rattle.rdf_backup.specs.Parting.{Parted}
use Rattle.rdf_backup.proofs.seating.set_apart.Given as goal

abbrev pub invariant-loop-number : goal.invariant-loop-number
invariant-loop-number g l = record {
  sized : length l.volumes.items + l.number ≡ length l.flags;
  fits : (length l.placed.items ≤ l.number) × (length l.apart.items ≤ l.number);
  room : (length l.flags ≤ vec_capacity l.placed) × (length l.flags ≤ vec_capacity l.apart) × (vec_capacity l.volumes ≡ vec_capacity l.fn.volumes);
  parted : (ws : List (Placed g.row.D.Denot)) (others : List (Volume g.row.D.Denot)) → Parted IsPlaceOf l.number (drop l.number l.flags) l.volumes.items ws others →
      Parted IsPlaceOf 0 l.flags l.fn.volumes.items (l.placed.items ++ ws) (l.apart.items ++ others);
}
