use Rattle.std.proofs.Common.{◌≡◌, ◌≤◌, ◌+◌, List, ◌++◌, length, drop, Err, vec_capacity}
use Rattle.rdf_gatelog.specs.declared.fault.LogFault.TheVariants.{NoMemory}
use Rattle.rdf_volume.specs.declared.volume.Volume.{Volume}
use Rattle.rdf_backup.specs.declared.taking.TakingOver.{TakingOver}
use Rattle.rdf_backup.specs.Parting.{Parted}
use Rattle.rdf_backup.proofs.beside.take_out.Given as goal

abbrev pub invariant-loop-number : goal.invariant-loop-number
invariant-loop-number g l = record {
  sized : length l.volumes.items + l.number ≡ length l.flags;
  fits : (length l.workers.items ≤ l.number) × (length l.apart.items ≤ l.number);
  room : (length l.flags ≤ vec_capacity l.workers) × (length l.flags ≤ vec_capacity l.apart) × (vec_capacity l.volumes ≡ vec_capacity l.fn.volumes);
  parted : (ws : List (TakingOver g.row.D.Denot g.row.G.Denot)) (others : List (Volume g.row.D.Denot)) → Parted (λ n volume w. (w.volume ≡ volume) × (w.vol ≡ n) × (w.audit.now ≡ l.audit) × (w.answer ≡ Err NoMemory)) l.number (drop l.number l.flags) l.volumes.items ws others →
      Parted (λ n volume w. (w.volume ≡ volume) × (w.vol ≡ n) × (w.audit.now ≡ l.audit) × (w.answer ≡ Err NoMemory)) 0 l.flags l.fn.volumes.items (l.workers.items ++ ws) (l.apart.items ++ others);
}
