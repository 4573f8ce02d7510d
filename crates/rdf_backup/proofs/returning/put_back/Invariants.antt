use Rattle.std.proofs.Common.{◌≡◌, length, drop, map, Ok, vec_capacity}
use Rattle.rdf_backup.specs.FirstFaults.{first_fault}
use Rattle.rdf_backup.specs.Parting.{merged, spread}
use Rattle.rdf_backup.proofs.PartingLaws.{Back}
use Rattle.rdf_backup.proofs.returning.put_back.Given as goal

abbrev pub invariant-loop-number : goal.invariant-loop-number
invariant-loop-number g l = record {
  room : (length l.volumes.items ≡ l.number) × (vec_capacity l.volumes ≡ vec_capacity l.fn.volumes);
  back : Back (λ w. g.W.Returning.volume_of w) (λ w. g.W.Returning.answer_of w) l.number (drop l.number l.flags) l.volumes.items l.first l.ended.items l.apart.items
      (merged l.flags (map (λ w. g.W.Returning.volume_of w) l.fn.ended.items) l.fn.apart.items) (first_fault 1 l.fn.met (spread (Ok tt) l.flags (map (λ w. g.W.Returning.answer_of w) l.fn.ended.items)));
}
