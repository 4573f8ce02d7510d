use Rattle.std.proofs.Common.{◌≡◌, List}
use Rattle.rdf_types.specs.declared.records.Record.{Record as AnyRecord}
use Rattle.image_disks.specs.Spelled.{block_of}
use Rattle.image_disks.specs.Held.{Holds}
use Rattle.image_trails.specs.Memory.{IsInUse, plan_in, value_in}
use Rattle.purger.proofs.PurgeLaws.{HaveGone}
use Rattle.purger.proofs.purge.Given as goal

abbrev pub invariant-loop : goal.invariant-loop
invariant-loop g l = record {
  in_use : g.D.Disk.tells → IsInUse block_of l.trails.memory (g.D.Disk.files l.trails.disk);
  went : g.D.Disk.tells → HaveGone l.retain l.floor l.counter l.went (value_in l.fn.trails.memory) (value_in l.trails.memory);
  held : g.D.Disk.tells → (trail : List AnyRecord) → Holds (plan_in l.fn.trails.memory) trail (value_in l.fn.trails.memory) → Holds (plan_in l.fn.trails.memory) trail (value_in l.trails.memory);
  phase : (value_in l.trails.memory).phase ≡ (value_in l.fn.trails.memory).phase;
  layout : l.trails.memory.layout ≡ l.fn.trails.memory.layout;
  counts : g.D.Disk.counts l.trails.disk ≡ g.D.Disk.counts l.fn.trails.disk;
}
