use Rattle.std.proofs.Common.{◌≡◌, ◌-◌, List}
use Rattle.rdf_types.specs.declared.records.Record.{Record as AnyRecord}
use Rattle.image_disks.specs.Spelled.{block_of}
use Rattle.image_disks.specs.Held.{Holds}
use Rattle.image_trails.specs.Memory.{IsInUse, plan_in, value_in}
use Rattle.copyaudit.specs.Copying.{BothHold}
use Rattle.copyaudit.proofs.CopyLaws.{IsLeft}
use Rattle.copyaudit.proofs.copying.copy_rest.Given as goal

abbrev pub invariant-loop : goal.invariant-loop
invariant-loop g l = record {
  in_use : g.D.Disk.tells → IsInUse block_of l.lag.memory (g.D.Disk.files l.lag.disk);
  left : g.D.Disk.tells → IsLeft (plan_in l.fn.lag.memory) (value_in l.lead.memory) (value_in l.fn.lag.memory) (value_in l.lag.memory) (l.end - l.counter);
  held : g.D.Disk.tells → (trail : List AnyRecord) → BothHold (plan_in l.fn.lag.memory) (value_in l.lead.memory) (value_in l.fn.lag.memory) trail → Holds (plan_in l.fn.lag.memory) trail (value_in l.lag.memory);
  phase : (value_in l.lag.memory).phase ≡ (value_in l.fn.lag.memory).phase;
  layout : l.lag.memory.layout ≡ l.fn.lag.memory.layout;
  counts : g.D.Disk.counts l.lag.disk ≡ g.D.Disk.counts l.fn.lag.disk;
}
