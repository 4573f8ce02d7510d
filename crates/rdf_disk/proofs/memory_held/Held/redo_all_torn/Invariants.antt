use Rattle.std.proofs.Common.{◌≡◌, length, map}
use Rattle.rdf_disk.specs.MemoryChanges.{mixed}
use Rattle.rdf_disk.specs.MemoryUndo.{content, IsLong, AreWithin, redo_of}
use Rattle.rdf_disk.proofs.memory_held.Held.redo_all_torn.Given as goal

abbrev pub invariant-loop-oldest : goal.invariant-loop-oldest
invariant-loop-oldest l = record {
  within : AreWithin l.redo.items (length l.self.bytes.items);
  long : IsLong l.self.len (length l.self.bytes.items);
  bytes : length l.self.bytes.items ≡ length l.fn.self.bytes.items;
  left : mixed (map redo_of l.redo.items) (content l.self.bytes.items l.self.len) ≡ mixed (map redo_of l.fn.redo.items) (content l.fn.self.bytes.items l.fn.self.len);
}

abbrev pub decreases-loop-oldest : goal.decreases-loop-oldest
decreases-loop-oldest l = goal.left-loop-oldest l
