use Rattle.std.proofs.Common.{◌≤◌, arith, length}
use Rattle.std.specs.Result.{is_ok}
use Rattle.rdf_disk.proofs.MemoryEdits.{grown, grown_entry, grown_told}
use Rattle.rdf_disk.proofs.memory_entry.Entry.make_room.Goals as goal

pub invariant_of-self-then-len-end : goal.invariant_of-self-then-len-end
invariant_of-self-then-len-end c =
    let e = c.args.self.now in
    let le : length e.held.bytes.items ≤ c.args.end = omega arith in
    record {
      sound = grown_entry e.undo.items c.reserve.new.self.items e.held.bytes.items c.resize.new.self.items e.held.len _ _ _ _ c.reserve.ensures.items
          (grown e.held.bytes.items c.resize.new.self.items c.args.end _ (is_ok c.resize.result) le c.resize.ensures.items)
          c.reserve-2.ensures.len c.reserve-2.ensures.capacity e.sound;
    }

pub returns-in_ok-resize-clause-same : goal.returns-in_ok-resize-clause-same
returns-in_ok-resize-clause-same c =
    let e = c.args.self.now in
    let le : length e.held.bytes.items ≤ c.args.end = omega arith in
    grown_told e.undo.items c.reserve.new.self.items e.held.bytes.items c.resize.new.self.items e.held.len _ _ c.reserve.ensures.items
    (grown e.held.bytes.items c.resize.new.self.items c.args.end _ (is_ok c.resize.result) le c.resize.ensures.items) e.sound
