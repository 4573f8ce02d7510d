use Rattle.std.proofs.Common.{◌≡◌, ◌++◌, ◌∷◌, [], ◌<◌, ◌∙◌, List, reverse, vec_len, vec_capacity, sym, ap, subst, arith, Bool, if◌then◌else◌}
use Rattle.rdf_disk.specs.declared.memory_held.Undo.{Undo}
use Rattle.rdf_disk.proofs.MemoryLoops.{IsTaking, taking_step, reverse_push}
use Rattle.rdf_disk.proofs.memory_held.Held.take_all_back.Goals as goal

pub loop-newest-preserved : goal.loop-newest-preserved
loop-newest-preserved c =
    let inv = c.loop-newest.invariant in
    let popped = c.in-Some.ensures.items in
    let fits : vec_len c.loop-newest.redo < vec_capacity c.loop-newest.redo = omega (arith, c.loop-newest.invariant.room, c.in-Some.ensures.len) in
    let went = c.push.ensures.succeeds fits in
    let pushed : c.push.new.self.items ≡ c.loop-newest.redo.items ++ c.take_back-change.result ∷ [] =
    c.push.ensures.items ∙ ap (λ (b : Bool). if b then c.loop-newest.redo.items ++ c.take_back-change.result ∷ [] else c.loop-newest.redo.items) went in
    record {
      taking = subst (λ (l : List Undo). IsTaking (reverse c.args.undo.now.items) c.args.self.now.bytes.items c.args.self.now.len (reverse c.pop.new.self.items) l c.take_back-change.new.self.bytes.items c.take_back-change.new.self.len) (sym pushed)
          (taking_step _ _ _ (reverse c.pop.new.self.items) (reverse c.loop-newest.undo.items) c.loop-newest.redo.items c.in-Some.newest c.take_back-change.result c.loop-newest.self.bytes.items c.take_back-change.new.self.bytes.items c.loop-newest.self.len c.take_back-change.new.self.len
          inv.taking (ap (λ (l : List Undo). reverse l) popped ∙ reverse_push c.pop.new.self.items c.in-Some.newest)
          c.take_back-change.ensures.bytes c.take_back-change.ensures.len c.take_back-change.ensures.change c.take_back-change.ensures.within c.take_back-change.ensures.length);
      room = omega (arith, c.push.ensures.upper_bound, c.push.ensures.capacity, c.loop-newest.invariant.room, c.in-Some.ensures.len);
    }
