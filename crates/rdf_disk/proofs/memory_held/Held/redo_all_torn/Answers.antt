use Rattle.std.proofs.Common.{◌∙◌, ℕ, List, Option, length, map, sym, ap, subst}
use Rattle.rdf_disk.specs.MemoryChanges.{mixed}
use Rattle.rdf_disk.specs.MemoryUndo.{content, AreWithin, redo_of}
use Rattle.rdf_disk.specs.declared.memory_held.Undo.{Undo}
use Rattle.rdf_disk.proofs.MemoryLoops.{within_pop, mixed_push}
use Rattle.rdf_disk.proofs.memory_held.Held.redo_all_torn.Goals as goal

pub redo_torn-requires-clause-within : goal.redo_torn-requires-clause-within
redo_torn-requires-clause-within c =
    (within_pop c.pop.new.self.items c.in-Some.oldest (length c.loop-oldest.self.bytes.items) (subst (λ (l : List Undo). AreWithin l (length c.loop-oldest.self.bytes.items)) c.in-Some.ensures.items c.loop-oldest.invariant.within)).1

pub loop-oldest-preserved : goal.loop-oldest-preserved
loop-oldest-preserved c =
    let rest = within_pop c.pop.new.self.items c.in-Some.oldest (length c.loop-oldest.self.bytes.items) (subst (λ (l : List Undo). AreWithin l (length c.loop-oldest.self.bytes.items)) c.in-Some.ensures.items c.loop-oldest.invariant.within) in
    record {
      within = subst (λ (n : ℕ). AreWithin c.pop.new.self.items n) (sym c.redo_torn.ensures.length) rest.0;
      long = c.redo_torn.ensures.long;
      bytes = c.redo_torn.ensures.length ∙ c.loop-oldest.invariant.bytes;
      left = ap (λ (x : Option (List ℕ)). mixed (map redo_of c.pop.new.self.items) x) c.redo_torn.ensures.content
          ∙ sym (mixed_push c.pop.new.self.items c.in-Some.oldest (content c.loop-oldest.self.bytes.items c.loop-oldest.self.len))
          ∙ ap (λ (l : List Undo). mixed (map redo_of l) (content c.loop-oldest.self.bytes.items c.loop-oldest.self.len)) (sym c.in-Some.ensures.items)
          ∙ c.loop-oldest.invariant.left;
    }
