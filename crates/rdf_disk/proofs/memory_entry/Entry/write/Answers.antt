use Rattle.std.proofs.Common.{◌≡◌, ◌≤◌, ◌<◌, ◌+◌, ◌-◌, ◌++◌, ◌∷◌, [], ◌∙◌, ℕ, List, Bool, length, reverse, take, drop, if◌then◌else◌, sym, ap, subst, arith, vec_len, vec_capacity}
use Rattle.rdf_disk.specs.Files.{bytes_of}
use Rattle.rdf_disk.specs.MemoryChanges.{Told, Write, changed}
use Rattle.rdf_disk.specs.MemoryEntries.{told}
use Rattle.rdf_disk.specs.MemoryUndo.{told_of, IsEntry}
use Rattle.rdf_disk.specs.declared.memory_held.Undo.TheVariants.{OfWrite}
use Rattle.rdf_disk.proofs.MemoryEdits.{write_entry}
use Rattle.rdf_disk.proofs.memory_entry.Entry.write.Goals.{After-push}
use Rattle.rdf_disk.proofs.memory_entry.Entry.write.Goals as goal

-- once its undo is pushed, the file is sound and tells one write more
written : (c : After-push) → IsEntry c.put.new.self.bytes.items c.put.new.self.len (reverse c.push.new.self.items) (vec_len c.make_room.new.self.redo) (vec_capacity c.make_room.new.self.redo)
    × (told_of (reverse c.push.new.self.items) c.put.new.self.bytes.items c.put.new.self.len ≡ changed (Write c.args.odd c.args.at c.args.new.now) (told c.make_room.new.self))
written c =
    let e = c.make_room.new.self in
    let room = c.in_ok-make_room.ensures.ok in
    let start : c.args.at ≤ length (bytes_of (told e).seen) = subst (λ (t : Told). c.args.at ≤ length (bytes_of t.seen)) (sym c.make_room.ensures.same) c.requires in
    let undo = OfWrite c.args.odd c.args.at c.in_ok-held.held e.held.len in
    let n : c.args.at + length c.args.new.now - c.args.at ≡ length c.args.new.now = omega arith in
    let held : c.in_ok-held.held.items ≡ take (length c.args.new.now) (drop c.args.at e.held.bytes.items) =
    c.in_ok-held.ensures.items_if_clones_equal (λ x y is. is)
    ∙ ap (λ (l : List ℕ). take (c.args.at + length c.args.new.now - c.args.at) (drop c.args.at l)) c.deref.ensures.value
    ∙ ap (λ (k : ℕ). take k (drop c.args.at e.held.bytes.items)) n in
    let fits : vec_len e.undo < vec_capacity e.undo = room.undo in
    let pushed : c.push.new.self.items ≡ e.undo.items ++ undo ∷ [] =
    c.push.ensures.items ∙ ap (λ (b : Bool). if b then e.undo.items ++ undo ∷ [] else e.undo.items) (c.push.ensures.succeeds fits) in
    write_entry e.undo.items c.push.new.self.items e.held.bytes.items c.put.new.self.bytes.items c.args.new.now e.held.len c.put.new.self.len c.args.odd c.args.at c.in_ok-held.held _ _
    e.sound start room.bytes held (c.put.ensures.same start) c.put.ensures.content c.put.ensures.long c.put.ensures.length pushed (omega (arith, room.aside))

pub invariant_of-self : goal.invariant_of-self
invariant_of-self c = record { sound = (written (goal.at.invariant_of-self c).After-push).0 }

pub returns-clause-ok : goal.returns-clause-ok
returns-clause-ok c =
    (written (goal.at.returns-clause-ok c).After-push).1 ∙ ap (λ (t : Told). changed (Write c.args.odd c.args.at c.args.new.now) t) c.make_room.ensures.same
