use Rattle.std.proofs.Common.{◌≡◌, ℕ, true, List, Some, None, map, slice_get, option_copied, sym, ◌∙◌, ap, subst}
use Rattle.std.specs.FinMap.{get}
use Rattle.std.specs.FinMap.Entries.{find}
use Rattle.rdf_types.specs.declared.records.Row.{Row}
use Rattle.rdf_types.specs.Places.{row_cmp}
use Rattle.rdf_model.specs.Rows.{row_entry, row_map}
use Rattle.rdf_model.specs.Volumes.{Rows}
use Rattle.keyed_blocks.specs.Bases.{rises, block_rows}
use Rattle.keyed_overlay.specs.Overlays.{Laid, overlaid}
use Rattle.rdf_volume.proofs.TableLaws.{table_has, indexes_as, read_number}
use Rattle.rdf_volume.proofs.table.RowTable.get.Goals as goal

pub returns-in_default-clause-ok : goal.returns-in_default-clause-ok
returns-in_default-clause-ok g c = λ tells.
    let r = c.requires.table tells in
    table_has c.args.self.now r.0 r.2 (c.args.file.now, c.args.key.now) None
    (c.in-Untouched.ensures {u = tt} (row_map r.2.base) ∙ (c.in_default.ensures {u = tt}).none r.2.base r.0 r.2.indexes)

pub returns-in_ok-copy_of-in-Some-get-clause-ok : goal.returns-in_ok-copy_of-in-Some-get-clause-ok
returns-in_ok-copy_of-in-Some-get-clause-ok g c = λ tells.
    let r = c.requires.table tells in
    let q : List ℕ × List ℕ = (c.args.file.now, c.args.key.now) in
    let t = c.read.ensures.table tells r.0 r.1 r.2 in
    let i = indexes_as c.read.new.self.index c.args.self.now.index t.base r.0 (sym c.read.ensures.same.0) t.indexes in
    let found : slice_get c.read.new.self.blocks c.in_ok-place.place ≡ Some c.in-Some-get.block.now = sym c.get-2.ensures ∙ ap option_copied c.in-Some-get.is in
    let number = read_number (slice_get c.read.new.self.blocks c.in_ok-place.place) c.in-Some-get.block.now c.in-Some.number found c.in_ok-place.ensures.block in
    let here = subst (λ (n : ℕ). slice_get (block_rows t.indexes.blocks) n ≡ Some c.in-Some-get.block.now.rows.items) number (t.kept c.in_ok-place.place c.in-Some-get.block.now found) in
    let has = c.in-Some.ensures.some t.base r.0 i c.in-Some-get.block.now.rows.items here in
    c.in_ok-copy_of-in-Some-get.ensures ∙ c.value_among.ensures (subst (λ (rows : List Row). rises rows ≡ true) (sym c.deref.ensures.value) has.1)
    ∙ ap (λ (rows : List Row). find row_cmp q (map row_entry rows)) c.deref.ensures.value
    ∙ sym has.0
    ∙ table_has c.read.new.self r.0 t q (get (row_map t.base) q) (ap (λ (o : Laid). get (overlaid (row_map t.base) o) q) c.read.ensures.same.1 ∙ c.in-Untouched.ensures {u = tt} (row_map t.base))
    ∙ ap (λ (rows : Rows). get rows q) c.read.ensures.shown
