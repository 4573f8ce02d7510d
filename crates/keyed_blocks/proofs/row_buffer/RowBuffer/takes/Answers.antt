use Rattle.std.proofs.Common.{List, ap, sym, ◌∙◌, ◌-◌, length, slice_get, Option}
use Rattle.std.specs.Prelude.{option_copied}
use Rattle.rdf_types.specs.declared.records.Row.{Row}
use Rattle.keyed_blocks.specs.Writing.{is_over}
use Rattle.keyed_blocks.proofs.LastLaws.{last_at}
use Rattle.keyed_blocks.proofs.row_buffer.RowBuffer.takes.Goals as goal

pub returns-in-Some : goal.returns-in-Some
returns-in-Some c =
    c.stands_above.ensures
    ∙ ap (λ (o : Option Row). is_over o c.args.row.now) (c.in-Some.ensures.value ∙ ap (λ (rows : List Row). slice_get rows (length rows - 1)) (c.deref.ensures.value ∙ c.self.view_is) ∙ sym (last_at c.args.self.now))
