use Rattle.std.proofs.Common.{slice_get, ap, sym, ◌∙◌}
use Rattle.std.specs.FinMap as map
use Rattle.keyed_files.specs.RowsAbove.{rows_above}
use Rattle.keyed_files.proofs.OrderLemmas.{next_own, next_other}
use Rattle.keyed_files.proofs.files.KeyedFiles.next_after.Goals as goal

pub returns-in-Some : goal.returns-in-Some
returns-in-Some c =
    sym (next_own (map.from_entries c.self.inside.files.entries) (c.args.file.now, c.args.key.now) _ (sym c.in-Some.ensures))
    ∙ ap (λ m. slice_get (rows_above m (c.args.file.now, c.args.key.now)) 0) c.self.view_is

pub returns : goal.returns
returns c =
    c.next_file.ensures
    ∙ sym (next_other (map.from_entries c.self.inside.files.entries) (c.args.file.now, c.args.key.now) c.self.invariant (sym c.in_default.ensures))
    ∙ ap (λ m. slice_get (rows_above m (c.args.file.now, c.args.key.now)) 0) c.self.view_is
