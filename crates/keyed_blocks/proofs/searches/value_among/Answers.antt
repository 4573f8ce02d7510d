use Rattle.std.proofs.Common.{◌≡◌, Ok, Err, sym, rules}
use Rattle.std.proofs.lemmas.Fn.{always_returns_same}
use Rattle.rdf_types.specs.declared.records.Row.{Row}
use Rattle.rdf_types.specs.Places.{row_cmp}
use Rattle.rdf_model.specs.Rows.{row_place}
use Rattle.keyed_blocks.proofs.FindLaws.{searched}
use Rattle.keyed_blocks.proofs.searches.value_among.Goals as goal

pub returns-in-Ok : goal.returns-in-Ok
returns-in-Ok c = λ risen.
    let found = c.in-Ok.ensures.position (λ (row : Row). row_cmp (row_place row) (c.args.file.now, c.args.key.now)) (always_returns_same _ (λ a r. r ≡ row_cmp (row_place a.0.now) (c.args.file.now, c.args.key.now)) _ (λ a r f called. search rules)) in
    sym (searched (c.args.file.now, c.args.key.now) c.args.rows.now (Ok c.in-Ok.at) risen c.in-Ok.ensures.bound found c.index-rows-at.result)

pub returns-in-Err : goal.returns-in-Err
returns-in-Err c = λ risen.
    let none = c.in-Err.ensures.position (λ (row : Row). row_cmp (row_place row) (c.args.file.now, c.args.key.now)) (always_returns_same _ (λ a r. r ≡ row_cmp (row_place a.0.now) (c.args.file.now, c.args.key.now)) _ (λ a r f called. search rules)) in
    sym (searched (c.args.file.now, c.args.key.now) c.args.rows.now (Err c.in-Err.field-0) risen c.in-Err.ensures.bound none)
