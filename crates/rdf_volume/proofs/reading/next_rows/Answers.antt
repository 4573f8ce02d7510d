use Rattle.std.proofs.Common.{◌≡◌, ℕ, ◌-◌, ◌<◌, length, get_or, Some, vec_len, sym, ◌∙◌, ap, arith, rules}
use Rattle.std.proofs.lemmas.Option.{slice_get-get_or}
use Rattle.rdf_volume.proofs.ReadingLaws.{rows_misplaced, rows_read}
use Rattle.rdf_volume.proofs.reading.next_rows.Goals as goal

pub returns-then-not-may_begin : goal.returns-then-not-may_begin
returns-then-not-may_begin c = λ before payload n is.
    rows_misplaced before payload c.args.at c.args.read is c.args.rows.items c.index.result.now n c.requires.fills c.index.ensures (sym c.may_begin.ensures ∙ c.if-not-may_begin.true)

pub returns : goal.returns
returns c = λ before payload n is.
    let all = c.args.rows.items in
    let len : vec_len c.args.rows ≡ length all = search rules in
    let some : 0 < length all = c.requires.fills.some in
    let last : length all - 1 < length all = omega (arith, some) in
    let slice = c.deref.ensures.value in
    let e = c.in_ok-add_rows.ensures in
    rows_read before payload c.args.at c.args.read is all c.index.result.now n c.requires.fills c.index.ensures (sym c.may_begin.ensures ∙ c.if-not-may_begin.false)
    (record c.add_rows.new.read { last = c.pop.result }) (rw slice at e.shown) (rw slice at e.entries) e.listed (rw slice at e.rows)
    (c.pop.ensures.value c.index.result.now (omega (arith, len, some))
    ∙ ap (λ (n : ℕ). Some (get_or all (n - 1) c.index.result.now)) len
    ∙ sym (slice_get-get_or all (length all - 1) c.index.result.now last))
