use Rattle.std.proofs.Common.{arith}
use Rattle.image_trails.proofs.Sorted.{first_behind, first_here, none_before, none_from}
use Rattle.image_trails.proofs.lists.entry_at.Goals as goal
use Rattle.image_trails.proofs.lists.entry_at.Goals.{in_default-via-in-Some+else-entry-below, in_default-via-in_default}

pub returns-in-Some-clause-next : goal.returns-in-Some-clause-next
returns-in-Some-clause-next c = λ rises from.
    let h = c.in-Some.ensures.item in
    let l = c.args.list.now.items in
    let n = c.args.place in
    record {
      behind = first_behind l c.args.at n rises from c.in-Some.entry.now h.3.0 h.1;
      within = c.if-entry-below.true;
      here = first_here l c.args.at n rises from c.in-Some.entry.now h.3.0 h.1;
      none = none_before l c.args.at n rises from c.in-Some.entry.now h.3.0 h.1;
    }

pub returns-in_default-clause-next : goal.returns-in_default-clause-next
returns-in_default-clause-next c = λ rises from i above under.
    let l = c.args.list.now.items in
    let n = c.args.place in
    elim c.in_default.branch [
      | in_default-via-in-Some+else-entry-below w ↦ let h = w.in-Some.ensures.item in none_before l c.args.at n rises from w.in-Some.entry.now h.3.0 h.1 i above (omega (arith, under, w.if-entry-below.false))
      | in_default-via-in_default w ↦ let h = w.in_default.ensures.item in none_from l c.args.at n rises from h.3 i above
    ]
