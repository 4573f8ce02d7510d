use Rattle.std.proofs.Common.{List, ◌∙◌, ap, subst}
use Rattle.rdf_types.specs.declared.records.Change.{Change}
use Rattle.keyed_overlay.specs.Overlays.{overlaid}
use Rattle.rdf_volume.specs.Changes.{changed}
use Rattle.rdf_volume.specs.Readings.{IsNext}
use Rattle.rdf_volume.proofs.ReadingLaws.{late, batch_read}
use Rattle.rdf_volume.proofs.reading.next_behind.Goals as goal

pub returns-in_default : goal.returns-in_default
returns-in_default c = λ before payload at n is. late before payload at c.args.read is c.args.block n c.in_default.not-Batch

pub returns : goal.returns
returns c = λ before payload at n is.
    let e = c.in_ok-take_all.ensures {u = tt} in
    batch_read before payload at c.args.read is c.in-Batch.restart c.in-Batch.changes (subst (IsNext before payload at) c.in-Batch.is n) c.take_all.new.self c.in-Some.batches
    (e.shown ∙ ap (λ (changes : List Change). changed c.args.read.table.shown.rows changes) c.into_vec.ensures)
    e.base.0
    e.base.1
    (λ base. e.overlay base ∙ ap (λ (changes : List Change). changed (overlaid base c.args.read.table.overlay) changes) c.into_vec.ensures)
    (c.in-Some.ensures {u = tt}).1
