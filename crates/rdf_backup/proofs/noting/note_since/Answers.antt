use Rattle.std.proofs.Common.{ap, ◌∙◌, drop, arith, ◌+◌}
use Rattle.rdf_backup.specs.Parts.{noted_since}
use Rattle.rdf_backup.proofs.PartLaws.{noted_turn}
use Rattle.rdf_backup.proofs.noting.note_since.Goals as goal

pub loop-entry-preserved : goal.loop-entry-preserved
loop-entry-preserved c =
    ap (λ opens. noted_since c.args.from opens (drop (c.loop-entry.entry-index + 1) c.args.part.now)) c.in_ok-note_entry.ensures
    ∙ noted_turn c.args.from c.loop-entry.txns c.args.part.now c.loop-entry.entry-index c.entry-item.result (omega arith) c.entry-item.is
    ∙ c.loop-entry.invariant
