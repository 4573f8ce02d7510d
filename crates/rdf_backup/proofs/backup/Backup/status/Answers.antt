use Rattle.std.proofs.Common.{ap, ◌∙◌}
use Rattle.rdf_core.specs.Effects.{count_u32}
use Rattle.rdf_backup.proofs.Telling.{status_goes, status_said, open_count}
use Rattle.rdf_backup.proofs.backup.Backup.status.Goals as goal

pub returns-clause-goes : goal.returns-clause-goes
returns-clause-goes g c = λ tells w node serves.
    status_goes g.D.Disk.files w node c.args.self.now serves c.phase.result c.received.result c.kept.result c.generations.result c.count.result
    c.phase.ensures c.received.ensures c.kept.ensures c.generations.ensures
    (c.count.ensures ∙ ap (λ n. count_u32 n) (open_count g.D.Disk.files w node c.args.self.now serves c.prefix_is_legal.ensures c.legal_is_proper.ensures c.count_of_notes.ensures c.count_of_part.ensures))

pub returns-clause-said : goal.returns-clause-said
returns-clause-said g c = status_said c.args.self.now c.phase.result c.received.result c.kept.result c.generations.result c.count.result c.phase.ensures c.received.ensures c.kept.ensures c.generations.ensures
