use Rattle.std.proofs.Common.{◌∙◌, sym}
use Rattle.rdf_backup.proofs.Infos.{info_refused, info_goes, info_said, infos_are, taking_said}
use Rattle.rdf_backup.proofs.backup.Backup.info.Goals as goal

pub returns-in-Taking-clause-goes : goal.returns-in-Taking-clause-goes
returns-in-Taking-clause-goes g c = λ tells w node serves. info_refused g.D.Disk.files w node c.args.self.now serves (sym c.phase.ensures ∙ c.in-Taking.is)

pub returns-in-Taking-clause-said : goal.returns-in-Taking-clause-said
returns-in-Taking-clause-said g c = taking_said c.args.self.now _ (sym c.phase.ensures ∙ c.in-Taking.is)

pub returns-clause-goes : goal.returns-clause-goes
returns-clause-goes g c = λ tells w node serves.
    info_goes g.D.Disk.files w node c.args.self.now serves (λ taking. c.in_default.not-Taking (c.phase.ensures ∙ taking)) c.new.result
    (infos_are c.args.self.now c.new.result _ _ _ c.new.ensures c.in_ok-volumes.ensures c.as_slice.ensures.value c.layout.ensures)

pub returns-clause-said : goal.returns-clause-said
returns-clause-said g c =
    info_said c.args.self.now _ (λ taking. c.in_default.not-Taking (c.phase.ensures ∙ taking)) c.new.result
    (infos_are c.args.self.now c.new.result _ _ _ c.new.ensures c.in_ok-volumes.ensures c.as_slice.ensures.value c.layout.ensures)
