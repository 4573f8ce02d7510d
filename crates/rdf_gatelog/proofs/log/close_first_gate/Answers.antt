use Rattle.std.proofs.Common.{◌∷◌, []}
use Rattle.rdf_disk.specs.OutcomeLaws.{writes_narrow}
use Rattle.rdf_gatelog.proofs.FirstGateLaws.{stays_short, others_narrow}
use Rattle.rdf_gatelog.proofs.log.close_first_gate.Goals as goal

pub returns-in_err-write-clause-others : goal.returns-in_err-write-clause-others
returns-in_err-write-clause-others g c = λ tells. writes_narrow c.args.file 0 (0 ∷ []) c.write.result _ _ (c.write.ensures.files tells)

pub returns-clause-this : goal.returns-clause-this
returns-clause-this g c = λ tells. stays_short c.args.file c.write.result c.sync.result _ _ _ (c.requires.short tells) (c.write.ensures.files tells) (c.sync.ensures.files tells)

pub returns-clause-others : goal.returns-clause-others
returns-clause-others g c = λ tells. others_narrow c.args.file 0 (0 ∷ []) c.write.result c.sync.result _ _ _ (c.write.ensures.files tells) (c.sync.ensures.files tells)
