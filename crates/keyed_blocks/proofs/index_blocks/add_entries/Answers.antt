use Rattle.rdf_disk.specs.AnswerLaws.{on_err}
use Rattle.rdf_gatelog.specs.AddingLaws.{adding_durably}
use Rattle.keyed_blocks.proofs.index_blocks.add_entries.Goals as goal

pub returns-in_err-payload-clause-err : goal.returns-in_err-payload-clause-err
returns-in_err-payload-clause-err g c = λ tells. on_err c.from_residual.result _ (λ logs more r. adding_durably logs c.args.addition.now more (g.D.Disk.files c.args.disk.now) r)
