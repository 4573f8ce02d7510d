use Rattle.std.proofs.lemmas.Result.{err_from_is_err_and}
use Rattle.rdf_disk.specs.AnswerLaws.{passed_on}
use Rattle.rdf_gatelog.specs.Logs.{SameLogs}
use Rattle.rdf_volume.proofs.AlikeLaws.{keeps_whole, read_same}
use Rattle.rdf_volume.proofs.mount.begin.Goals as goal

pub returns-in_err-reader-clause-keeps : goal.returns-in_err-reader-clause-keeps
returns-in_err-reader-clause-keeps g c = λ tells. keeps_whole SameLogs read_same (g.D.Disk.files c.args.disk.now) (g.D.Disk.files c.open.new.disk) (c.in_err-reader.ensures.keeps tells)

pub returns-in_err-reader-clause-damaged : goal.returns-in_err-reader-clause-damaged
returns-in_err-reader-clause-damaged g c = λ tells f at is.
    let r = err_from_is_err_and c.from_residual.result c.from_residual.ensures.1 in
    c.in_err-reader.ensures.damaged tells f at (passed_on _ _ r.0 _ r.1 r.2 is)

pub returns-clause-keeps : goal.returns-clause-keeps
returns-clause-keeps g c = λ tells. keeps_whole SameLogs read_same (g.D.Disk.files c.args.disk.now) (g.D.Disk.files c.open.new.disk) (c.in_ok-reader.ensures.keeps tells)
