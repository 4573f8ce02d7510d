use Rattle.std.proofs.lemmas.Result.{err_from_is_err_and}
use Rattle.rdf_disk.specs.AnswerLaws.{passed_on}
use Rattle.rdf_disk.specs.OutcomeLaws.{looks_narrows}
use Rattle.rdf_gatelog.specs.RestLaws.{narrow_keeps, keeps_trans}
use Rattle.image_trails.proofs.PrunedDisks.{seen_back}
use Rattle.image_trails.proofs.mount.open_files.Goals as goal

pub returns-in_err-settle-clause-keeps : goal.returns-in_err-settle-clause-keeps
returns-in_err-settle-clause-keeps g c = λ tells. narrow_keeps (g.D.Disk.files c.args.disk.now) (g.D.Disk.files c.settle.new.disk) (c.settle.ensures.narrows tells)

pub returns-in_err-low-clause-keeps : goal.returns-in_err-low-clause-keeps
returns-in_err-low-clause-keeps g c = λ tells.
    keeps_trans (g.D.Disk.files c.args.disk.now) (g.D.Disk.files c.settle.new.disk) (g.D.Disk.files c.span.new.self)
    (narrow_keeps (g.D.Disk.files c.args.disk.now) (g.D.Disk.files c.settle.new.disk) (c.settle.ensures.narrows tells))
    (narrow_keeps (g.D.Disk.files c.settle.new.disk) (g.D.Disk.files c.span.new.self) (looks_narrows c.span.result (g.D.Disk.files c.settle.new.disk) (g.D.Disk.files c.span.new.self) (c.span.ensures.files tells)))

pub returns-in_err-files-clause-damaged : goal.returns-in_err-files-clause-damaged
returns-in_err-files-clause-damaged g c = λ tells f at is.
    let r = err_from_is_err_and c.from_residual-in_err-files.result c.from_residual-in_err-files.ensures.1 in
    seen_back (g.D.Disk.files c.args.disk.now) (g.D.Disk.files c.settle.new.disk) (g.D.Disk.files c.span.new.self) f at (c.in_ok-settle.ensures.safe tells) (c.in_ok-low.ensures.files tells)
    (c.in_err-files.ensures.damaged tells f at (passed_on _ _ r.0 _ r.1 r.2 is))
