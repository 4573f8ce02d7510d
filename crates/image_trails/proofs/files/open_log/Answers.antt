use Rattle.std.proofs.lemmas.Result.{err_from_is_err_and}
use Rattle.rdf_disk.specs.AnswerLaws.{passed_on}
use Rattle.rdf_disk.specs.OutcomeLaws.{looks_narrows}
use Rattle.rdf_gatelog.specs.RestLaws.{narrow_keeps}
use Rattle.image_trails.proofs.FileReads.{open_damaged, not_none}
use Rattle.image_trails.proofs.files.open_log.Goals as goal

pub returns-in_err-len-clause-keeps : goal.returns-in_err-len-clause-keeps
returns-in_err-len-clause-keeps g c = λ tells.
    narrow_keeps (g.D.Disk.files c.args.disk.now) (g.D.Disk.files c.len.new.self) (looks_narrows c.len.result (g.D.Disk.files c.args.disk.now) (g.D.Disk.files c.len.new.self) (c.len.ensures.files tells))

pub returns-then-is_none-clause-keeps : goal.returns-then-is_none-clause-keeps
returns-then-is_none-clause-keeps g c = λ tells.
    narrow_keeps (g.D.Disk.files c.args.disk.now) (g.D.Disk.files c.len.new.self) (looks_narrows c.len.result (g.D.Disk.files c.args.disk.now) (g.D.Disk.files c.len.new.self) (c.len.ensures.files tells))

pub returns-in_err-log-clause-damaged : goal.returns-in_err-log-clause-damaged
returns-in_err-log-clause-damaged g c = λ tells f at is.
    let r = err_from_is_err_and c.from_residual-in_err-log.result c.from_residual-in_err-log.ensures.1 in
    open_damaged (g.D.Disk.files c.args.disk.now) (g.D.Disk.files c.len.new.self) c.args.file f at c.in_ok-len.field-0 (c.in_ok-len.ensures.files tells) (c.in_ok-len.ensures.ok tells)
    (not_none c.in_ok-len.field-0 c.is_none.result c.is_none.ensures c.if-is_none.false) (c.in_err-log.ensures.damaged tells f at (passed_on _ _ r.0 _ r.1 r.2 is))
