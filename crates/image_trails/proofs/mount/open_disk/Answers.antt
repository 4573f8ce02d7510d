use Rattle.std.proofs.Common.{inr, refl, ap}
use Rattle.std.proofs.lemmas.Result.{err_from_is_err_and}
use Rattle.rdf_disk.specs.AnswerLaws.{passed_on}
use Rattle.rdf_disk.specs.Outcomes.{seen_of}
use Rattle.image_trails.specs.DiskFiles.{logs_of}
use Rattle.image_trails.specs.Memory.{plan_of}
use Rattle.image_trails.proofs.PrunedDisks.{are_within, is_lowest, keeps_values, keeps_values_trans, keeps_pruned, rests_pruned, opened_in_use, value_stands}
use Rattle.image_trails.proofs.mount.open_disk.Goals as goal

pub returns-in_err-memory-clause-damaged : goal.returns-in_err-memory-clause-damaged
returns-in_err-memory-clause-damaged g c = λ tells f at is.
    let r = err_from_is_err_and c.from_residual-in_err-memory.result c.from_residual-in_err-memory.ensures.1 in
    let o = c.in_ok-opened.ensures in
    let opened = c.in_ok-opened.opened in
    let logs = logs_of opened.files in
    inr (
      logs,
      o.reads tells,
      c.in_err-memory.ensures.damaged (are_within logs opened.low opened.above opened.files.base o.base (o.within tells))
          (is_lowest logs (g.D.Disk.files c.args.disk.now) opened.low opened.above (o.span tells) (o.reads tells)) f at (passed_on _ _ r.0 _ r.1 r.2 is),
    )

pub returns-in_err-drop_rest-clause-keeps : goal.returns-in_err-drop_rest-clause-keeps
returns-in_err-drop_rest-clause-keeps g c = λ tells.
    let plan = plan_of c.args.layout.now in
    let o = c.in_ok-opened.ensures in
    let opened = c.in_ok-opened.opened in
    let logs = logs_of opened.files in
    let old = g.D.Disk.files c.args.disk.now in
    let mid = g.D.Disk.files c.open_files.new.disk in
    let new = g.D.Disk.files c.drop_rest.new.disk in
    keeps_values_trans plan old mid new (keeps_values plan old mid (o.keeps tells)) (keeps_pruned plan logs mid new refl (o.rests tells) (c.in_err-drop_rest.ensures.err tells (o.within tells) (o.rests tells)))

pub returns-clause-ok : goal.returns-clause-ok
returns-clause-ok g c = λ tells.
    let plan = plan_of c.args.layout.now in
    let o = c.in_ok-opened.ensures in
    let opened = c.in_ok-opened.opened in
    let logs = logs_of opened.files in
    let m = c.in_ok-memory.memory in
    opened_in_use plan logs opened.above m (g.D.Disk.files c.drop_rest.new.disk) (ap plan_of c.in_ok-memory.ensures.layout) refl (λ k far. o.within tells k (inr far))
    (c.in_ok-memory.ensures.ok (are_within logs opened.low opened.above opened.files.base o.base (o.within tells)))
    (c.in_ok-drop_rest.ensures.ok tells (o.within tells) (o.rests tells))

pub returns-clause-value : goal.returns-clause-value
returns-clause-value g c = λ tells.
    let o = c.in_ok-opened.ensures in
    let opened = c.in_ok-opened.opened in
    let logs = logs_of opened.files in
    value_stands (plan_of c.args.layout.now) logs (seen_of (g.D.Disk.files c.args.disk.now)) c.in_ok-memory.memory (o.reads tells)
    (c.in_ok-memory.ensures.ok (are_within logs opened.low opened.above opened.files.base o.base (o.within tells)))

pub returns-clause-keeps : goal.returns-clause-keeps
returns-clause-keeps g c = λ tells.
    let plan = plan_of c.args.layout.now in
    let o = c.in_ok-opened.ensures in
    let opened = c.in_ok-opened.opened in
    let logs = logs_of opened.files in
    let mid = g.D.Disk.files c.open_files.new.disk in
    let new = g.D.Disk.files c.drop_rest.new.disk in
    keeps_values_trans plan (g.D.Disk.files c.args.disk.now) mid new (keeps_values plan (g.D.Disk.files c.args.disk.now) mid (o.keeps tells))
    (keeps_pruned plan logs mid new refl (o.rests tells) (rests_pruned plan logs opened.above new (c.in_ok-drop_rest.ensures.ok tells (o.within tells) (o.rests tells))))
