use Rattle.std.proofs.Common.{sym, ◌∙◌}
use Rattle.std.proofs.lemmas.Result.{on_ok_weaker, on_err_weaker}
use Rattle.image_trails.specs.DiskFiles.{logs_of}
use Rattle.image_trails.specs.Memory.{plan_of}
use Rattle.image_trails.proofs.PrunedDisks.{prune_one, prune_err}
use Rattle.image_trails.proofs.pruning.drop_unneeded.Goals as goal

pub returns-clause-ok : goal.returns-clause-ok
returns-clause-ok g c = λ tells. on_ok_weaker c.discard.result
    (λ drops. prune_one (plan_of c.args.layout.now) (logs_of c.args.files.now) c.args.file (g.D.Disk.files c.args.disk.now) (g.D.Disk.files c.discard.new.disk) (sym c.is_kept.ensures ∙ c.if-is_kept.false) drops)
    (c.discard.ensures.ok tells)

pub returns-clause-err : goal.returns-clause-err
returns-clause-err g c = λ tells. on_err_weaker c.discard.result
    (λ drops. prune_err (plan_of c.args.layout.now) (logs_of c.args.files.now) c.args.file (g.D.Disk.files c.args.disk.now) (g.D.Disk.files c.discard.new.disk) (sym c.is_kept.ensures ∙ c.if-is_kept.false) drops)
    (c.discard.ensures.err tells)
