use Rattle.std.proofs.Common.{rules}
use Rattle.tmf_core.specs.States.{tmf_trail}
use Rattle.tmf_core.proofs.TmfLaws.{runs_with, wrote, wrote_not}
use Rattle.tmf_core.proofs.EndLaws.{may_end, abort_adds}
use Rattle.tmf_core.proofs.tmf.Tmf.undo.Goals as goal

pub returns-in_err-back_out : goal.returns-in_err-back_out
returns-in_err-back_out g c = wrote_not c.from_residual.ensures.0 (λ tells. c.in_err-back_out.ensures.err tells _ (abort_adds (tmf_trail c.args.self.now) c.args.txn)) (search rules) (search rules) (search rules)

pub returns : goal.returns
returns g c = wrote (λ tells.
    let old = c.requires.runs tells in
    let done = c.in_ok-back_out.ensures.ok tells in
    runs_with g.D.Disk.files _ _ _ done.1 done.0 (c.abort_runs.ensures _ _ c.args.txn old.running) (c.end.ensures.abort _ _ old.tells old.running (may_end c.args.self.now c.args.txn (c.requires.active tells)))) (search rules) (search rules) (search rules)
