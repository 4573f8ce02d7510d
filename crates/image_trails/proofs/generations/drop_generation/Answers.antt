use Rattle.rdf_disk.specs.Outcomes.{Durably}
use Rattle.rdf_disk.specs.AnswerLaws.{on_err}
use Rattle.rdf_gatelog.specs.Logs.{Logs, Rests, ReadsEither}
use Rattle.image_trails.specs.Generations.{dropped_files, without_trail}
use Rattle.image_trails.specs.Memory.{plan_of}
use Rattle.image_trails.proofs.Generating.{d0, d1, d2, Kept, kept_all, kept_0, kept_1, kept_2, kept_3, on_err_map, on_ok_map}
use Rattle.image_trails.proofs.generations.drop_generation.Goals as goal

pub returns-in_err-settle-clause-err : goal.returns-in_err-settle-clause-err
returns-in_err-settle-clause-err g c = λ tells.
    let plan = plan_of c.args.layout.now in
    let m = c.args.master in
    let s0 = g.D.Disk.files c.args.disk.now in
    on_err c.from_residual.result _ (λ logs rests. kept_all plan m logs (g.D.Disk.files c.settle.new.disk) (c.in_err-settle.ensures.err tells logs rests))

pub returns-in_err-discard-clause-err : goal.returns-in_err-discard-clause-err
returns-in_err-discard-clause-err g c = λ tells.
    let plan = plan_of c.args.layout.now in
    let m = c.args.master in
    let s0 = g.D.Disk.files c.args.disk.now in
    on_err c.from_residual-in_err-discard.result _ (λ logs rests. kept_0 plan m logs (g.D.Disk.files c.discard.new.disk) (c.in_err-discard.ensures.err tells logs (c.in_ok-settle.ensures.ok tells logs rests)))

pub returns-in_err-drop_trail-clause-err : goal.returns-in_err-drop_trail-clause-err
returns-in_err-drop_trail-clause-err g c = λ tells.
    let plan = plan_of c.args.layout.now in
    let m = c.args.master in
    let s0 = g.D.Disk.files c.args.disk.now in
    let rests0 = λ (logs : Logs) (rests : Rests logs s0). c.in_ok-discard.ensures.ok tells logs (c.in_ok-settle.ensures.ok tells logs rests) in
    on_err c.from_residual-in_err-drop_trail.result _ (λ logs rests. kept_1 plan m logs (g.D.Disk.files c.drop_trail.new.disk) (c.in_err-drop_trail.ensures.err tells (d0 plan m logs) (rests0 logs rests)))

pub returns-in_err-drop_trail-2-clause-err : goal.returns-in_err-drop_trail-2-clause-err
returns-in_err-drop_trail-2-clause-err g c = λ tells.
    let plan = plan_of c.args.layout.now in
    let m = c.args.master in
    let s0 = g.D.Disk.files c.args.disk.now in
    let rests0 = λ (logs : Logs) (rests : Rests logs s0). c.in_ok-discard.ensures.ok tells logs (c.in_ok-settle.ensures.ok tells logs rests) in
    let rests1 = λ (logs : Logs) (rests : Rests logs s0). c.in_ok-drop_trail.ensures.ok tells (d0 plan m logs) (rests0 logs rests) in
    on_err c.from_residual-in_err-drop_trail-2.result _ (λ logs rests. kept_2 plan m logs (g.D.Disk.files c.drop_trail-2.new.disk) (c.in_err-drop_trail-2.ensures.err tells (d1 plan m logs) (rests1 logs rests)))

pub returns-clause-ok : goal.returns-clause-ok
returns-clause-ok g c = λ tells.
    let plan = plan_of c.args.layout.now in
    let m = c.args.master in
    let s0 = g.D.Disk.files c.args.disk.now in
    let rests0 = λ (logs : Logs) (rests : Rests logs s0). c.in_ok-discard.ensures.ok tells logs (c.in_ok-settle.ensures.ok tells logs rests) in
    let rests1 = λ (logs : Logs) (rests : Rests logs s0). c.in_ok-drop_trail.ensures.ok tells (d0 plan m logs) (rests0 logs rests) in
    let rests2 = λ (logs : Logs) (rests : Rests logs s0). c.in_ok-drop_trail-2.ensures.ok tells (d1 plan m logs) (rests1 logs rests) in
    on_ok_map c.drop_trail-3.result ((logs : Logs) → Rests logs (g.D.Disk.files c.drop_trail-2.new.disk) → Rests (without_trail plan m 3 logs) (g.D.Disk.files c.drop_trail-3.new.disk)) ((logs : Logs) → Rests logs s0 → Rests (dropped_files plan m logs) (g.D.Disk.files c.drop_trail-3.new.disk))
    (λ answers logs rests. answers (d2 plan m logs) (rests2 logs rests)) (c.drop_trail-3.ensures.ok tells)

pub returns-clause-err : goal.returns-clause-err
returns-clause-err g c = λ tells.
    let plan = plan_of c.args.layout.now in
    let m = c.args.master in
    let s0 = g.D.Disk.files c.args.disk.now in
    let rests0 = λ (logs : Logs) (rests : Rests logs s0). c.in_ok-discard.ensures.ok tells logs (c.in_ok-settle.ensures.ok tells logs rests) in
    let rests1 = λ (logs : Logs) (rests : Rests logs s0). c.in_ok-drop_trail.ensures.ok tells (d0 plan m logs) (rests0 logs rests) in
    let rests2 = λ (logs : Logs) (rests : Rests logs s0). c.in_ok-drop_trail-2.ensures.ok tells (d1 plan m logs) (rests1 logs rests) in
    let new = g.D.Disk.files c.drop_trail-3.new.disk in
    on_err_map c.drop_trail-3.result ((logs : Logs) → Rests logs (g.D.Disk.files c.drop_trail-2.new.disk) → Durably new (ReadsEither logs (without_trail plan m 3 logs))) ((logs : Logs) → Rests logs s0 → Durably new (Kept plan m logs))
    (λ answers logs rests. kept_3 plan m logs new (answers (d2 plan m logs) (rests2 logs rests))) (c.drop_trail-3.ensures.err tells)
