use Rattle.std.proofs.Common.{◌-◌, not, arith}
use Rattle.rdf_model.specs.Contents.{held}
use Rattle.rdf_model.specs.Settled.{has}
use Rattle.rdf_model.proofs.SetBack.{back_turn}
use Rattle.rdf_model.proofs.settled.set_all_back.Goals as goal

pub loop-left-preserved : goal.loop-left-preserved
loop-left-preserved c =
    let left = c.loop-left.left in
    let some = c.loop-left-test.true in
    let within = c.loop-left.invariant.within in
    record {
      within = omega (arith, within);
      back = λ q. back_turn (λ t. not (has c.args.ended.now t)) q c.args.trail.now left (left - 1) c.index-trail-left.result (held c.args.files.now) (held c.loop-left.files) (held c.set_one_back.new.files)
          (omega (arith, some)) (omega (arith, some, within)) c.index-trail-left.is (c.loop-left.invariant.back q) c.in_ok-set_one_back.ensures;
    }
