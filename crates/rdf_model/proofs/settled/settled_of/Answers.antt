use Rattle.rdf_model.specs.Contents.{held}
use Rattle.rdf_model.specs.Settled.{has}
use Rattle.rdf_model.proofs.SetBack.{settles}
use Rattle.rdf_model.proofs.settled.settled_of.Goals as goal

pub returns : goal.returns
returns c =
    let base = held c.args.base.now in
    let trail = c.args.trail.now in
    settles base (held c.in_ok-files.files) (held c.set_all_back.new.files) trail (has c.in_ok-ended.ended)
    (λ q. c.settling.ensures base trail q c.requires) c.in_ok-files.ensures c.in_ok-ended.ensures c.in_ok-set_all_back.ensures
