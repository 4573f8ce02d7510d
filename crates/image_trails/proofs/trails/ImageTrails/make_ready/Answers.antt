use Rattle.std.proofs.Common.{◌≡◌, Bool, true, if◌then◌else◌, OnErr, subst, sym, ◌∙◌}
use Rattle.rdf_disk.specs.Outcomes.{Durably}
use Rattle.image_disks.specs.Spelled.{block_of}
use Rattle.image_disks.specs.Values.{rolls, rolled}
use Rattle.image_disks.specs.Standing.{StandsEither}
use Rattle.image_trails.specs.Memory.{plan_in, value_in}
use Rattle.image_trails.proofs.trails.ImageTrails.make_ready.Goals as goal

pub returns-clause-err : goal.returns-clause-err
returns-clause-err g c = λ tells.
    let m = c.args.self.now.memory in
    let v = value_in m in
    let full : rolls (plan_in m) v ≡ true = sym c.is_full.ensures ∙ c.if-not-is_full.false in
    subst (λ (b : Bool). OnErr c.roll.result (Durably (g.D.Disk.files c.roll.new.self.disk) (StandsEither block_of (plan_in m) v (if b then rolled v else v)))) (sym full) (c.roll.ensures.err tells)
