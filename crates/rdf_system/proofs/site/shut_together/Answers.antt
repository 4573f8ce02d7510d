use Rattle.std.proofs.Common.{arith}
use Rattle.node_disks.specs.Cuts.{IsCut}
use Rattle.node_disks.specs.CutLaws.{same_length}
use Rattle.rdf_system.proofs.site.shut_together.Goals as goal

pub together-requires-clause-roomy : goal.together-requires-clause-roomy
together-requires-clause-roomy g c =
    let many = same_length (λ i x y. IsCut g.D.Disk.tells g.D.Disk.files g.D.Disk.counts x y) c.args.own.items c.cut_all.new.disks.items c.cut_all.ensures in
    omega (arith, many, c.requires.many, c.requires.room.roomy)
