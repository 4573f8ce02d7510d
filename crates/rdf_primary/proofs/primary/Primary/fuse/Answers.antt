use Rattle.rdf_primary.proofs.Breaking.{fused_volumes}
use Rattle.rdf_primary.specs.StandingLaws.{running_stands}
use Rattle.rdf_primary.proofs.primary.Primary.fuse.Goals as goal

pub returns-clause-sized : goal.returns-clause-sized
returns-clause-sized g c = fused_volumes g.D.Disk.counts c.args.disk c.args.self.now.tmf.store c.fuse.new.self.store c.fuse.ensures.counts

pub returns-clause-stands : goal.returns-clause-stands
returns-clause-stands g c = λ tells. running_stands g.D.Disk.files (record { tmf = c.fuse.new.self }) (c.fuse.ensures.runs tells).runs
