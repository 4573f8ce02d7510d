use Rattle.rdf_backup.specs.declared.session.Met.TheVariants as met
use Rattle.rdf_backup.specs.Sessions.{open_of}
use Rattle.backup_node.proofs.OpenLaws.{stays, meets_volume}
use Rattle.backup_node.proofs.opening.read_in.Goals as goal

pub returns-clause-stays : goal.returns-clause-stays
returns-clause-stays g c = stays g.D.Disk.tells g.D.Disk.files g.D.Disk.counts (λ why. met.Volume) (open_of c.args.session.now) (open_of c.read.new.self) c.requires.goes.going c.read.ensures.goes.going c.read.result c.read.ensures.keeps

pub returns-clause-meets : goal.returns-clause-meets
returns-clause-meets g c = λ unmet n serves.
    meets_volume g.D.Disk.tells g.D.Disk.files g.D.Disk.counts n (open_of c.args.session.now) (open_of c.read.new.self) serves unmet c.args.key.now c.read.result c.read.ensures.keeps (λ t trail s fed. c.read.ensures.reads t unmet trail s fed) c.read.ensures.protected (c.read.ensures.judged unmet)
