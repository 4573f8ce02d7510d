use Rattle.rdf_backup.specs.declared.session.Met.TheVariants as met
use Rattle.rdf_backup.specs.Sessions.{open_of}
use Rattle.backup_node.proofs.OpenLaws.{stays}
use Rattle.backup_node.proofs.OpenPurges.{stays_risen, meets_purge}
use Rattle.backup_node.proofs.opening.purge_in.Goals as goal

pub returns-clause-stays : goal.returns-clause-stays
returns-clause-stays g c =
    let p = c.purge.ensures.purges in
    stays_risen g.D.Disk.tells g.D.Disk.files g.D.Disk.counts (open_of c.args.session.now) p.mid p.rises c.purge.result (open_of c.purge.new.self)
    (stays g.D.Disk.tells g.D.Disk.files g.D.Disk.counts (λ why. met.Trails why) p.mid (open_of c.purge.new.self) p.going c.purge.ensures.goes.going c.purge.result p.keeps)

pub returns-clause-meets : goal.returns-clause-meets
returns-clause-meets g c = λ unmet n serves.
    let p = c.purge.ensures.purges in
    meets_purge g.D.Disk.tells g.D.Disk.files g.D.Disk.counts (open_of c.args.session.now) p.mid p.rises n (open_of c.purge.new.self) unmet serves c.purge.result p.keeps p.ends p.judged
