use Rattle.std.proofs.Common.{sym, subst}
use Rattle.std.specs.Option.{option_copied}
use Rattle.plan_lang.specs.declared.lines.Line.{Line}
use Rattle.plan_lang.specs.declared.lines.Line.TheVariants as lines
use Rattle.rdf_types.specs.declared.records.Node.{Node}
use Rattle.rdf_backup.specs.Sessions.{open_of}
use Rattle.backup_node.specs.Open.{ByMessage, MeetsTrails}
use Rattle.rdf_system.specs.OpenLines.{MeetsLine}
use Rattle.rdf_system.proofs.open_lines.met_by.Goals as goal

pub returns-in-Deliver-clause-meets : goal.returns-in-Deliver-clause-meets
returns-in-Deliver-clause-meets g c =
    let message = option_copied c.args.message in
    let old = open_of c.args.session.now in
    let new = open_of c.deliver_in.new.session in
    subst (λ (l : Line). MeetsLine g.D.Disk.tells g.D.Disk.files g.D.Disk.counts message l c.deliver_in.result old new) (sym c.in-Deliver.is)
    (λ unmet n serves runs e. subst (λ (m : Node). MeetsTrails g.D.Disk.tells g.D.Disk.files g.D.Disk.counts (ByMessage message) (lines.Deliver m c.in-Deliver.k) c.deliver_in.result n old new) (sym e) (c.deliver_in.ensures.meets unmet n c.in-Deliver.k serves runs))

pub returns-in-Read-clause-meets : goal.returns-in-Read-clause-meets
returns-in-Read-clause-meets g c =
    subst (λ (l : Line). MeetsLine g.D.Disk.tells g.D.Disk.files g.D.Disk.counts (option_copied c.args.message) l c.read_in.result (open_of c.args.session.now) (open_of c.read_in.new.session)) (sym c.in-Read.is)
    (λ unmet n serves runs e. c.read_in.ensures.meets unmet n serves)

pub returns-in-Purge-clause-meets : goal.returns-in-Purge-clause-meets
returns-in-Purge-clause-meets g c =
    let old = open_of c.args.session.now in
    let new = open_of c.purge_in.new.session in
    subst (λ (l : Line). MeetsLine g.D.Disk.tells g.D.Disk.files g.D.Disk.counts (option_copied c.args.message) l c.purge_in.result old new) (sym c.in-Purge.is)
    (λ unmet n serves runs e. c.purge_in.ensures.meets unmet n serves)
