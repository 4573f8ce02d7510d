use Rattle.std.proofs.Common.{Ok, Err, refl, sym, subst}
use Rattle.plan_lang.specs.declared.lines.Line.{Line}
use Rattle.rdf_backup.specs.Sessions.{open_of}
use Rattle.backup_node.specs.declared.node.BackupNode.{BackupNode}
use Rattle.rdf_system.specs.declared.opened.Broken.TheVariants as broken
use Rattle.rdf_system.specs.OpenLines.{IsOwnLine, KeepsLent, OpenDoes}
use Rattle.rdf_system.specs.Opened.{view_of}
use Rattle.rdf_system.proofs.OpenKinds.{side_of}
use Rattle.rdf_system.proofs.OpenSide.{keeps_lent, does_open, still_open, feeds_on}
use Rattle.rdf_system.proofs.open_lines.open_line.Goals as goal

pub returns-in-Ok-clause-keeps : goal.returns-in-Ok-clause-keeps
returns-in-Ok-clause-keeps g c =
    let x = view_of (open_of c.args.session.now) c.args.beside.now in
    subst (λ (n : BackupNode g.row.D.Denot g.D.Disk). KeepsLent g.D.Disk.tells g.D.Disk.files g.D.Disk.counts x (record { session = x.session; node = n; system = c.side_line.new.beside.system })) (sym c.in-Ok.ensures.lent) (keeps_lent x c.in-Ok.ensures.does c.requires.lends)

pub returns-in-Err-clause-keeps : goal.returns-in-Err-clause-keeps
returns-in-Err-clause-keeps g c =
    let x = view_of (open_of c.args.session.now) c.args.beside.now in
    subst (λ (n : BackupNode g.row.D.Denot g.D.Disk). KeepsLent g.D.Disk.tells g.D.Disk.files g.D.Disk.counts x (record { session = x.session; node = n; system = c.side_line.new.beside.system })) (sym c.in-Err.ensures.lent) (keeps_lent x c.in-Err.ensures.does c.requires.lends)

pub returns-in-Err-clause-does : goal.returns-in-Err-clause-does
returns-in-Err-clause-does g c = λ unmet is_open.
    let x = view_of (open_of c.args.session.now) c.args.beside.now in
    let h = c.in-Err.ensures.does in
    subst (λ (n : BackupNode g.row.D.Denot g.D.Disk). OpenDoes g.D.Disk.tells g.D.Disk.files g.D.Disk.counts c.args.line.now (Err (broken.Line c.in-Err.fault)) x (record { session = x.session; node = n; system = c.side_line.new.beside.system })) (sym c.in-Err.ensures.lent)
    (record { ends = record { does = does_open x h is_open c.requires.fits; side = side_of c.args.beside.now.lent.value.name c.args.line.now c.requires.fits.fits c.requires.fits.unended (λ node k e. c.in_default.not-Deliver node k e) (λ node key e. c.in_default.not-Read node key e) (λ node e. c.in_default.not-Purge node e); node_is = h.own; still = refl }; still_open = still_open x h is_open c.requires.fits })

pub returns-in-Ok-clause-does : goal.returns-in-Ok-clause-does
returns-in-Ok-clause-does g c = λ unmet is_open.
    let x = view_of (open_of c.args.session.now) c.args.beside.now in
    let h = c.in-Ok.ensures.does in
    subst (λ (n : BackupNode g.row.D.Denot g.D.Disk). OpenDoes g.D.Disk.tells g.D.Disk.files g.D.Disk.counts c.args.line.now (Ok c.in-Ok.reply) x (record { session = x.session; node = n; system = c.side_line.new.beside.system })) (sym c.in-Ok.ensures.lent)
    (record { ends = record { does = does_open x h is_open c.requires.fits; feeds = λ t. feeds_on x h is_open c.requires.fits c.sessions_go_on.ensures c.in-Ok.reply; unmet = unmet }; still_open = still_open x h is_open c.requires.fits })

pub own_line-requires-clause-own : goal.own_line-requires-clause-own
own_line-requires-clause-own g c = subst (λ (l : Line). IsOwnLine l) (sym c.in-Deliver.is) tt

pub own_line-requires-in-Read-clause-own : goal.own_line-requires-in-Read-clause-own
own_line-requires-in-Read-clause-own g c = subst (λ (l : Line). IsOwnLine l) (sym c.in-Read.is) tt

pub own_line-requires-in-Purge-clause-own : goal.own_line-requires-in-Purge-clause-own
own_line-requires-in-Purge-clause-own g c = subst (λ (l : Line). IsOwnLine l) (sym c.in-Purge.is) tt

pub side_line-requires-clause-side : goal.side_line-requires-clause-side
side_line-requires-clause-side g c = side_of c.args.beside.now.lent.value.name c.args.line.now c.requires.fits.fits c.requires.fits.unended (λ node k e. c.in_default.not-Deliver node k e) (λ node key e. c.in_default.not-Read node key e) (λ node e. c.in_default.not-Purge node e)
