use Rattle.std.proofs.Common.{refl}
use Rattle.rdf_system.specs.NodeLines.{FromSite, site_at}
use Rattle.rdf_system.proofs.CopyLaws.{closed_answers, closed_fails, copied_judged}
use Rattle.rdf_system.proofs.SiteLaws.{copy_placed, was_placed}
use Rattle.rdf_system.proofs.SiteValues.{beside}
use Rattle.rdf_system.proofs.system.System.copy.Goals as goal

pub returns-in-Ok : goal.returns-in-Ok
returns-in-Ok g c =
    let old = c.args.self.now in
    let placed = copy_placed old.layout c.args.node c.args.from c.requires.names in
    closed_answers c.args.node (λ layout w b. FromSite g.D.Disk.files (site_at old c.args.from) layout w) refl (λ of. refl) c.requires.serves placed.0 c.requires.names c.requires.fits (λ t. beside g.D.Disk.files c.args.self.now (c.stands.ensures t) c.nodes_stand.ensures)
    (λ t. was_placed g.D.Disk.tells g.D.Disk.files g.D.Disk.counts old c.requires.serves c.args.from placed.1) c.in-Ok.reply (copied_judged old c.args.node c.args.from c.in-Ok.reply c.in-Ok.ensures.judged) c.backup_lifts.ensures c.backup_cut_lifts.ensures c.present_points_go.ensures c.in-Ok.ensures.does

pub returns-in-Err : goal.returns-in-Err
returns-in-Err g c =
    let old = c.args.self.now in
    let placed = copy_placed old.layout c.args.node c.args.from c.requires.names in
    closed_fails c.args.node (λ layout w b. FromSite g.D.Disk.files (site_at old c.args.from) layout w) refl (λ of. refl) c.requires.serves placed.0 c.requires.names c.requires.fits (λ t. beside g.D.Disk.files c.args.self.now (c.stands.ensures t) c.nodes_stand.ensures)
    (λ t. was_placed g.D.Disk.tells g.D.Disk.files g.D.Disk.counts old c.requires.serves c.args.from placed.1) c.in-Err.fault c.in-Err.ensures.does
