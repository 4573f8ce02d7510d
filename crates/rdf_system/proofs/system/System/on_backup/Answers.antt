use Rattle.std.proofs.Common.{◌≡◌, Ok, Err, sym, ap, ◌∙◌, subst}
use Rattle.rdf_system.specs.declared.session.SessionState.{SessionState}
use Rattle.rdf_system.specs.declared.system.System.{System}
use Rattle.rdf_system.specs.Lines.{Does}
use Rattle.rdf_system.specs.NodeLines.{site_at, with_site}
use Rattle.rdf_system.specs.Noting.{behind}
use Rattle.rdf_system.proofs.BackupLines.{line_answers, line_fails}
use Rattle.rdf_system.proofs.OnSite.{rest_noted, rest_session}
use Rattle.rdf_system.proofs.SiteValues.{beside}
use Rattle.rdf_system.proofs.system.System.on_backup.Goals as goal

pub returns-in-Ok : goal.returns-in-Ok
returns-in-Ok g c =
    let old = c.args.self.now in
    let new = c.asked.new.self in
    let a = c.in-Ok.ensures in
    let session : c.session_behind-self.result ≡ behind old.session c.args.line.now c.in-Ok.reply = c.session_behind-self.ensures ∙ ap (λ (x : SessionState). behind x c.args.line.now c.in-Ok.reply) (rest_session c.args.node old new a.at.rest) in
    subst (λ (x : System g.row.D.Denot g.D.Disk). Does g.D.Disk.tells g.D.Disk.files g.D.Disk.counts c.args.line.now (Ok c.in-Ok.reply) old x) (rest_noted c.args.node old new c.session_behind-self.result a.at.rest)
    (subst (λ (x : SessionState). Does g.D.Disk.tells g.D.Disk.files g.D.Disk.counts c.args.line.now (Ok c.in-Ok.reply) old (with_site old c.args.node (site_at new c.args.node) x)) (sym session)
    (line_answers c.args.node (site_at new c.args.node) a.message c.requires.may.serves c.requires.placed (λ t. beside g.D.Disk.files c.args.self.now (c.stands.ensures t) c.nodes_stand.ensures)
    c.backup_lifts.ensures c.backup_cut_lifts.ensures c.present_points_go.ensures
    c.in-Ok.reply c.args.line.now c.requires.own c.requires.may.names c.requires.may.fits a.suits a.at.does))

pub returns-in-Err : goal.returns-in-Err
returns-in-Err g c =
    let old = c.args.self.now in
    let new = c.asked.new.self in
    let a = c.in-Err.ensures in
    let back : with_site old c.args.node (site_at new c.args.node) old.session ≡ new = sym a.at.rest in
    subst (λ (x : System g.row.D.Denot g.D.Disk). Does g.D.Disk.tells g.D.Disk.files g.D.Disk.counts c.args.line.now (Err (record { node = c.args.node; fault = c.in-Err.fault })) old x) back
    (line_fails c.args.node (site_at new c.args.node) a.message c.requires.may.serves c.requires.placed (λ t. beside g.D.Disk.files c.args.self.now (c.stands.ensures t) c.nodes_stand.ensures)
    c.in-Err.fault c.args.line.now c.requires.own c.requires.may.names c.requires.may.fits a.suits a.at.does)
