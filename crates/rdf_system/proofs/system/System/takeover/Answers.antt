use Rattle.std.proofs.Common.{refl, sym, ◌∙◌}
use Rattle.backup_node.specs.Lines.{WhereLost}
use Rattle.rdf_system.proofs.CopyLaws.{closed_answers, closed_fails, taken_judged}
use Rattle.rdf_system.proofs.Suiting.{standing_lost}
use Rattle.rdf_system.proofs.SiteValues.{beside}
use Rattle.rdf_system.proofs.system.System.takeover.Goals as goal

pub returns-in-Ok : goal.returns-in-Ok
returns-in-Ok g c = closed_answers c.args.node (λ layout w b. WhereLost c.is_lost-lost.result layout w) refl (λ of. refl) c.requires.serves c.requires.names c.requires.names c.requires.fits (λ t. beside g.D.Disk.files c.args.self.now (c.stands.ensures t) c.nodes_stand.ensures)
    (λ t layout s is. standing_lost g.D.Disk.tells g.D.Disk.files g.D.Disk.counts layout s.primary c.args.self.now.primary c.requires.serves.primary is.primary ∙ sym c.is_lost-lost.ensures)
    c.in-Ok.reply (taken_judged c.args.self.now c.args.node c.requires.serves c.requires.names c.is_lost-lost.result c.is_lost-lost.ensures c.in-Ok.reply c.in-Ok.ensures.judged) c.backup_lifts.ensures c.backup_cut_lifts.ensures c.present_points_go.ensures c.in-Ok.ensures.does

pub returns-in-Err : goal.returns-in-Err
returns-in-Err g c = closed_fails c.args.node (λ layout w b. WhereLost c.is_lost-lost.result layout w) refl (λ of. refl) c.requires.serves c.requires.names c.requires.names c.requires.fits (λ t. beside g.D.Disk.files c.args.self.now (c.stands.ensures t) c.nodes_stand.ensures)
    (λ t layout s is. standing_lost g.D.Disk.tells g.D.Disk.files g.D.Disk.counts layout s.primary c.args.self.now.primary c.requires.serves.primary is.primary ∙ sym c.is_lost-lost.ensures) c.in-Err.fault c.in-Err.ensures.does
