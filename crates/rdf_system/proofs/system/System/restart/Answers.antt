use Rattle.std.proofs.Common.{refl, sym, ◌∙◌}
use Rattle.rdf_types.specs.declared.records.Node.TheVariants.{A}
use Rattle.plan_lang.specs.declared.lines.Line.TheVariants as line
use Rattle.rdf_system.specs.NodeLines.{site_at}
use Rattle.rdf_system.proofs.OnPrimary.{restart_done, restart_kept, primary_fails}
use Rattle.rdf_system.proofs.SiteValues.{site_longer, site_stands}
use Rattle.rdf_system.proofs.system.System.restart.Goals as goal

pub returns-then-is_number : goal.returns-then-is_number
returns-then-is_number g c = restart_done g.D.Disk.tells g.D.Disk.files g.D.Disk.counts c.args.self.now c.requires.serves (λ t node. site_longer g.D.Disk.files c.nodes_go_on.ensures (site_at c.args.self.now node)) (λ t node. site_stands g.D.Disk.files c.nodes_stand.ensures (site_at c.args.self.now node)) c.longer.ensures
    c.requires.fits c.restart_of.new.primary c.in-Ok.reply c.in-Ok.ensures c.restart_lifts.ensures.done (sym c.is_number.ensures ∙ c.if-is_number.true) c.forget.new.self c.forget.ensures

pub returns-else-is_number : goal.returns-else-is_number
returns-else-is_number g c = restart_kept g.D.Disk.tells g.D.Disk.files g.D.Disk.counts c.args.self.now c.requires.serves (λ t node. site_longer g.D.Disk.files c.nodes_go_on.ensures (site_at c.args.self.now node)) (λ t node. site_stands g.D.Disk.files c.nodes_stand.ensures (site_at c.args.self.now node)) c.longer.ensures
    c.requires.fits c.restart_of.new.primary c.in-Ok.reply c.in-Ok.ensures c.restart_lifts.ensures.refused c.restart_lifts.ensures.cut (sym c.is_number.ensures ∙ c.if-is_number.false)

pub returns-in-Err : goal.returns-in-Err
returns-in-Err g c = primary_fails g.D.Disk.tells g.D.Disk.files g.D.Disk.counts c.args.self.now c.requires.serves (λ t node. site_longer g.D.Disk.files c.nodes_go_on.ensures (site_at c.args.self.now node)) (λ t node. site_stands g.D.Disk.files c.nodes_stand.ensures (site_at c.args.self.now node)) c.longer.ensures
    (line.Restart A) refl c.restart_of.new.primary c.in-Err.fault c.in-Err.ensures
