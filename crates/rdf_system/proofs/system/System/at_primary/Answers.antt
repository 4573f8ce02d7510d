use Rattle.std.proofs.Common.{refl}
use Rattle.by_node.specs.Each.{at}
use Rattle.rdf_system.specs.NodeLines.{with_sites}
use Rattle.rdf_system.proofs.NearLines.{on_of}
use Rattle.rdf_system.proofs.OnPrimary.{primary_answers, primary_fails}
use Rattle.rdf_system.proofs.SiteValues.{site_stands, site_longer}
use Rattle.rdf_system.proofs.system.System.at_primary.Goals as goal

pub returns-in-Ok : goal.returns-in-Ok
returns-in-Ok g c = record {
  rest = refl;
  serves = λ was. c.in-Ok.ensures.does.serves;
  own = tt;
  does = λ sites holds serves names fits. primary_answers g.D.Disk.tells g.D.Disk.files g.D.Disk.counts (with_sites c.args.self.now sites) serves
      (λ t node. site_longer g.D.Disk.files c.nodes_go_on.ensures (at sites node)) (λ t node. site_stands g.D.Disk.files c.nodes_stand.ensures (at sites node)) c.longer.ensures
      c.args.line.now (on_of c.args.line.now c.requires.own) c.line_on.new.primary c.in-Ok.reply c.in-Ok.ensures names fits c.primary_lifts.ensures c.requires.own;
}

pub returns-in-Err : goal.returns-in-Err
returns-in-Err g c = record {
  rest = refl;
  serves = λ was. c.in-Err.ensures.does.serves;
  own = refl;
  does = λ sites holds serves names fits. primary_fails g.D.Disk.tells g.D.Disk.files g.D.Disk.counts (with_sites c.args.self.now sites) serves
      (λ t node. site_longer g.D.Disk.files c.nodes_go_on.ensures (at sites node)) (λ t node. site_stands g.D.Disk.files c.nodes_stand.ensures (at sites node)) c.longer.ensures
      c.args.line.now (on_of c.args.line.now c.requires.own) c.line_on.new.primary c.in-Err.fault c.in-Err.ensures;
}
