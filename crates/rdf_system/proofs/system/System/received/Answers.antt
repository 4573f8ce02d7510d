use Rattle.std.proofs.Common.{is_some, sym, ap, ◌∙◌, subst}
use Rattle.by_node.specs.Each.{at}
use Rattle.rdf_system.specs.declared.site.Site.{Site}
use Rattle.rdf_system.specs.Moves.{phase_in}
use Rattle.rdf_system.specs.NodeLines.{HasNode}
use Rattle.rdf_system.specs.States.{IsAtSite}
use Rattle.rdf_system.proofs.SiteLaws.{there_at}
use Rattle.rdf_system.proofs.system.System.received.Goals as goal

pub received-requires : goal.received-requires
received-requires g c = record {
  there = subst (λ (x : Site g.row.D.Denot g.D.Disk). HasNode (λ n. Unit {0}) x) (sym c.get.ensures)
      (there_at g.D.Disk.tells g.D.Disk.files g.D.Disk.counts c.args.self.now c.requires.serves c.args.node c.requires.placed);
}

pub returns : goal.returns
returns g c = record {
  up = c.received.ensures.up ∙ ap (λ (x : Site g.row.D.Denot g.D.Disk). is_some (phase_in x.node)) c.get.ensures;
  so_far = λ t layout s is. c.received.ensures.at t layout s.primary.trail (at s.backups c.args.node)
      (subst (λ (x : Site g.row.D.Denot g.D.Disk). IsAtSite g.D.Disk.files layout s.primary.trail (at s.backups c.args.node) x) (sym c.get.ensures) (is.sites c.args.node));
}
