use Rattle.std.proofs.Common.{sym, ap, ◌∙◌}
use Rattle.rdf_backup.specs.Sessions.{open_of}
use Rattle.rdf_system.specs.declared.site.Site.{Site}
use Rattle.rdf_system.proofs.ShownSites.{other_received, own_received}
use Rattle.rdf_system.proofs.open_lines.received_beside.Goals as goal

pub returns-in-Some : goal.returns-in-Some
returns-in-Some g c = other_received c.args.beside.now.lent.value c.args.beside.now.system (open_of c.args.session.now) c.requires.lends c.args.node c.requires.placed c.in-Some.other c.received.result
    (sym (ap (λ (s : Site g.row.D.Denot g.D.Disk). s.node) c.place_of.ensures) ∙ c.in-Some.is) c.received.ensures.up c.received.ensures.at

pub returns-in-None : goal.returns-in-None
returns-in-None g c = own_received c.args.beside.now.lent.value c.args.beside.now.system (open_of c.args.session.now) c.requires.lends c.args.node c.requires.placed c.received-in-None.result
    (sym (ap (λ (s : Site g.row.D.Denot g.D.Disk). s.node) c.place_of.ensures) ∙ c.in-None.is) c.received-in-None.ensures
