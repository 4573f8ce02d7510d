use Rattle.std.proofs.Common.{◌≡◌, true, sym, subst}
use Rattle.plan_lang.specs.declared.lines.Line.{Line}
use Rattle.plan_lang.specs.Sessions.{fits_session}
use Rattle.rdf_system.specs.Lines.{Does}
use Rattle.rdf_system.specs.Sessions.{node_of}
use Rattle.rdf_system.proofs.SiteLaws.{read_fits}
use Rattle.rdf_system.proofs.system.System.done.Goals as goal

pub read-requires-clause-open : goal.read-requires-clause-open
read-requires-clause-open g c = read_fits (node_of c.args.self.now.session) c.in-Read.node c.in-Read.key (subst (λ (x : Line). fits_session (node_of c.args.self.now.session) x ≡ true) c.in-Read.is c.requires.fits)

pub returns-in-Read : goal.returns-in-Read
returns-in-Read g c = subst (λ (x : Line). Does g.D.Disk.tells g.D.Disk.files g.D.Disk.counts x c.read.result c.args.self.now c.read.new.self) (sym c.in-Read.is) (c.read.ensures c.in-Read.key)
