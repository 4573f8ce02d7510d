use Rattle.rdf_system.proofs.SiteValues.{beside_does}
use Rattle.rdf_system.proofs.system.System.send.Goals as goal

pub returns : goal.returns
returns g c = beside_does c.sent.ensures tt c.requires.serves c.requires.names c.requires.fits
