use Rattle.rdf_system.proofs.SiteValues.{beside_does}
use Rattle.rdf_system.proofs.system.System.on_primary.Goals as goal

pub returns : goal.returns
returns g c = beside_does c.at_primary.ensures tt c.requires.may.serves c.requires.may.names c.requires.may.fits
