use Rattle.rdf_system.proofs.SiteValues.{beside_does}
use Rattle.rdf_system.proofs.system.System.ack.Goals as goal

pub returns : goal.returns
returns g c = beside_does c.acked.ensures c.received-received.ensures c.requires.serves c.requires.names c.requires.fits
