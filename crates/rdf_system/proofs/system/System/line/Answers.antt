use Rattle.rdf_system.proofs.Following.{stood_on}
use Rattle.rdf_system.proofs.system.System.line.Goals as goal

pub returns-clause-stood : goal.returns-clause-stood
returns-clause-stood g c = λ t. stood_on g.D.Disk.files c.args.line.now c.args.self.now c.done.new.self c.done.ensures.laid c.no_point_falls.ensures c.volumes_move.ensures.go_on c.step_goes_on.ensures (c.requires.stood t) c.done.result (c.done.ensures.performs t)
