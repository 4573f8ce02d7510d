use Rattle.rdf_backup.specs.Sessions.{Open, open_of}
use Rattle.rdf_system.specs.OpenLines.{KeepsLent}
use Rattle.rdf_system.specs.Opened.{view_of}
use Rattle.rdf_system.proofs.SameOpen.{for_same}
use Rattle.rdf_system.proofs.stretch.InsideHere.drive.Goals as goal

pub returns-clause-comes : goal.returns-clause-comes
returns-clause-comes g c = c.run-out.ensures.keeps.comes

pub returns-clause-drives : goal.returns-clause-drives
returns-clause-drives g c = for_same
    (λ (o c' : Open g.row.D.Denot g.D.Disk). KeepsLent g.D.Disk.tells g.D.Disk.files g.D.Disk.counts (view_of o c.args.self.beside) (view_of c' c.run-out.new.beside) × g.H.Stretch.Drives c.args.self.stretch g.D.Disk (view_of o c.args.self.beside) c.run-out.result (view_of c' c.run-out.new.beside))
    (open_of c.args.session.now) (open_of c.run-out.new.session) (c.run-out.ensures.keeps, c.run-out.ensures.drives)
