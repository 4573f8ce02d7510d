use Rattle.std.proofs.Common.{refl, arith}
use Rattle.rdf_backup.proofs.StillLaws.{breaks_by}
use Rattle.rdf_backup.proofs.Delivering.{known_goes}
use Rattle.plan_lang.specs.declared.lines.Line.TheVariants as line
use Rattle.rdf_backup.proofs.backup.Backup.receive.Goals as goal

pub returns-then-ship-at-clause-ends : goal.returns-then-ship-at-clause-ends
returns-then-ship-at-clause-ends g c = λ tells w node k serves brings.
    known_goes g.D.Disk.files w node k c.args.self.now serves c.args.ship.now c.requires.spelled brings c.requires.running c.received-at.result (omega arith) c.received-at.ensures

pub returns-in-Ok-clause-ends : goal.returns-in-Ok-clause-ends
returns-in-Ok-clause-ends g c = λ tells w node k serves brings. c.in-Ok.ensures.ends tells c.args.self.now refl refl w node k c.requires.running serves brings _ refl refl refl

pub returns-in-Err-clause-ends : goal.returns-in-Err-clause-ends
returns-in-Err-clause-ends g c = λ tells w node k serves brings.
    breaks_by g.D.Disk.files w (line.Deliver node k) c.args.self.now _ serves c.requires.running refl (c.in-Err.ensures.ends tells c.args.self.now refl refl w node k c.requires.running serves brings)
