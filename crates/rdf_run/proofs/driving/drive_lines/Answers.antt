use Rattle.std.proofs.Common.{inl}
use Rattle.rdf_run.proofs.Drives.{has_driven, of_value}
use Rattle.rdf_run.proofs.driving.drive_lines.Goals as goal

pub returns-in-Ok-clause-comes : goal.returns-in-Ok-clause-comes
returns-in-Ok-clause-comes g c = of_value _ _ c.close_into.ensures _ (inl (has_driven g.A.Answering.given g.A.Answering.faults g.D.Disk.tells g.D.Disk.files g.D.Disk.counts c.args.node c.args.lines.now c.in-Ok.ended.out.answered c.in-Ok.ended.out.met c.in-Ok.ended.told c.args.out.now c.in-Ok.ended.out.out.now c.args.system c.in-Ok.ended.system
    _ c.in-Ok.ended.out c.requires.open c.in-Ok.ensures.runs (λ opened closed drives is unmet. drives.1 is unmet)))
