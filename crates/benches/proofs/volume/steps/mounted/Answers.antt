use Rattle.std.proofs.Common.{inl, refl}
use Rattle.rdf_disk.specs.Outcomes.{seen_of}
use Rattle.benches.proofs.volume.steps.mounted.Goals as goal

pub returns-in-Ok : goal.returns-in-Ok
returns-in-Ok g c = λ tells. let s = c.requires tells (seen_of (g.D.Disk.files c.args.disk)) (λ m. inl refl) in (c.in-Ok.ensures.ok tells s.0 s.1.0 s.1.1).0
