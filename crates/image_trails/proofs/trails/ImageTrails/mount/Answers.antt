use Rattle.std.proofs.Common.{Result, Err, refl, ap}
use Rattle.rdf_disk.specs.Outcomes.{seen_of}
use Rattle.rdf_gatelog.specs.declared.fault.LogFault.{LogFault}
use Rattle.image_disks.specs.Spelled.{block_of}
use Rattle.image_trails.specs.declared.memory.Memory.{Memory}
use Rattle.image_trails.specs.Memory.{plan_of, value_in}
use Rattle.image_trails.proofs.trails.ImageTrails.mount.Goals as goal

pub returns-in-Ok-clause-only : goal.returns-in-Ok-clause-only
returns-in-Ok-clause-only g c = λ tells v s.
    c.one_value.ensures block_of (plan_of c.args.layout.now) (value_in c.in-Ok.memory) v (seen_of (g.D.Disk.files c.args.disk)) refl (c.in-Ok.ensures.value tells) s

pub returns-in-Err-clause-whole : goal.returns-in-Err-clause-whole
returns-in-Err-clause-whole g c = λ tells v file at s is.
    c.no_flaw.ensures block_of (plan_of c.args.layout.now) v (seen_of (g.D.Disk.files c.args.disk)) file at refl s
    (c.in-Err.ensures.damaged tells file at (ap (λ (e : LogFault). let r : Result Memory LogFault = Err e in r) is))
