use Rattle.std.proofs.Common.{◌-◌, List, arith}
use Rattle.rdf_types.specs.declared.records.Stamped.{Stamped}
use Rattle.image_disks.specs.Values.{received, merged, listed}
use Rattle.rdf_backup.specs.States.{value_of}
use Rattle.rdf_backup.proofs.AuditLaws.{whole_part}
use Rattle.rdf_backup.proofs.backup.Backup.part_since.Goals as goal

pub returns-clause-part : goal.returns-clause-part
returns-clause-part g c = λ tells usable.
    let v = value_of c.args.self.now in
    let all : List Stamped = listed (merged v) c.args.from (received v - c.args.from) in
    whole_part c.in_ok-part.part.items all 4294967295 (c.in_ok-part.ensures tells usable.trails) (omega (arith, c.if-len.false, c.len.ensures))
