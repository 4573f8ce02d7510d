use Rattle.std.proofs.Common.{arith}
use Rattle.audit_trail.specs.InUse.{disk_of as trail_disk}
use Rattle.node_disks.specs.Formatting.{IsBlank}
use Rattle.node_disks.specs.OpeningLaws.{each_behind}
use Rattle.node_disks.specs.FormattingLaws.{all_blank, first_unformatted, rest_unformatted}
use Rattle.rdf_primary.proofs.FormatLaws.{formatted}
use Rattle.rdf_primary.proofs.primary.Primary.format.Goals as goal

pub begin-requires-clause-ready : goal.begin-requires-clause-ready
begin-requires-clause-ready g c = all_blank g.D.Disk.files c.args.disks.items c.requires.blank 0

pub returns-in-Err : goal.returns-in-Err
returns-in-Err g c = first_unformatted g.D.Disk.counts c.args.layout.now.volumes c.args.disks.items c.in-Err.shut c.in-Err.ensures.err

pub open_rest-opening-requires-clause-ready : goal.open_rest-opening-requires-clause-ready
open_rest-opening-requires-clause-ready g c =
    each_behind (λ i d. g.D.Disk.tells → IsBlank (g.D.Disk.files d)) c.args.disks.items c.in-Ok.begun.rest.items c.in-Ok.ensures.ok.disk c.in-Ok.ensures.ok.split (all_blank g.D.Disk.files c.args.disks.items c.requires.blank)

pub returns-in-Ok-joined : goal.returns-in-Ok-joined
returns-in-Ok-joined g c =
    let begun = c.in-Ok.ensures.ok in
    formatted g.D.Disk.tells g.D.Disk.files g.D.Disk.counts c.args.layout.now c.args.disks.items c.in-Ok.begun.rest.items begun.disk begun.split c.requires.many c.in-Ok.begun.first begun.opens c.open_rest-opening.result c.open_rest-opening.ensures.opens
    c.in-Ok-joined.tmf c.in-Ok-joined.ensures.ok

pub returns-in-Err-joined : goal.returns-in-Err-joined
returns-in-Err-joined g c =
    let begun = c.in-Ok.ensures.ok in
    let o = c.open_rest-opening.result in
    let many = c.requires.many in
    rest_unformatted g.D.Disk.counts c.args.layout.now.volumes c.args.disks.items c.in-Err-joined.shut g.D.Disk.tells g.D.Disk.files begun.disk (trail_disk c.in-Ok.begun.first) c.in-Ok.begun.rest.items o.opened.items o.left.items o.fault begun.split
    (omega (arith, many)) begun.opens.counts_are c.open_rest-opening.ensures.opens c.in-Err-joined.ensures.err
