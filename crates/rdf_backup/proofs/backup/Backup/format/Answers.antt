use Rattle.std.proofs.Common.{◌∙◌, arith}
use Rattle.std.proofs.lemmas.Result.{MatchResult-from_both, IfOk-weaker, IfErr-weaker}
use Rattle.node_disks.specs.Formatting.{IsBlank, IsNotFormatted}
use Rattle.node_disks.specs.FormattingLaws.{all_blank, first_unformatted, rest_unformatted}
use Rattle.node_disks.specs.OpeningLaws.{each_behind}
use Rattle.rdf_backup.specs.Opening.{IsFormatted}
use Rattle.rdf_backup.proofs.FormatLaws.{formatted}
use Rattle.rdf_backup.proofs.backup.Backup.format.Goals as goal

pub begin-requires-clause-ready : goal.begin-requires-clause-ready
begin-requires-clause-ready g c = all_blank g.D.Disk.files c.args.disks.items c.requires.blank 0

pub returns-in-Err : goal.returns-in-Err
returns-in-Err g c = first_unformatted g.D.Disk.counts c.args.layout.now.volumes c.args.disks.items c.in-Err.shut c.in-Err.ensures.err

pub open_rest-opening-requires-clause-ready : goal.open_rest-opening-requires-clause-ready
open_rest-opening-requires-clause-ready g c =
    each_behind (λ i d. g.D.Disk.tells → IsBlank (g.D.Disk.files d)) c.args.disks.items c.in-Ok.begun.rest.items c.in-Ok.ensures.ok.disk c.in-Ok.ensures.ok.split (all_blank g.D.Disk.files c.args.disks.items c.requires.blank)

pub returns : goal.returns
returns g c =
    let begun = c.in-Ok.ensures.ok in
    let o = c.open_rest-opening.result in
    let layout = c.args.layout.now in
    let many = c.requires.many in
    MatchResult-from_both c.made_of.result (IsFormatted g.D.Disk.tells g.D.Disk.files g.D.Disk.counts layout c.args.disks.items) (IsNotFormatted g.D.Disk.counts layout.volumes c.args.disks.items)
    (IfOk-weaker c.made_of.result _ _ (λ b joined. formatted g.D.Disk.tells g.D.Disk.files g.D.Disk.counts layout c.args.disks.items c.in-Ok.begun.rest.items begun.disk begun.split c.in-Ok.begun.first begun.opens o c.open_rest-opening.ensures.opens b
    (record { no_fault = joined.no_fault; trails_are = joined.trails_are; volumes_are = joined.volumes_are; txns_are = joined.txns_are ∙ c.new.ensures })) c.made_of.ensures.ok)
    (IfErr-weaker c.made_of.result _ _ (λ shut not. rest_unformatted g.D.Disk.counts layout.volumes c.args.disks.items shut g.D.Disk.tells g.D.Disk.files begun.disk c.in-Ok.begun.first.disk c.in-Ok.begun.rest.items o.opened.items o.left.items o.fault begun.split
    (omega (arith, many)) begun.opens.counts_are c.open_rest-opening.ensures.opens not) c.made_of.ensures.err)
