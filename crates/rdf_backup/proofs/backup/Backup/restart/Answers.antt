use Rattle.std.proofs.Common.{◌∙◌, ◌∷◌, refl, ap}
use Rattle.std.proofs.lemmas.Result.{MatchResult-from_both, IfOk-weaker, IfErr-weaker}
use Rattle.rdf_backup.specs.Opening.{IsOpenAgain, IsStillDown}
use Rattle.rdf_backup.proofs.RestartLaws.{begun_down, memory_down, made_down, made_up}
use Rattle.rdf_backup.proofs.backup.Backup.restart.Goals as goal

pub returns-in-Err : goal.returns-in-Err
returns-in-Err g c = begun_down g.D.Disk.tells g.D.Disk.files g.D.Disk.counts c.args.layout.now c.args.disks.items c.in-Err.shut c.in-Err.ensures.err

pub returns-in_default : goal.returns-in_default
returns-in_default g c =
    let begun = c.in-Ok.ensures.ok in
    memory_down g.D.Disk.tells g.D.Disk.files g.D.Disk.counts c.args.layout.now c.args.disks.items c.in-Ok.begun.rest.items begun.disk begun.split c.requires.many c.in-Ok.begun.first begun.opens _
    (c.with_first.ensures ∙ ap (λ (d : g.row.D.Denot). d ∷ c.in-Ok.begun.rest.items) c.close.ensures) refl

pub returns : goal.returns
returns g c =
    let begun = c.in-Ok.ensures.ok in
    let o = c.open_rest-opening.result in
    let layout = c.args.layout.now in
    MatchResult-from_both c.made_of.result (IsOpenAgain g.D.Disk.tells g.D.Disk.files g.D.Disk.counts layout c.args.disks.items) (IsStillDown g.D.Disk.tells g.D.Disk.files g.D.Disk.counts layout c.args.disks.items)
    (IfOk-weaker c.made_of.result _ _ (λ backup made. made_up g.D.Disk.tells g.D.Disk.files g.D.Disk.counts layout c.args.disks.items c.in-Ok.begun.rest.items begun.disk begun.split c.requires.many c.in-Ok.begun.first begun.opens
    c.kept.result c.received.result c.kept.ensures c.received.ensures o c.open_rest-opening.ensures.opens c.in-Ok-open_ones.txns backup made c.kept_is_part.ensures (λ tells in_use. c.in-Ok-open_ones.ensures tells in_use)) c.made_of.ensures.ok)
    (IfErr-weaker c.made_of.result _ _ (λ shut not. made_down g.D.Disk.tells g.D.Disk.files g.D.Disk.counts layout c.args.disks.items c.in-Ok.begun.rest.items begun.disk begun.split c.requires.many c.in-Ok.begun.first begun.opens
    c.kept.result c.received.result c.kept.ensures c.received.ensures o c.open_rest-opening.ensures.opens shut not) c.made_of.ensures.err)
