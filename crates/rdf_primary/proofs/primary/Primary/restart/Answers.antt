use Rattle.std.proofs.lemmas.Result.{MatchResult-weaker}
use Rattle.rdf_primary.proofs.RestartLaws.{begun_down, may_reopen, reopened_down, up_again, cut_down}
use Rattle.rdf_primary.proofs.primary.Primary.restart.Goals as goal

pub returns-in-Err : goal.returns-in-Err
returns-in-Err g c = begun_down g.D.Disk.tells g.D.Disk.files g.D.Disk.counts c.args.layout.now c.args.disks.items c.in-Err.shut c.requires.stood c.in-Err.ensures.err

pub reopened-requires-clause-ready : goal.reopened-requires-clause-ready
reopened-requires-clause-ready g c =
    let begun = c.in-Ok.ensures.ok in
    λ tells. may_reopen g.D.Disk.files c.args.disks.items c.in-Ok.begun.rest.items begun.disk begun.split c.in-Ok.begun.first (c.requires.stood tells) (begun.opens.found tells)

pub returns-in-Ok-reopened : goal.returns-in-Ok-reopened
returns-in-Ok-reopened g c =
    let begun = c.in-Ok.ensures.ok in
    MatchResult-weaker c.backed_out.result c.backed_out.ensures
    (λ done out. up_again g.D.Disk.tells g.D.Disk.files g.D.Disk.counts c.args.layout.now c.args.disks.items c.in-Ok.begun.rest.items begun.disk begun.split c.requires.many c.in-Ok.begun.first begun.opens c.in-Ok-reopened.tmf c.in-Ok-reopened.ensures.ok done.1 done.0 out)
    (λ shut cut. cut_down g.D.Disk.tells g.D.Disk.files g.D.Disk.counts c.args.layout.now c.args.disks.items c.in-Ok.begun.rest.items begun.disk begun.split c.requires.many c.in-Ok.begun.first begun.opens c.in-Ok-reopened.tmf c.in-Ok-reopened.ensures.ok shut cut)

pub returns-in-Err-reopened : goal.returns-in-Err-reopened
returns-in-Err-reopened g c =
    let begun = c.in-Ok.ensures.ok in
    reopened_down g.D.Disk.tells g.D.Disk.files g.D.Disk.counts c.args.layout.now c.args.disks.items c.in-Ok.begun.rest.items begun.disk begun.split c.requires.many c.in-Ok.begun.first begun.opens c.in-Err-reopened.shut c.in-Err-reopened.ensures.err
