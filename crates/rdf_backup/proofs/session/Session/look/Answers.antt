use Rattle.std.proofs.Common.{◌∙◌, ◌<◌, ◌+◌, suc, length, IfSome, arith, refl, sym, ap, subst, ◌≡◌}
use Rattle.std.specs.Prelude.{slice_get}
use Rattle.std.proofs.lemmas.List.{length-set}
use Rattle.volume_sessions.specs.Shown.{Shown}
use Rattle.volume_sessions.specs.Rising.{HasRead}
use Rattle.rdf_backup.specs.declared.session.Met.TheVariants as met
use Rattle.rdf_backup.specs.Sessions.{open_of, shown_in}
use Rattle.rdf_backup.proofs.OpenLaws.{keeps_met}
use Rattle.rdf_backup.proofs.LookLaws.{some_within, placed, point_told, goes_next, says_next, keeps_next, reads_next}
use Rattle.rdf_core.specs.Backup.{read_reply}
use Rattle.rdf_volume.specs.Views.{restart_of}
use Rattle.node_faults.specs.FaultLaws.{fault_named}
use Rattle.rdf_backup.specs.States.{layout_of}
use Rattle.rdf_backup.proofs.session.Session.look.Goals as goal

pub read-requires-clause-there : goal.read-requires-clause-there
read-requires-clause-there g c = placed g.D.Disk.tells g.D.Disk.files g.D.Disk.counts c.args.self.now c.requires.goes c.args.key.now.vol c.requires.protected c.place_of-place.result c.place_of-place.ensures

pub point-requires : goal.point-requires
point-requires g c =
    let r = (c.in-Ok.ensures {u = tt}).ok in
    record {
      there = subst (λ (x : Shown g.row.D.Denot). c.place_of-place.result < length x.volumes) (sym r.new_is)
          (subst (λ n. c.place_of-place.result < n) (sym (length-set c.args.self.now.watch.volumes c.place_of-place.result _)) (some_within c.args.self.now.watch.volumes c.place_of-place.result r.was r.there));
    }

pub returns-in-Ok-clause-goes : goal.returns-in-Ok-clause-goes
returns-in-Ok-clause-goes g c =
    goes_next g.D.Disk.tells g.D.Disk.files g.D.Disk.counts c.args.self.now c.requires.goes c.args.key.now.vol c.requires.protected c.args.key.now refl c.in-Ok.value c.read.new.self
    (subst (λ k. HasRead g.D.Disk.tells g.D.Disk.files g.D.Disk.counts k c.args.key.now c.in-Ok.value c.args.self.now.watch c.read.new.self) c.place_of-place.ensures (c.in-Ok.ensures {u = tt}).ok)

pub returns-in-Ok-clause-keeps : goal.returns-in-Ok-clause-keeps
returns-in-Ok-clause-keeps g c =
    let r = subst (λ k. HasRead g.D.Disk.tells g.D.Disk.files g.D.Disk.counts k c.args.key.now c.in-Ok.value c.args.self.now.watch c.read.new.self) c.place_of-place.ensures (c.in-Ok.ensures {u = tt}).ok in
    let point = point_told g.D.Disk.tells g.D.Disk.files g.D.Disk.counts c.args.self.now c.requires.goes c.args.key.now.vol c.requires.protected c.args.key.now refl c.in-Ok.value c.read.new.self r c.point.result
    (subst (λ k. IfSome (slice_get c.read.new.self.volumes k) (λ was. c.point.result ≡ restart_of was.volume)) c.place_of-place.ensures c.point.ensures) in
    keeps_next g.D.Disk.tells g.D.Disk.files g.D.Disk.counts c.args.self.now c.requires.goes c.args.key.now.vol c.requires.protected c.args.key.now refl c.in-Ok.value c.read.new.self r
    c.requires.unmet (λ why. met.Volume) c.answer_at.result (c.answer_at.ensures ∙ ap (λ n. read_reply n c.in-Ok.value) point)

pub returns-in-Ok-clause-reads : goal.returns-in-Ok-clause-reads
returns-in-Ok-clause-reads g c = λ tells trail serves fed.
    let r = subst (λ k. HasRead g.D.Disk.tells g.D.Disk.files g.D.Disk.counts k c.args.key.now c.in-Ok.value c.args.self.now.watch c.read.new.self) c.place_of-place.ensures (c.in-Ok.ensures {u = tt}).ok in
    let point = point_told g.D.Disk.tells g.D.Disk.files g.D.Disk.counts c.args.self.now c.requires.goes c.args.key.now.vol c.requires.protected c.args.key.now refl c.in-Ok.value c.read.new.self r c.point.result
    (subst (λ k. IfSome (slice_get c.read.new.self.volumes k) (λ was. c.point.result ≡ restart_of was.volume)) c.place_of-place.ensures c.point.ensures) in
    reads_next g.D.Disk.tells g.D.Disk.files g.D.Disk.counts c.args.self.now c.requires.goes c.args.key.now.vol c.requires.protected c.args.key.now refl c.in-Ok.value c.read.new.self r
    c.applied_shows.ensures c.step_applies.ensures tells trail serves fed c.answer_at.result (c.answer_at.ensures ∙ ap (λ n. read_reply n c.in-Ok.value) point)

pub returns-in-Ok-clause-says : goal.returns-in-Ok-clause-says
returns-in-Ok-clause-says g c =
    let r = subst (λ k. HasRead g.D.Disk.tells g.D.Disk.files g.D.Disk.counts k c.args.key.now c.in-Ok.value c.args.self.now.watch c.read.new.self) c.place_of-place.ensures (c.in-Ok.ensures {u = tt}).ok in
    let point = point_told g.D.Disk.tells g.D.Disk.files g.D.Disk.counts c.args.self.now c.requires.goes c.args.key.now.vol c.requires.protected c.args.key.now refl c.in-Ok.value c.read.new.self r c.point.result
    (subst (λ k. IfSome (slice_get c.read.new.self.volumes k) (λ was. c.point.result ≡ restart_of was.volume)) c.place_of-place.ensures c.point.ensures) in
    says_next g.D.Disk.tells g.D.Disk.files g.D.Disk.counts c.args.self.now c.requires.goes c.args.key.now.vol c.requires.protected c.args.key.now refl c.in-Ok.value c.read.new.self r
    c.answer_at.result (c.answer_at.ensures ∙ ap (λ n. read_reply n c.in-Ok.value) point)

pub returns-in-Err-clause-keeps : goal.returns-in-Err-clause-keeps
returns-in-Err-clause-keeps g c =
    let s = c.args.self.now in
    let same : c.read.new.self ≡ s.watch = (c.in-Err.ensures {u = tt}).err in
    let many = ap (λ l. length l) c.requires.goes.flags_are ∙ (layout_of (shown_in s)).a_flag_each in
    keeps_met g.D.Disk.tells g.D.Disk.files g.D.Disk.counts (λ why. met.Volume) c.at_disk.result (open_of s) _ c.requires.unmet
    (record { shown = ap (λ (x : Shown g.row.D.Denot). shown_in (record s { watch = x })) same; entries = ap (λ (x : Shown g.row.D.Denot). x.entries) same; met = refl; cause = refl; own = tt })
    tt (fault_named (c.number-number.result + 1) (suc (layout_of (shown_in s)).volumes) c.in-Err.fault c.at_disk.result c.at_disk.ensures (omega (arith, c.requires.there, many, c.number-number.ensures.value)))
