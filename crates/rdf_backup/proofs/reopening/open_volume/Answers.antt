use Rattle.std.proofs.Common.{rules, sym, ◌∙◌, subst}
use Rattle.std.proofs.lemmas.Result.{MatchResult-from_both, IfOk-weaker, IfErr-weaker}
use Rattle.rdf_disk.specs.Outcomes.{seen_of}
use Rattle.rdf_volume.specs.Flaws.{IsFlaw}
use Rattle.rdf_volume.specs.Standing.{StandsBy}
use Rattle.node_disks.specs.OpeningLaws.{durably_same, seen_now, seen_same}
use Rattle.rdf_backup.specs.Standing.{VolumeStandsFor}
use Rattle.rdf_backup.specs.Opening.{IsOldVolume, IsShutVolume}
use Rattle.rdf_backup.specs.Restarting.{IsFound}
use Rattle.rdf_backup.proofs.ReopeningLaws.{mounted_found, volume_kept, flaw_of, old_volume, shut_volume}
use Rattle.rdf_backup.proofs.reopening.open_volume.Goals as goal

pub returns-in-Ok-mount : goal.returns-in-Ok-mount
returns-in-Ok-mount g c =
    let layout = c.args.layout.now in
    let files = g.D.Disk.files in
    let counts = g.D.Disk.counts in
    let volume = c.in-Ok-mount.volume in
    let turned = c.in-Ok-mount.ensures.counts ∙ c.in-Ok.ensures.cause in
    let found : g.D.Disk.tells → IsFound files layout c.args.vol c.args.disk volume = λ tells trail b h. mounted_found files layout c.args.vol volume (files c.args.disk) (files c.restart.new.self) (c.in-Ok.ensures.files tells) (c.in-Ok-mount.ensures.ok tells) trail b h in
    MatchResult-from_both c.placed.result (IsOldVolume g.D.Disk.tells files counts layout c.args.vol c.args.disk) (λ shut. IsShutVolume g.D.Disk.tells files counts layout c.args.span.kept c.args.span.received c.args.vol c.args.disk shut.disk shut.fault)
    (IfOk-weaker c.placed.result _ _ (λ new same. old_volume g.D.Disk.tells files counts layout c.args.vol c.args.span.kept c.args.span.received c.args.disk volume turned found new same) c.placed.ensures.ok)
    (IfErr-weaker c.placed.result _ _ (λ shut h. shut_volume g.D.Disk.tells files counts layout c.args.vol c.args.span.kept c.args.span.received c.args.disk volume turned found c.is_protected.result shut.disk shut.fault c.is_protected.ensures
    (λ tells own batches rows restart stands.
    let here = subst (λ d. StandsBy own batches rows restart d) (sym (seen_same (files c.args.disk) (files c.restart.new.self) (c.in-Ok.ensures.files tells))) stands in
    ((c.in-Ok-mount.ensures.counted tells own batches rows restart here).0, (c.in-Ok-mount.ensures.ok tells rows restart (own, (batches, here))).2)) h) c.placed.ensures.err)

pub returns-in-Err-mount : goal.returns-in-Err-mount
returns-in-Err-mount g c = record {
  keeps = λ tells trail b h.
      volume_kept c.args.layout.now trail b c.args.vol (g.D.Disk.files c.restart.new.self) (g.D.Disk.files c.in-Err-mount.shut.disk) (c.in-Err-mount.ensures.keeps tells)
      (durably_same (VolumeStandsFor c.args.layout.now trail b c.args.vol) (g.D.Disk.files c.args.disk) (g.D.Disk.files c.restart.new.self) (c.in-Ok.ensures.files tells) h);
  cause = search rules;
  sound = λ tells trail b span sound h file at.
      let s = seen_now (VolumeStandsFor c.args.layout.now trail b c.args.vol) (g.D.Disk.files c.args.disk) (g.D.Disk.files c.restart.new.self) (c.in-Ok.ensures.files tells) h in
      c.in-Err-mount.ensures.whole tells s.rows s.at file at s.stands;
  damaged = λ tells. flaw_of _ c.args.span.kept c.args.span.received (seen_of (g.D.Disk.files c.args.disk)) c.in-Err-mount.shut.fault
      (λ file at is. subst (λ d. IsFlaw d file at) (seen_same (g.D.Disk.files c.args.disk) (g.D.Disk.files c.restart.new.self) (c.in-Ok.ensures.files tells)) (c.in-Err-mount.ensures.damaged tells file at is));
}

pub returns-in-Err : goal.returns-in-Err
returns-in-Err g c = record {
  keeps = λ tells trail b h. durably_same (VolumeStandsFor c.args.layout.now trail b c.args.vol) (g.D.Disk.files c.args.disk) (g.D.Disk.files c.restart.new.self) (c.restart.ensures.files tells) h;
  cause = search rules;
  sound = search rules;
  damaged = λ tells. flaw_of _ c.args.span.kept c.args.span.received (seen_of (g.D.Disk.files c.args.disk)) _ (search rules);
}
