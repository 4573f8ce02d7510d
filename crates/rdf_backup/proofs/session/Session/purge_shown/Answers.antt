use Rattle.std.proofs.Common.{rules, ◌≢◌, ◌∙◌, suc, Ok, Err, refl, sym, ap, arith, subst}
use Rattle.rdf_types.specs.declared.records.Phase.TheVariants as phase
use Rattle.image_disks.specs.Values.{received}
use Rattle.image_trails.specs.declared.trails.ImageTrails.{ImageTrails}
use Rattle.image_trails.specs.Trails.{trails_value}
use Rattle.purger.specs.Purging.{gone, Purges}
use Rattle.rdf_core.specs.declared.replies.Reply.TheVariants.{Number}
use Rattle.rdf_core.specs.Backup.{needs_volumes}
use Rattle.rdf_backup.specs.declared.session.Met.TheVariants as met
use Rattle.node_faults.specs.FaultLaws.{fault_named}
use Rattle.rdf_backup.specs.States.{layout_of, value_of, state_of}
use Rattle.rdf_backup.specs.Refusals.{IsCount}
use Rattle.rdf_backup.specs.Replies.{HasMoved}
use Rattle.rdf_backup.specs.Sessions.{open_of, shown_in}
use Rattle.rdf_backup.proofs.OpenLaws.{none_met, keeps_met}
use Rattle.rdf_backup.proofs.DropLaws.{few_starts, all_told}
use Rattle.rdf_backup.proofs.PurgeLaws.{floor_found, purge_goes, purge_broken}
use Rattle.rdf_backup.proofs.PurgedLaws.{stays_there, new_trails, goes_purged, keeps_purged, fed_purged}
use Rattle.rdf_backup.proofs.KeepingLaws.{first_here}
use Rattle.rdf_backup.proofs.TakeoverCauses.{sound_at}
use Rattle.rdf_backup.proofs.ReadingLaws.{other_answer}
use Rattle.rdf_backup.proofs.RefusalLaws.{let_through, purge_free}
use Rattle.rdf_backup.proofs.session.Session.purge_shown.Goals as goal

pub returns-in-Ok : goal.returns-in-Ok
returns-in-Ok g c =
    let s = c.args.self.now in
    let unmet = none_met s.met c.is_some.result c.is_some.ensures c.if-is_some.false in
    let was = c.requires.goes.trails_are unmet in
    let old = shown_in s in
    let trails = record s.trails { now = c.purge.new.trails } in
    let moved : g.D.Disk.tells → HasMoved (received (trails_value s.trails.now)) (trails_value s.trails.now) (trails_value c.purge.new.trails) = λ tells. stays_there (gone s.trails.now.memory.layout.retain c.floor-floor.result (trails_value s.trails.now).starts) (trails_value s.trails.now) (trails_value c.purge.new.trails) (c.in-Ok.ensures.value tells) in
    let still : (value_of old).phase ≢ phase.Taking = λ taking. c.in_default.not-Taking (c.phase.ensures ∙ ap (λ t. (trails_value t).phase) was ∙ taking) in
    record {
      goes = goes_purged g.D.Disk.tells g.D.Disk.files g.D.Disk.counts s c.requires.goes unmet c.of.result trails c.of.ensures c.in-Ok.ensures.stays.layout c.in-Ok.ensures.ok moved;
      same_trails = refl;
      same_txns = refl;
      same_places = refl;
      keeps = keeps_purged g.D.Disk.tells g.D.Disk.files g.D.Disk.counts s c.requires.goes unmet c.of.result trails c.of.ensures c.in-Ok.ensures.stays.layout c.in-Ok.ensures.ok moved (λ why. met.Trails why) c.from.result c.in-Ok.ensures.stays.cause c.in-Ok.ensures.phase;
      ends = λ tells none w node points serves.
          let now = subst (λ (t : ImageTrails g.row.D.Denot). Purges g.D.Disk.tells g.D.Disk.files g.D.Disk.counts (gone s.trails.now.memory.layout.retain c.floor-floor.result (trails_value t).starts) t (Ok c.in-Ok.n) c.purge.new.trails) was c.in-Ok.ensures in
          let are = new_trails g.D.Disk.tells g.D.Disk.files g.D.Disk.counts s c.requires.goes unmet c.of.result trails c.of.ensures c.in-Ok.ensures.stays.layout c.in-Ok.ensures.ok moved in
          let done = subst (λ (t : ImageTrails g.row.D.Denot). Purges g.D.Disk.tells g.D.Disk.files g.D.Disk.counts (gone s.trails.now.memory.layout.retain c.floor-floor.result (value_of old).starts) old.trails (Ok c.in-Ok.n) t) (sym are) now in
          let retain = s.trails.now.memory.layout.retain in
          let retain_is = ap (λ t. t.memory.layout.retain) was in (
            purge_goes g.D.Disk.files w node old serves still points retain c.floor-floor.result retain_is
                (floor_found g.D.Disk.files w node old serves still points c.prefix_is_legal.ensures c.legal_is_proper.ensures c.low_of_notes.ensures c.low_of_part.ensures c.floor-floor.result c.floor-floor.ensures)
                _ (done.value tells) refl (done.ok tells) (done.held tells w.trail serves.over.holds) refl refl c.from.result
                (c.from.ensures ∙ all_told c.in-Ok.n retain c.floor-floor.result (value_of old).starts (few_starts old.trails.memory (g.D.Disk.files old.trails.disk) (c.requires.goes.going.usable tells).trails) (done.count tells)),
            fed_purged g.D.Disk.tells g.D.Disk.files g.D.Disk.counts s c.requires.goes unmet c.of.result trails c.of.ensures c.in-Ok.ensures.stays.layout c.in-Ok.ensures.ok moved tells w.trail,
          );
      judged = λ none. let_through (needs_volumes (state_of 0 old)) IsCount (Ok (Number c.from.result)) (open_of s) _ (purge_free old 0 still) (c.from.result, refl);
    }

pub returns-in-Err : goal.returns-in-Err
returns-in-Err g c =
    let s = c.args.self.now in
    let unmet = none_met s.met c.is_some.result c.is_some.ensures c.if-is_some.false in
    let was = c.requires.goes.trails_are unmet in
    let old = shown_in s in
    let still : (value_of old).phase ≢ phase.Taking = λ taking. c.in_default.not-Taking (c.phase.ensures ∙ ap (λ t. (trails_value t).phase) was ∙ taking) in
    record {
      goes = search rules;
      same_trails = refl;
      same_txns = refl;
      same_places = refl;
      keeps = keeps_met g.D.Disk.tells g.D.Disk.files g.D.Disk.counts (λ why. met.Trails why) c.at_disk-fault.result (open_of s) _ unmet
          (record { shown = refl; entries = refl; met = refl; cause = first_here c.in-Err.fault c.at_disk-fault.result _ _ c.at_disk-fault.ensures c.in-Err.ensures.stays.cause; own = fault_named 0 1 c.in-Err.fault c.at_disk-fault.result c.at_disk-fault.ensures (omega arith) })
          (sound_at 0 c.in-Err.fault c.at_disk-fault.result c.at_disk-fault.ensures (other_answer c.in-Err.fault c.in-Err.ensures.stays.sound)) (fault_named 0 (suc (layout_of old).volumes) c.in-Err.fault c.at_disk-fault.result c.at_disk-fault.ensures (omega arith));
      ends = λ tells none w node points serves.
          let now = subst (λ (t : ImageTrails g.row.D.Denot). Purges g.D.Disk.tells g.D.Disk.files g.D.Disk.counts (gone s.trails.now.memory.layout.retain c.floor-floor.result (trails_value t).starts) t (Err c.in-Err.fault) c.purge.new.trails) was c.in-Err.ensures in
          purge_broken g.D.Disk.files w node old serves still points s.trails.now.memory.layout.retain c.floor-floor.result (ap (λ t. t.memory.layout.retain) was)
          (floor_found g.D.Disk.files w node old serves still points c.prefix_is_legal.ensures c.legal_is_proper.ensures c.low_of_notes.ensures c.low_of_part.ensures c.floor-floor.result c.floor-floor.ensures)
          c.one_value.ensures _ (now.err tells) (now.left tells);
      judged = λ none. let_through (needs_volumes (state_of 0 old)) IsCount (Err c.at_disk-fault.result) (open_of s) _ (purge_free old 0 still) tt;
    }
