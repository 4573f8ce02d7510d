use Rattle.std.proofs.Common.{rules, ◌∙◌, refl, sym, ap, subst, ℕ, suc, Result, Ok, Err, arith}
use Rattle.std.proofs.lemmas.Grind.{common_steps}
use Rattle.std.proofs.lemmas.Result.{err_from_is_err_and}
use Rattle.rdf_types.specs.declared.records.Phase.TheVariants as phase
use Rattle.node_faults.specs.declared.NodeFault.{NodeFault}
use Rattle.node_faults.specs.Faults.{IsSound, is_damage, ending_at, ending_for}
use Rattle.node_faults.specs.FaultLaws.{fault_named}
use Rattle.rdf_backup.proofs.KeepingLaws.{still, by_volumes, then_first, first_here, first_alone}
use Rattle.rdf_backup.proofs.Naming.{passed_named, passed_own}
use Rattle.rdf_backup.specs.States.{state_of}
use Rattle.rdf_backup.proofs.TakeoverLaws.{shown_taking, failed, unread_breaks, volume_breaks, mark_breaks, mark_goes}
use Rattle.rdf_backup.proofs.TakeoverCauses.{sound_at}
use Rattle.rdf_core.specs.declared.replies.Reply.{Reply}
use Rattle.rdf_core.specs.declared.replies.Reply.TheVariants.{Number}
use Rattle.image_disks.specs.Values.{received}
use Rattle.open_txns.specs.Noted.{low_of}
use Rattle.rdf_backup.specs.States.{layout_of, value_of, disks_in}
use Rattle.rdf_backup.proofs.DamageLaws.{passed_wrong, passed_upto, sound_told}
use Rattle.rdf_backup.proofs.backup.Backup.take_over.Goals as goal

pub returns-in_err-audit-clause-ends : goal.returns-in_err-audit-clause-ends
returns-in_err-audit-clause-ends g c = λ tells w node lost serves.
    let p = err_from_is_err_and c.from_residual.result c.from_residual.ensures.1 in
    failed g.D.Disk.files w node c.args.self.now _ c.from_residual.result p.0 p.1 (unread_breaks c.fits_taken.ensures g.D.Disk.files w node lost c.args.self.now serves c.requires.marked _ refl refl)

pub returns-in_err-take_over_volumes-clause-ends : goal.returns-in_err-take_over_volumes-clause-ends
returns-in_err-take_over_volumes-clause-ends g c = λ tells w node lost serves.
    let p = err_from_is_err_and c.from_residual-in_err-take_over_volumes.result c.from_residual-in_err-take_over_volumes.ensures.1 in
    let old = c.args.self.now in
    failed g.D.Disk.files w node c.args.self.now _ c.from_residual-in_err-take_over_volumes.result p.0 p.1
    (volume_breaks c.fits_taken.ensures g.D.Disk.files w node lost c.args.self.now serves c.requires.marked _ refl c.in_err-take_over_volumes.ensures.keeps.many
    (c.in_err-take_over_volumes.ensures.err tells w.trail (state_of 0 old) (c.in_ok-audit.ensures.audit tells serves.usable.trails w.trail old.volumes.items old.txns serves.over (c.low-low.ensures ∙ ap (λ n. low_of old.txns n) c.received.ensures)) (shown_taking c.fits_taken.ensures g.D.Disk.files w.trail old serves)))

pub returns-in_err-take_over_volumes-clause-sound : goal.returns-in_err-take_over_volumes-clause-sound
returns-in_err-take_over_volumes-clause-sound g c = λ tells trail serves.
    let p = err_from_is_err_and c.from_residual-in_err-take_over_volumes.result c.from_residual-in_err-take_over_volumes.ensures.1 in
    let old = c.args.self.now in
    let sound = c.in_err-take_over_volumes.ensures.sound tells trail (state_of 0 old) (c.in_ok-audit.ensures.audit tells serves.usable.trails trail old.volumes.items old.txns serves.over (c.low-low.ensures ∙ ap (λ n. low_of old.txns n) c.received.ensures)) (shown_taking c.fits_taken.ensures g.D.Disk.files trail old serves) in
    subst (λ r. IsSound r) (sym p.1) (ap (λ f. is_damage f) p.2 ∙ sound)

pub returns-in-Ok-clause-ends : goal.returns-in-Ok-clause-ends
returns-in-Ok-clause-ends g c = λ tells w node lost serves.
    let old = c.args.self.now in
    let audit = c.in_ok-audit.ensures.audit tells serves.usable.trails w.trail old.volumes.items old.txns serves.over (c.low-low.ensures ∙ ap (λ n. low_of old.txns n) c.received.ensures) in
    mark_goes c.fits_taken.ensures g.D.Disk.files w node lost c.args.self.now serves c.requires.marked c.in_ok-audit.audit audit _ c.in_ok-take_over_volumes.ensures.keeps.many (c.in_ok-take_over_volumes.ensures.ok tells)
    (c.in_ok-take_over_volumes.ensures.taken w.trail (state_of 0 old) audit (shown_taking c.fits_taken.ensures g.D.Disk.files w.trail old serves)) c.in_ok-audit.audit.upto c.in_ok-audit.ensures.upto
    (c.in-Ok.ensures.ok tells) c.in-Ok.ensures.value c.in-Ok.ensures.stays.layout (c.in-Ok.ensures.held w.trail serves.over.holds) refl

pub returns-in-Err-clause-ends : goal.returns-in-Err-clause-ends
returns-in-Err-clause-ends g c = λ tells w node lost serves.
    let old = c.args.self.now in
    let audit = c.in_ok-audit.ensures.audit tells serves.usable.trails w.trail old.volumes.items old.txns serves.over (c.low-low.ensures ∙ ap (λ n. low_of old.txns n) c.received.ensures) in
    mark_breaks c.fits_taken.ensures g.D.Disk.files w node lost c.args.self.now serves c.requires.marked c.in_ok-audit.audit audit _ c.in_ok-take_over_volumes.ensures.keeps.many (c.in_ok-take_over_volumes.ensures.ok tells)
    (c.in_ok-take_over_volumes.ensures.taken w.trail (state_of 0 old) audit (shown_taking c.fits_taken.ensures g.D.Disk.files w.trail old serves)) c.in_ok-audit.audit.upto c.in_ok-audit.ensures.upto
    c.one_value.ensures (c.in-Err.ensures.err tells) (c.in-Err.ensures.left tells)

pub returns-in-Err-clause-sound : goal.returns-in-Err-clause-sound
returns-in-Err-clause-sound g c = λ tells trail serves. sound_at 0 c.in-Err.fault c.at_disk.result c.at_disk.ensures c.in-Err.ensures.stays.sound

pub returns-in-Ok-clause-told : goal.returns-in-Ok-clause-told
returns-in-Ok-clause-told g c = ap (λ (n : ℕ). let s : Reply = Number n in s) c.in_ok-audit.ensures.upto

pub returns-in_err-audit-clause-damaged : goal.returns-in_err-audit-clause-damaged
returns-in_err-audit-clause-damaged g c =
    let old = c.args.self.now in
    let p = err_from_is_err_and c.from_residual.result c.from_residual.ensures.1 in
    passed_wrong g.D.Disk.tells (layout_of old) (received (value_of old)) old.volumes.items c.from_residual.result p.0 _ p.1 p.2 tt

pub returns-in_err-take_over_volumes-clause-damaged : goal.returns-in_err-take_over_volumes-clause-damaged
returns-in_err-take_over_volumes-clause-damaged g c =
    let old = c.args.self.now in
    let p = err_from_is_err_and c.from_residual-in_err-take_over_volumes.result c.from_residual-in_err-take_over_volumes.ensures.1 in
    passed_upto g.D.Disk.tells (layout_of old) (received (value_of old)) old.volumes.items c.from_residual-in_err-take_over_volumes.result p.0 _ c.in_ok-audit.audit.upto c.in_ok-audit.ensures.upto p.1 p.2 c.in_err-take_over_volumes.ensures.damaged

pub returns-in-Err-clause-damaged : goal.returns-in-Err-clause-damaged
returns-in-Err-clause-damaged g c =
    let old = c.args.self.now in
    sound_told g.D.Disk.tells (layout_of old) (received (value_of old)) old.volumes.items c.at_disk.result (sound_at 0 c.in-Err.fault c.at_disk.result c.at_disk.ensures c.in-Err.ensures.stays.sound)

pub returns-in_err-audit-clause-keeps : goal.returns-in_err-audit-clause-keeps
returns-in_err-audit-clause-keeps g c =
    let r = c.from_residual.result in
    let p = err_from_is_err_and r c.from_residual.ensures.1 in
    record {
      usable = first_of (search rules, grind (arith, common_steps));
      laid = first_of (search rules, grind (arith, common_steps));
      cause = still g.D.Disk.counts r (disks_in c.args.self.now) (λ i. ap (λ a. ending_for i a) p.1 ∙ ap (λ f. ending_at i f) p.2);
      named = passed_named (suc (layout_of c.args.self.now).volumes) r p.0 _ p.1 p.2 tt;
      plain = first_of (search rules, grind (arith, common_steps));
      taken = first_of (search rules, grind (arith, common_steps));
    }

pub returns-in_err-take_over_volumes-clause-keeps : goal.returns-in_err-take_over_volumes-clause-keeps
returns-in_err-take_over_volumes-clause-keeps g c =
    let r = c.from_residual-in_err-take_over_volumes.result in
    let p = err_from_is_err_and r c.from_residual-in_err-take_over_volumes.ensures.1 in
    let k = c.in_err-take_over_volumes.ensures.keeps in
    record {
      usable = first_of (search rules, grind (arith, common_steps));
      laid = first_of (search rules, grind (arith, common_steps));
      cause = by_volumes g.D.Disk.counts r c.args.self.now.trails.disk _ c.args.self.now.volumes.items c.take_over_volumes.new.volumes.items p.0 _ p.1 p.2 refl k;
      named = passed_own _ (layout_of c.args.self.now).volumes r p.0 _ c.args.self.now.sized p.1 p.2 k.named;
      plain = first_of (search rules, grind (arith, common_steps));
      taken = first_of (search rules, grind (arith, common_steps));
    }

pub returns-in-Ok-clause-keeps : goal.returns-in-Ok-clause-keeps
returns-in-Ok-clause-keeps g c = let r : Result Reply NodeFault = Ok (Number c.in_ok-audit.audit.upto) in record {
  usable = first_of (search rules, grind (arith, common_steps));
  laid = first_of (search rules, grind (arith, common_steps));
  cause = then_first g.D.Disk.counts r c.args.self.now.trails.disk _ c.args.self.now.volumes.items c.take_over_volumes.new.volumes.items c.in_ok-take_over_volumes.ensures.keeps c.in-Ok.ensures.stays.cause (λ i. refl);
  named = tt;
  plain = first_of (search rules, grind (arith, common_steps));
  taken = c.in-Ok.ensures.value.phase ∙ ap (λ n. phase.Taken n) c.in_ok-audit.ensures.upto;
}

pub returns-in-Err-clause-keeps : goal.returns-in-Err-clause-keeps
returns-in-Err-clause-keeps g c = let r : Result Reply NodeFault = Err c.at_disk.result in record {
  usable = first_of (search rules, grind (arith, common_steps));
  laid = first_of (search rules, grind (arith, common_steps));
  cause = then_first g.D.Disk.counts r c.args.self.now.trails.disk _ c.args.self.now.volumes.items c.take_over_volumes.new.volumes.items c.in_ok-take_over_volumes.ensures.keeps
      (first_here c.in-Err.fault c.at_disk.result _ _ c.at_disk.ensures c.in-Err.ensures.stays.cause) (first_alone c.in-Err.fault c.at_disk.result c.at_disk.ensures);
  named = fault_named 0 (suc (layout_of c.args.self.now).volumes) c.in-Err.fault c.at_disk.result c.at_disk.ensures (omega arith);
  plain = first_of (search rules, grind (arith, common_steps));
  taken = tt;
}
