use Rattle.node_faults.specs.Faults.{NamesOwn}
use Rattle.rdf_backup.proofs.TakeoverLaws.{known_goes, then_ends, not_taken}
use Rattle.image_disks.specs.Values.{received}
use Rattle.std.proofs.Common.{rules, ◌≡◌, ◌∙◌, refl, ℕ, suc, IfOk, OnOk, ap, subst, Result, Ok, IfErr, arith}
use Rattle.std.proofs.lemmas.Grind.{common_steps}
use Rattle.rdf_types.specs.declared.records.Phase.TheVariants as phase
use Rattle.rdf_core.specs.declared.replies.Reply.{Reply}
use Rattle.rdf_core.specs.declared.replies.Reply.TheVariants.{Number}
use Rattle.rdf_backup.specs.Refusals.{IsNumber}
use Rattle.std.proofs.lemmas.Result.{err_from_is_err_and}
use Rattle.rdf_backup.specs.States.{layout_of, value_of, disks_in}
use Rattle.node_faults.specs.declared.NodeFault.{NodeFault}
use Rattle.rdf_backup.proofs.KeepingLaws.{still, passed_on, then_ended}
use Rattle.rdf_backup.proofs.Naming.{passed_named}
use Rattle.rdf_backup.specs.Damage.{IsWrong}
use Rattle.rdf_backup.proofs.DamageLaws.{passed_wrong, sound_told}
use Rattle.rdf_backup.proofs.backup.Backup.takeover.Goals as goal

pub returns-then-has_taken_all-clause-ends : goal.returns-then-has_taken_all-clause-ends
returns-then-has_taken_all-clause-ends g c = λ tells w node lost serves.
    known_goes g.D.Disk.files w node lost c.args.self.now serves c.received.result c.received.ensures (c.has_taken_all.ensures.all c.if-has_taken_all.true)

pub returns-clause-ends : goal.returns-clause-ends
returns-clause-ends g c = λ tells w node lost serves.
    then_ends g.D.Disk.files w node lost c.args.self.now c.mark_taking.new.self c.take_over.new.self c.in_ok-mark_taking.ensures.keeps.laid c.in_ok-mark_taking.ensures.state
    (not_taken c.args.self.now (c.has_taken_all.ensures.some c.if-has_taken_all.false)) c.take_over.result
    (c.take_over.ensures.ends tells w node lost (c.in_ok-mark_taking.ensures.serves tells w.trail serves))

pub returns-then-has_taken_all-clause-told : goal.returns-then-has_taken_all-clause-told
returns-then-has_taken_all-clause-told g c = ap (λ (n : ℕ). let s : Reply = Number n in s) c.received.ensures

pub returns-clause-told : goal.returns-clause-told
returns-clause-told g c = subst (λ n. IfOk c.take_over.result (IsNumber n)) c.in_ok-mark_taking.ensures.received c.take_over.ensures.told

pub returns-in_err-mark_taking-clause-damaged : goal.returns-in_err-mark_taking-clause-damaged
returns-in_err-mark_taking-clause-damaged g c =
    let old = c.args.self.now in
    let p = err_from_is_err_and c.from_residual.result c.from_residual.ensures.1 in
    passed_wrong g.D.Disk.tells (layout_of old) (received (value_of old)) old.volumes.items c.from_residual.result p.0 _ p.1 p.2
    (sound_told g.D.Disk.tells (layout_of old) (received (value_of old)) old.volumes.items _ c.in_err-mark_taking.ensures.sound)

pub returns-clause-damaged : goal.returns-clause-damaged
returns-clause-damaged g c =
    let mid = c.mark_taking.new.self in
    let laid = c.in_ok-mark_taking.ensures.keeps.laid in
    let same = c.in_ok-mark_taking.ensures.received in
    let volumes = c.in_ok-mark_taking.ensures.volumes in
    subst (λ l. IfErr c.take_over.result (IsWrong g.D.Disk.tells l (received (value_of c.args.self.now)) c.args.self.now.volumes.items)) laid
    (subst (λ n. IfErr c.take_over.result (IsWrong g.D.Disk.tells (layout_of mid) n c.args.self.now.volumes.items)) same
    (subst (λ vs. IfErr c.take_over.result (IsWrong g.D.Disk.tells (layout_of mid) (received (value_of mid)) vs.items)) volumes c.take_over.ensures.damaged))

pub returns-then-has_taken_all-clause-keeps : goal.returns-then-has_taken_all-clause-keeps
returns-then-has_taken_all-clause-keeps g c = let r : Result Reply NodeFault = Ok (Number c.received.result) in record {
  usable = first_of (search rules, grind (arith, common_steps));
  laid = refl;
  cause = still g.D.Disk.counts r (disks_in c.args.self.now) (λ i. refl);
  named = tt;
  plain = first_of (search rules, grind (arith, common_steps));
  taken = c.has_taken_all.ensures.all c.if-has_taken_all.true;
}

pub returns-in_err-mark_taking-clause-keeps : goal.returns-in_err-mark_taking-clause-keeps
returns-in_err-mark_taking-clause-keeps g c =
    let r = c.from_residual.result in
    let p = err_from_is_err_and r c.from_residual.ensures.1 in
    let k = c.in_err-mark_taking.ensures.keeps in
    record {
      usable = first_of (search rules, grind (arith, common_steps));
      laid = k.laid;
      cause = passed_on g.D.Disk.counts r p.0 _ (disks_in c.args.self.now) (disks_in c.mark_taking.new.self) p.1 p.2 k.cause;
      named = passed_named (suc (layout_of c.args.self.now).volumes) r p.0 _ p.1 p.2 k.named;
      plain = first_of (search rules, grind (arith, common_steps));
      taken = first_of (search rules, grind (arith, common_steps));
    }

pub returns-clause-keeps : goal.returns-clause-keeps
returns-clause-keeps g c =
    let k = c.take_over.ensures.keeps in
    let m = c.in_ok-mark_taking.ensures.keeps in
    record {
      usable = k.usable;
      laid = k.laid ∙ m.laid;
      cause = then_ended g.D.Disk.counts c.take_over.result (disks_in c.args.self.now) (disks_in c.mark_taking.new.self) (disks_in c.take_over.new.self) m.cause k.cause;
      named = subst (λ l. NamesOwn l.volumes c.take_over.result) m.laid k.named;
      plain = k.plain;
      taken = subst (λ n. OnOk c.take_over.result ((value_of c.take_over.new.self).phase ≡ phase.Taken n)) c.in_ok-mark_taking.ensures.received k.taken;
    }
