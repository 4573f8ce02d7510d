use Rattle.std.proofs.Common.{◌≡◌, ℕ, ◌∙◌, length, inl, Some, None, Ok, Vec, refl, sym, ap, subst, arith, suc, IfOk}
use Rattle.std.specs.declared.alloc.Global.{Global}
use Rattle.rdf_types.specs.declared.layout.Layout.{Layout}
use Rattle.rdf_disk.specs.Counts.Ending.{Fine}
use Rattle.plan_lang.specs.declared.lines.Line.TheVariants as lines
use Rattle.node_faults.specs.Faults.{ending_at, IsNamed}
use Rattle.node_faults.specs.Openings.{AreRaised}
use Rattle.rdf_core.specs.declared.replies.NoWhy.TheVariants as no
use Rattle.rdf_core.specs.declared.replies.Reply.{Reply}
use Rattle.rdf_core.specs.declared.replies.Reply.TheVariants.{No, Number}
use Rattle.rdf_backup.specs.Refusals.{IsNumber}
use Rattle.rdf_backup.specs.States.{disks_in}
use Rattle.rdf_backup.specs.Standing.{BackupStandsFor}
use Rattle.node_disks.specs.Counting.{Tells}
use Rattle.backup_node.specs.Nodes.{IsAt, IsOffAt}
use Rattle.backup_node.specs.Kinds.{state_at}
use Rattle.backup_node.specs.Lines.{Follows, Ends, IsCaused}
use Rattle.backup_node.proofs.NodeLaws.{off_at}
use Rattle.backup_node.proofs.LaidLaws.{laid_off}
use Rattle.backup_node.proofs.SettleLaws.{named_off, each_off, each_was_off, serves_off, was_off, told_caused, told_sound}
use Rattle.backup_node.proofs.RestartLaws.{none_there, restart_up, reopens, shut_ends, shut_rests, none_raised, none_given, raised_fails, raised_fused, undamaged, number_no}
use Rattle.backup_node.proofs.KindLaws.{number_done, reopened_replied, told_done, told_judged, up_replied}
use Rattle.backup_node.proofs.DoesLaws.{no_no, still_keeps}
use Rattle.backup_node.proofs.node.BackupNode.restart.Goals as goal
use Rattle.backup_node.specs.Moves.{phase_among, phase_at, Rises}
use Rattle.backup_node.proofs.MovedLaws.{told_moved}

pub returns-then-is_some : goal.returns-then-is_some
returns-then-is_some g c = record {
  performs = λ t layout w b rise some laid at. restart_up g.D.Disk.files layout w b rise c.args.self.now at (sym c.is_some.ensures ∙ c.if-is_some.true);
  keeps = still_keeps g.D.Disk.tells g.D.Disk.files g.D.Disk.counts c.args.self.now c.requires.serves (lines.Restart c.args.self.now.name) (No no.Up) (no_no no.Up c.args.self.now.name) refl refl (up_replied c.args.self.now (sym c.is_some.ensures ∙ c.if-is_some.true));
  laid = λ h. h;
  sound = λ t. tt;
}

pub restart-requires : goal.restart-requires
restart-requires g c =
    let many = (was_off c.args.self.now g.D.Disk.tells g.D.Disk.files g.D.Disk.counts (none_there c.args.self.now.backup (sym c.is_some.ensures ∙ c.if-is_some.false)) c.requires.serves).many in
    let same = ap (λ (v : Vec g.row.D.Denot Global). length v.items) c.replace-disks.ensures.value in
    let sized = c.requires.laid in
    record { many = omega (arith, many, same, sized) }

pub returns-in-Ok : goal.returns-in-Ok
returns-in-Ok g c =
    let none = none_there c.args.self.now.backup (sym c.is_some.ensures ∙ c.if-is_some.false) in
    let same = ap (λ (v : Vec g.row.D.Denot Global). v.items) c.replace-disks.ensures.value in
    let new = record c.args.self.now { backup = Some c.in-Ok.backup; disks = c.replace-disks.new.dest } in
    let ys = disks_in c.in-Ok.backup in
    let raised = subst (λ ds. AreRaised g.D.Disk.counts None ds ys) same c.in-Ok.ensures.cause in
    record {
      performs = λ t layout w b rise some laid at.
          let here : IsAt g.D.Disk.files c.args.layout.now w.trail b c.args.self.now = subst (λ y. IsAt g.D.Disk.files y w.trail b c.args.self.now) laid at in
          let h : IsOffAt g.D.Disk.files c.args.layout.now w.trail b c.args.self.now.disks.items = off_at g.D.Disk.files c.args.layout.now w.trail b c.args.self.now none here in
          subst (λ y. Follows g.D.Disk.files y w c.args.self.now.name b (lines.Restart c.args.self.now.name) rise (Number c.received-n.result) new) (sym laid)
          (reopens g.D.Disk.files c.args.layout.now w b rise c.args.self.now new none here c.in-Ok.backup c.received-n.result refl c.in-Ok.ensures.laid
          (c.in-Ok.ensures.ok t w.trail b (subst (λ ds. BackupStandsFor g.D.Disk.files c.args.layout.now w.trail b ds) (sym same) h.stands) h.at_zero) c.received-n.ensures);
      keeps = record {
        serves = record {
          runs = λ t.
              let s = c.requires.stood t in
              let h : IsOffAt g.D.Disk.files c.args.layout.now s.0 s.1.0 c.args.self.now.disks.items = off_at g.D.Disk.files c.args.layout.now s.0 s.1.0 c.args.self.now none s.1.1 in
              c.in-Ok.ensures.usable t s.0 s.1.0 (subst (λ ds. BackupStandsFor g.D.Disk.files c.args.layout.now s.0 s.1.0 ds) (sym same) h.stands);
          sized = ap (λ (y : Layout). y.volumes) c.in-Ok.ensures.laid ∙ c.requires.laid;
          on = c.in-Ok.ensures.on;
        };
        sized = refl;
        named = refl;
        cause = inl (each_was_off c.args.self.now none (λ i x y. Tells Fine (g.D.Disk.counts x) (g.D.Disk.counts y)) ys (none_raised g.D.Disk.counts c.args.self.now.disks.items ys raised), number_no c.received-n.result c.args.self.now.name);
        fuses = inl (each_was_off c.args.self.now none (λ i x y. (g.D.Disk.counts y).fuses ≡ (g.D.Disk.counts x).fuses) ys (none_given g.D.Disk.counts c.args.self.now.disks.items ys raised), refl);
        kinds = reopened_replied c.args.self.now (Ok (Number c.received-n.result)) new none (inl (ap (λ (m : ℕ). let reply : Reply = Number m in reply) c.received-n.ensures));
        kept = λ h. absurd (number_done (Ok (Number c.received-n.result)) c.received-n.result refl h);
        moved = refl;
      };
      laid = λ h. c.in-Ok.ensures.laid;
      sound = λ t. tt;
    }

pub returns-in-Err : goal.returns-in-Err
returns-in-Err g c =
    let none = none_there c.args.self.now.backup (sym c.is_some.ensures ∙ c.if-is_some.false) in
    let same = ap (λ (v : Vec g.row.D.Denot Global). v.items) c.replace-disks.ensures.value in
    let new = record c.args.self.now { disks = c.cut_all.new.disks } in
    let why = c.in-Err.shut.fault in
    let xs = c.args.self.now.disks.items in
    let ys = c.in-Err.shut.disks.items in
    let zs = c.cut_all.new.disks.items in
    let rests = was_off c.args.self.now g.D.Disk.tells g.D.Disk.files g.D.Disk.counts none c.requires.serves in
    let raised = subst (λ ds. AreRaised g.D.Disk.counts (Some why) ds ys) same c.in-Err.ensures.cause in
    let fails = λ (i : ℕ) (x z : g.row.D.Denot). Tells (ending_at i why) (g.D.Disk.counts x) (g.D.Disk.counts z) in
    let given = λ (i : ℕ) (x z : g.row.D.Denot). (g.D.Disk.counts z).fuses ≡ (g.D.Disk.counts x).fuses in
    record {
      performs = λ t layout w b rise some laid at.
          let here : IsAt g.D.Disk.files c.args.layout.now w.trail b c.args.self.now = subst (λ y. IsAt g.D.Disk.files y w.trail b c.args.self.now) laid at in
          let h : IsOffAt g.D.Disk.files c.args.layout.now w.trail b xs = off_at g.D.Disk.files c.args.layout.now w.trail b c.args.self.now none here in
          subst (λ y. Ends g.D.Disk.files y w c.args.self.now.name b (lines.Restart c.args.self.now.name) rise c.stop_told.result new) (sym laid)
          (shut_ends g.D.Disk.files c.args.layout.now w b rise c.args.self.now new none here g.D.Disk.tells g.D.Disk.counts t ys
          (c.in-Err.ensures.err t w.trail b (subst (λ ds. BackupStandsFor g.D.Disk.files c.args.layout.now w.trail b ds) (sym same) h.stands)) none c.cut_all.ensures some why c.stop_told.result c.stop_told.ensures);
      keeps = record {
        serves = serves_off new g.D.Disk.tells g.D.Disk.files g.D.Disk.counts c.args.self.now.volumes none refl (shut_rests g.D.Disk.counts g.D.Disk.tells g.D.Disk.files why xs ys zs raised c.cut_all.ensures c.args.self.now.volumes rests);
        sized = refl;
        named = refl;
        cause = subst (λ r. IsCaused g.D.Disk.counts (lines.Restart c.args.self.now.name) r c.args.self.now new) (sym c.stop_told.ensures) (told_caused g.D.Disk.counts (lines.Restart c.args.self.now.name) why c.args.self.now new (
          named_off c.args.self.now why none rests.many (subst (λ v. IsNamed (suc v) why) c.requires.laid c.in-Err.ensures.named),
          (λ i. ending_at i why, (inl (λ i. refl), each_was_off c.args.self.now none fails _ (each_off new none fails xs (raised_fails g.D.Disk.counts g.D.Disk.tells g.D.Disk.files why xs ys zs raised c.cut_all.ensures)))),
        ));
        fuses = inl (each_was_off c.args.self.now none given _ (each_off new none given xs (raised_fused g.D.Disk.counts g.D.Disk.tells g.D.Disk.files why xs ys zs raised c.cut_all.ensures)), refl);
        kinds = reopened_replied c.args.self.now c.stop_told.result new none (told_judged c.args.self.now.name (lines.Restart c.args.self.now.name) (λ reply. IsNumber (state_at new).received reply) why c.stop_told.result c.stop_told.ensures refl);
        kept = λ h. absurd (told_done c.args.self.now.name why c.stop_told.result c.stop_told.ensures h);
        moved = subst (λ r. IfOk r (λ reply. Rises reply (phase_at c.args.self.now) (phase_at new))) (sym c.stop_told.ensures)
            (told_moved Rises (λ m o. refl) c.args.self.now.name why (phase_at c.args.self.now) (phase_at new) (ap (λ o. phase_among o) none));
      };
      laid = λ h. laid_off c.args.layout.now new none;
      sound = λ t.
          let s = c.requires.stood t in
          let h : IsOffAt g.D.Disk.files c.args.layout.now s.0 s.1.0 xs = off_at g.D.Disk.files c.args.layout.now s.0 s.1.0 c.args.self.now none s.1.1 in
          told_sound c.args.self.now.name why c.stop_told.result c.stop_told.ensures (undamaged why (c.in-Err.ensures.sound t s.0 s.1.0 (subst (λ ds. BackupStandsFor g.D.Disk.files c.args.layout.now s.0 s.1.0 ds) (sym same) h.stands)));
    }
