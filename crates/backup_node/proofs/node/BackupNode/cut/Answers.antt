use Rattle.std.proofs.Common.{◌≡◌, ℕ, inl, refl, sym, ap}
use Rattle.rdf_disk.specs.Counts.Ending.{Fine}
use Rattle.plan_lang.specs.declared.lines.Line.TheVariants as lines
use Rattle.rdf_backup.specs.States.{disks_in}
use Rattle.node_disks.specs.Counting.{Tells}
use Rattle.node_disks.specs.CountLaws.{cut_fine, cut_fuses}
use Rattle.backup_node.proofs.LaidLaws.{laid_off}
use Rattle.backup_node.proofs.SettleLaws.{each_off, each_was, serves_off, was_up, are_off}
use Rattle.backup_node.proofs.DownLaws.{cut_done}
use Rattle.backup_node.proofs.KindLaws.{cut_replied, done_kept}
use Rattle.backup_node.proofs.DoesLaws.{down_does, done_no}
use Rattle.backup_node.proofs.node.BackupNode.cut.Goals as goal
use Rattle.backup_node.specs.Moves.{phase_among}

pub returns-in-None : goal.returns-in-None
returns-in-None g c = down_does g.D.Disk.tells g.D.Disk.files g.D.Disk.counts c.args.self.now c.requires.serves (lines.Cut c.args.self.now.name) _ _ c.take.ensures.after c.in-None.ensures.value refl (λ layout w b. refl) refl

pub returns-in-Some : goal.returns-in-Some
returns-in-Some g c =
    let new = c.fall.new.self in
    let before = c.in-Some.backup in
    let was = sym c.in-Some.ensures.value in
    let run = was_up c.args.self.now g.D.Disk.tells g.D.Disk.files g.D.Disk.counts before was c.requires.serves in
    let fine = λ (i : ℕ) (x y : g.row.D.Denot). Tells Fine (g.D.Disk.counts x) (g.D.Disk.counts y) in
    let same = λ (i : ℕ) (x y : g.row.D.Denot). (g.D.Disk.counts y).fuses ≡ (g.D.Disk.counts x).fuses in
    record {
      performs = λ t layout w b rise some any at. cut_done g.D.Disk.files layout w b rise c.args.self.now new at before was c.fall.ensures.off g.D.Disk.tells g.D.Disk.counts t c.fall.ensures.cut;
      keeps = record {
        serves = serves_off new g.D.Disk.tells g.D.Disk.files g.D.Disk.counts c.args.self.now.volumes c.fall.ensures.off c.fall.ensures.sized (are_off g.D.Disk.tells g.D.Disk.files g.D.Disk.counts before c.args.self.now.volumes new.disks.items run.sized c.fall.ensures.cut);
        sized = c.fall.ensures.sized;
        named = c.fall.ensures.named;
        cause = inl (
          each_was c.args.self.now before was fine _ (each_off new c.fall.ensures.off fine (disks_in before) (cut_fine g.D.Disk.counts g.D.Disk.tells g.D.Disk.files (disks_in before) new.disks.items c.fall.ensures.cut)),
          done_no c.args.self.now.name,
        );
        fuses = inl (
          each_was c.args.self.now before was same _ (each_off new c.fall.ensures.off same (disks_in before) (cut_fuses g.D.Disk.counts g.D.Disk.tells g.D.Disk.files (disks_in before) new.disks.items c.fall.ensures.cut)),
          refl,
        );
        kinds = cut_replied c.args.self.now before c.in-Some.ensures.value new;
        kept = λ h. absurd (done_kept h);
        moved = ap (λ o. phase_among o) c.fall.ensures.off;
      };
      laid = λ layout h. laid_off layout new c.fall.ensures.off;
      sound = λ t. tt;
      still = λ h. absurd (done_kept h);
    }
