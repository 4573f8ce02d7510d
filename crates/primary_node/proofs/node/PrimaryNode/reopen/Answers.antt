use Rattle.std.proofs.Common.{rules, ◌≡◌, ℕ, zero, inl, Some, None, Vec, refl, sym, ap, subst}
use Rattle.std.specs.declared.alloc.Global.{Global}
use Rattle.rdf_disk.specs.Counts.Ending.{Fine}
use Rattle.node_faults.specs.Faults.{ending_at}
use Rattle.rdf_primary.specs.States.{disks_in}
use Rattle.node_faults.specs.Openings.{Pairs, IsRaised}
use Rattle.rdf_primary.specs.Restarting.{StoodFor, StoodForSome}
use Rattle.primary_node.specs.Lines.{Tells}
use Rattle.primary_node.proofs.CauseLaws.{each_off, serves_off, told_caused}
use Rattle.primary_node.proofs.OffLaws.{each_none}
use Rattle.primary_node.proofs.RestartLaws.{stood_for, reopens, shut_ends, shut_rest, none_raised, none_given, raised_fails, raised_fused, named_off, number_no}
use Rattle.primary_node.proofs.KindLaws.{numbered_replied, shut_replied, told_kept}
use Rattle.primary_node.specs.Moves.{standing_at}
use Rattle.primary_node.proofs.MovedLaws.{told_moves}
use Rattle.rdf_types.specs.declared.records.Node.TheVariants.{A}
use Rattle.plan_lang.specs.declared.lines.Line.TheVariants as lines
use Rattle.primary_node.proofs.node.PrimaryNode.reopen.Goals as goal

pub restart-requires-clause-stood : goal.restart-requires-clause-stood
restart-requires-clause-stood g c =
    let same = ap (λ (v : Vec g.row.D.Denot Global). v.items) c.replace-disks.ensures.value in
    λ tells. subst (λ ds. StoodForSome g.D.Disk.files ds) (sym same) (c.requires.rests.stood tells)

pub returns-in-Ok : goal.returns-in-Ok
returns-in-Ok g c =
    let same = ap (λ (v : Vec g.row.D.Denot Global). v.items) c.replace-disks.ensures.value in
    let ys = disks_in c.in-Ok.primary in
    let raised = subst (λ ds. Pairs (IsRaised g.D.Disk.counts) zero None ds ys) same c.in-Ok.ensures.cause in
    record {
      performs = λ tells layout a rise some at.
          let stood = stood_for g.D.Disk.files layout a rise c.args.self.now at c.requires.not_up c.requires.not_lost in
          reopens g.D.Disk.files layout a rise (record c.args.self.now { primary = Some c.in-Ok.primary; disks = c.replace-disks.new.dest }) c.in-Ok.primary c.in-Ok.backed_out refl stood.down
          (c.in-Ok.ensures.ok tells layout a (subst (λ ds. StoodFor g.D.Disk.files layout a ds) (sym same) stood));
      serves = search rules;
      sized = search rules;
      cause = inl (each_none c.args.self.now c.requires.not_up (λ i x y. Tells Fine (g.D.Disk.counts x) (g.D.Disk.counts y)) ys (none_raised g.D.Disk.counts c.args.self.now.disks.items ys raised), number_no c.in-Ok.backed_out);
      sound = search rules;
      fuses = inl (each_none c.args.self.now c.requires.not_up (λ i x y. (g.D.Disk.counts y).fuses ≡ (g.D.Disk.counts x).fuses) ys (none_given g.D.Disk.counts c.args.self.now.disks.items ys raised), refl);
      kept = search rules;
      kinds = numbered_replied c.args.self.now c.in-Ok.backed_out c.requires.not_up c.requires.not_lost;
      moved = refl;
    }

pub returns-in-Err : goal.returns-in-Err
returns-in-Err g c =
    let same = ap (λ (v : Vec g.row.D.Denot Global). v.items) c.replace-disks.ensures.value in
    let xs = c.args.self.now.disks.items in
    let ys = c.in-Err.shut.disks.items in
    let zs = c.cut_all.new.disks.items in
    let new = record c.args.self.now { disks = c.cut_all.new.disks } in
    let raised = subst (λ ds. Pairs (IsRaised g.D.Disk.counts) zero (Some c.in-Err.shut.fault) ds ys) same c.in-Err.ensures.cause in
    let Fails = λ (i : ℕ) (x z : g.row.D.Denot). Tells (ending_at i c.in-Err.shut.fault) (g.D.Disk.counts x) (g.D.Disk.counts z) in
    let Fuses = λ (i : ℕ) (x z : g.row.D.Denot). (g.D.Disk.counts z).fuses ≡ (g.D.Disk.counts x).fuses in
    record {
      performs = λ tells layout a rise some at.
          let stood = stood_for g.D.Disk.files layout a rise c.args.self.now at c.requires.not_up c.requires.not_lost in
          shut_ends g.D.Disk.tells g.D.Disk.files g.D.Disk.counts tells layout a rise ys new c.cut_all.ensures
          (c.in-Err.ensures.err tells layout a (subst (λ ds. StoodFor g.D.Disk.files layout a ds) (sym same) stood)) stood.down c.requires.not_up c.requires.not_lost some c.in-Err.shut.fault c.stop_told.result c.stop_told.ensures;
      serves = serves_off new c.requires.not_up g.D.Disk.tells g.D.Disk.files g.D.Disk.counts c.args.self.now.volumes refl
          (shut_rest g.D.Disk.tells g.D.Disk.files g.D.Disk.counts c.args.self.now.volumes xs ys zs c.in-Err.shut.fault c.requires.rests raised c.cut_all.ensures
          (λ tells layout a stood. c.in-Err.ensures.err tells layout a (subst (λ ds. StoodFor g.D.Disk.files layout a ds) (sym same) stood)));
      sized = search rules;
      cause = told_caused g.D.Disk.counts c.in-Err.shut.fault c.args.self.now new c.stop_told.result c.stop_told.ensures (
        named_off c.args.self.now c.in-Err.shut.fault c.args.layout.now.volumes c.requires.not_up c.requires.rests.many c.requires.laid c.in-Err.ensures.named,
        each_none c.args.self.now c.requires.not_up Fails _ (each_off new c.requires.not_up Fails xs (raised_fails g.D.Disk.counts g.D.Disk.tells g.D.Disk.files c.in-Err.shut.fault xs ys zs raised c.cut_all.ensures)),
      );
      sound = search rules;
      fuses = inl (each_none c.args.self.now c.requires.not_up Fuses _ (each_off new c.requires.not_up Fuses xs (raised_fused g.D.Disk.counts g.D.Disk.tells g.D.Disk.files c.in-Err.shut.fault xs ys zs raised c.cut_all.ensures)), refl);
      kept = told_kept c.args.self.now new c.in-Err.shut.fault c.stop_told.result c.stop_told.ensures;
      kinds = shut_replied c.args.self.now c.in-Err.shut.fault c.stop_told.result c.stop_told.ensures c.requires.not_up c.requires.not_lost;
      moved = told_moves new c.requires.not_up (lines.Restart A) c.in-Err.shut.fault c.stop_told.result (standing_at c.args.self.now) c.stop_told.ensures c.requires.not_lost;
    }
