use Rattle.std.proofs.Common.{rules}
use Rattle.rdf_core.specs.Lines.{around}
use Rattle.by_node.specs.Each.{at}
use Rattle.rdf_core.specs.Step.{points_now}
use Rattle.backup_machine.specs.Kept.{backup_of}
use Rattle.backup_machine.specs.Lines.{first_of}
use Rattle.rdf_machine.specs.Machines.{state_of}
use Rattle.rdf_machine.proofs.Backups.{backup_at, keep, kept_of, put_on_ok}
use Rattle.rdf_machine.proofs.PartLaws.{first_over}
use Rattle.rdf_machine.proofs.parts.Parts.first_parts.Goals as goal

pub returns : goal.returns
returns c =
    let s = state_of c.args.self.now in
    record {
      ok = put_on_ok c.args.self.now c.args.node c.first_parts.new.self c.first_parts.result (first_of c.args.layout.now (around (points_now c.args.layout.now s c.args.node) s c.args.line.now) c.args.line.now (at s.backups c.args.node) c.args.done)
          (first_over c.first_parts.result c.args.layout.now s c.args.line.now c.trail.result.now c.outside-outside.result c.get_mut.result.now c.args.node (backup_of c.first_parts.new.self) c.args.done c.trail.ensures
          (backup_at c.args.self.now c.args.node c.get_mut.result.now c.get_mut.ensures.value) c.outside-outside.ensures.lost c.outside-outside.ensures.message c.first_parts.ensures.ok);
      kept = keep c.args.self.now c.args.node c.first_parts.new.self c.args.layout.now c.trail.result.now c.trail.ensures (kept_of c.args.layout.now c.args.self.now c.requires.follow) c.first_parts.ensures.kept;
      err = search rules;
    }
