use Rattle.std.proofs.Common.{IfOk, sym, subst}
use Rattle.rdf_core.specs.Happens.{Does}
use Rattle.rdf_core.specs.State.{State}
use Rattle.backup_machine.specs.Kept.{backup_of}
use Rattle.rdf_machine.specs.Machines.{state_of}
use Rattle.rdf_machine.proofs.Backups.{backup_at, keep, kept_of, put}
use Rattle.rdf_machine.proofs.PartLaws.{on_backup_over}
use Rattle.rdf_machine.proofs.parts.Parts.on_backup.Goals as goal

pub returns-clause-ok : goal.returns-clause-ok
returns-clause-ok c =
    let s = state_of c.args.self.now in
    subst (λ (x : State). IfOk c.line.result (λ reply. Does c.args.layout.now s c.args.line.now reply x)) (sym (put c.args.self.now c.args.node c.line.new.self))
    (on_backup_over c.line.result c.args.layout.now s c.args.line.now c.trail.result.now c.outside-outside.result c.get_mut.result.now c.args.node (backup_of c.line.new.self) c.trail.ensures
    (backup_at c.args.self.now c.args.node c.get_mut.result.now c.get_mut.ensures.value) c.outside-outside.ensures.lost c.outside-outside.ensures.message c.requires.backup c.requires.of c.line.ensures.ok)

pub returns-clause-kept : goal.returns-clause-kept
returns-clause-kept c =
    keep c.args.self.now c.args.node c.line.new.self c.args.layout.now c.trail.result.now c.trail.ensures (kept_of c.args.layout.now c.args.self.now c.requires.follow) c.line.ensures.kept
