use Rattle.std.proofs.Common.{refl, sym, ◌∙◌}
use Rattle.rdf_machine.specs.Machines.{state_of}
use Rattle.rdf_machine.proofs.CutOffLaws.{backup_stops, primary_stops, stop_grows}
use Rattle.rdf_machine.proofs.FollowLaws.{all_grow}
use Rattle.rdf_machine.proofs.parts.Parts.stop.Goals as goal

pub returns-then-not-is_on_backup-clause-ok : goal.returns-then-not-is_on_backup-clause-ok
returns-then-not-is_on_backup-clause-ok c =
    primary_stops c.args.layout.now (state_of c.args.self.now) c.args.node c.args.line.now c.args.done c.requires.can c.stop.result c.stop.new.self (sym c.is_on_backup.ensures ∙ c.if-not-is_on_backup.true) c.stop.ensures.ok

pub returns-then-not-is_on_backup-clause-kept : goal.returns-then-not-is_on_backup-clause-kept
returns-then-not-is_on_backup-clause-kept c =
    all_grow c.args.layout.now c.args.self.now c.stop.new.self.trail c.requires.follow
    (stop_grows c.args.layout.now (state_of c.args.self.now) c.args.node c.args.line.now c.args.done c.requires.can c.stop.result c.stop.new.self (sym c.is_on_backup.ensures ∙ c.if-not-is_on_backup.true) c.stop.ensures.ok c.stop.ensures.err)
    (record c.args.self.now { primary = c.stop.new.self }) refl refl refl

pub returns-clause-ok : goal.returns-clause-ok
returns-clause-ok c =
    backup_stops c.args.layout.now (state_of c.args.self.now) c.args.node c.args.line.now c.args.done c.requires.can (state_of c.first_parts.new.self) (state_of c.fall.new.self) (sym c.is_on_backup.ensures ∙ c.if-not-is_on_backup.false)
    c.in_ok-first_parts.ensures.ok c.fall.ensures.fallen

pub returns-clause-kept : goal.returns-clause-kept
returns-clause-kept c = c.fall.ensures.kept c.args.layout.now c.in_ok-first_parts.ensures.kept
