use Rattle.std.proofs.Common.{ℕ, ap, get_or, sym, ◌∙◌}
use Rattle.rdf_model.specs.Contents.{nothing}
use Rattle.backup_machine.proofs.ShownLaws.{legal_from_none, shown_apart, shown_running, shown_taken, shown_taking}
use Rattle.backup_machine.proofs.backup.BackupState.shown.Goals as goal

pub returns-in-Running : goal.returns-in-Running
returns-in-Running c =
    shown_running c.raw_of.result c.args.layout.now c.args.trail.now c.args.self.now.volumes c.args.vol c.new-none.result c.first_of.result.now c.new-none.ensures c.in-Running.points c.get.result c.in-Running.is (c.get.ensures ∙ ap (λ (n : ℕ). get_or c.in-Running.points n 0) c.number.ensures.value) c.first_of.ensures c.raw_of.ensures

pub returns-in-Taking : goal.returns-in-Taking
returns-in-Taking c = shown_taking c.args.layout.now c.args.trail.now c.args.self.now.volumes c.args.vol c.new-none.result c.new-none.ensures c.in-Taking.is

pub returns-then-is_protected : goal.returns-then-is_protected
returns-then-is_protected c =
    shown_taken c.settled_of.result c.args.layout.now c.args.trail.now c.args.self.now.volumes c.args.vol c.new-none.result c.first_of-then-is_protected.result.now c.new-none.ensures c.in-Taken.upto c.in-Taken.is c.first_of-then-is_protected.ensures
    (sym c.is_protected.ensures ∙ c.if-is_protected.true) c.settled_of.ensures

pub returns-else-is_protected : goal.returns-else-is_protected
returns-else-is_protected c = shown_apart c.args.layout.now c.args.trail.now c.args.self.now.volumes c.args.vol c.new-none.result c.in-Taken.upto c.new-none.ensures c.in-Taken.is (sym c.is_protected.ensures ∙ c.if-is_protected.false)

pub settled_of-requires : goal.settled_of-requires
settled_of-requires c =
    legal_from_none c.new-none.result c.first_of-then-is_protected.result.now c.args.trail.now c.in-Taken.upto c.new-none.ensures c.first_of-then-is_protected.ensures
    (c.prefix_is_legal.ensures nothing c.args.trail.now c.in-Taken.upto c.requires)
