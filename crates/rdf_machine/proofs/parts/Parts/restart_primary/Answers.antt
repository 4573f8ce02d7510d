use Rattle.std.proofs.Common.{refl}
use Rattle.plan_lang.specs.declared.lines.Line.TheVariants as line
use Rattle.rdf_types.specs.declared.records.Node.TheVariants.{A}
use Rattle.rdf_machine.specs.Machines.{state_of}
use Rattle.rdf_machine.proofs.FollowLaws.{all_grow}
use Rattle.rdf_machine.proofs.MachineLaws.{restart_refused}
use Rattle.rdf_machine.proofs.PartLaws.{primary_grows}
use Rattle.rdf_machine.proofs.parts.Parts.restart_primary.Goals as goal

pub returns-in-Number-clause-kept : goal.returns-in-Number-clause-kept
returns-in-Number-clause-kept c =
    all_grow c.args.layout.now c.args.self.now c.restart.new.self.trail c.requires.follow
    (primary_grows c.restart.result c.args.layout.now (state_of c.args.self.now) (line.Restart A) c.restart.new.self c.restart.ensures.ok c.restart.ensures.err) _ refl refl refl

pub returns-in_default-clause-kept : goal.returns-in_default-clause-kept
returns-in_default-clause-kept c =
    all_grow c.args.layout.now c.args.self.now c.restart.new.self.trail c.requires.follow
    (primary_grows c.restart.result c.args.layout.now (state_of c.args.self.now) (line.Restart A) c.restart.new.self c.restart.ensures.ok c.restart.ensures.err) _ refl refl refl

pub returns-in_default-clause-ok : goal.returns-in_default-clause-ok
returns-in_default-clause-ok c = restart_refused c.args.layout.now (state_of c.args.self.now) c.in_ok-refused.refused c.restart.new.self c.in_default.not-Number c.in_ok-refused.ensures.ok
