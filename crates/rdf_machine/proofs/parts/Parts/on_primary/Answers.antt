use Rattle.std.proofs.Common.{refl}
use Rattle.rdf_machine.specs.Machines.{state_of}
use Rattle.rdf_machine.proofs.FollowLaws.{all_grow}
use Rattle.rdf_machine.proofs.PartLaws.{on_primary, primary_grows}
use Rattle.rdf_machine.proofs.parts.Parts.on_primary.Goals as goal

pub returns-clause-ok : goal.returns-clause-ok
returns-clause-ok c = on_primary c.line.result c.args.layout.now (state_of c.args.self.now) c.args.line.now c.line.new.self c.requires.primary c.line.ensures.ok

pub returns-clause-kept : goal.returns-clause-kept
returns-clause-kept c =
    all_grow c.args.layout.now c.args.self.now c.line.new.self.trail c.requires.follow
    (primary_grows c.line.result c.args.layout.now (state_of c.args.self.now) c.args.line.now c.line.new.self c.line.ensures.ok c.line.ensures.err) (record c.args.self.now { primary = c.line.new.self }) refl refl refl
