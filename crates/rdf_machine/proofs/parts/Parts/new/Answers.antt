use Rattle.std.proofs.Common.{ap}
use Rattle.rdf_core.specs.Primary.{Primary}
use Rattle.rdf_machine.proofs.Backups.{kept_first}
use Rattle.rdf_machine.proofs.parts.Parts.new.Goals as goal

pub returns-clause-kept : goal.returns-clause-kept
returns-clause-kept c = record {
  backups = kept_first c.args.layout.now c.new-4.result.trail c.new-9.result c.in_ok-a.a c.in_ok-b.b c.in_ok-c.c (ap (λ (a : Primary). a.trail) c.new-4.ensures) c.new-9.ensures c.in_ok-a.ensures.kept c.in_ok-b.ensures.kept c.in_ok-c.ensures.kept;
  index = c.new-10.ensures c.new-4.result.trail;
}
