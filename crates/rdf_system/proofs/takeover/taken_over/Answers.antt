use Rattle.plan_lang.specs.declared.lines.Line.TheVariants as line
use Rattle.backup_node.specs.Kinds.{IsTakenOver}
use Rattle.backup_node.specs.Lines.{Performs, WhereLost}
use Rattle.rdf_system.proofs.CopyLaws.{node_at, site_did}
use Rattle.rdf_system.proofs.takeover.taken_over.Goals as goal

pub returns-clause-does : goal.returns-clause-does
returns-clause-does g c = λ own name named. site_did g.D.Disk.tells g.D.Disk.files g.D.Disk.counts own (Performs g.D.Disk.files (WhereLost c.args.lost)) (λ n. line.Takeover n) c.takeover-answer.result c.in-Some.node c.takeover-answer.new.self c.args.site.now c.in-Some.is
    c.takeover-answer.ensures.does c.stands.ensures name named

pub returns-clause-judged : goal.returns-clause-judged
returns-clause-judged g c = node_at (IsTakenOver c.args.lost c.takeover-answer.result) c.args.site.now c.in-Some.node c.in-Some.is c.takeover-answer.ensures.judged
