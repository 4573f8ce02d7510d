use Rattle.plan_lang.specs.declared.lines.Line.TheVariants as line
use Rattle.backup_node.specs.Kinds.{IsCopied}
use Rattle.backup_node.specs.Lines.{FromLead, Performs}
use Rattle.rdf_system.proofs.CopyLaws.{at_state, from_site, node_at, node_did, same_layout}
use Rattle.rdf_system.proofs.copying.copied.Goals as goal

pub copy_from-requires-clause-same : goal.copy_from-requires-clause-same
copy_from-requires-clause-same g c = same_layout c.args.own.now c.args.lead.now c.in-Some.node c.in-Some.is c.requires.same

pub returns-clause-does : goal.returns-clause-does
returns-clause-does g c = λ laid node from named. from_site g.D.Disk.tells g.D.Disk.files g.D.Disk.counts laid node from c.args.lead.now c.in-Some.node c.copy_from.result c.args.own.now c.copy_from.new.self c.in-Some.is
    (node_did g.D.Disk.tells g.D.Disk.files g.D.Disk.counts laid (Performs g.D.Disk.files (FromLead g.D.Disk.files c.in-Some.node)) (λ n. line.CopyAudit n from) c.copy_from.result c.args.own.now c.copy_from.new.self node named (at_state (c.copy_from.ensures.does from)))

pub returns-clause-judged : goal.returns-clause-judged
returns-clause-judged g c = λ from. node_at (λ n. IsCopied from n c.copy_from.result c.args.own.now) c.args.lead.now c.in-Some.node c.in-Some.is (c.copy_from.ensures.judged from)
