use Rattle.std.proofs.Common.{sym, subst}
use Rattle.plan_lang.specs.declared.lines.Line.TheVariants as line
use Rattle.backup_node.specs.Kinds.{IsCopied}
use Rattle.backup_node.specs.Lines.{Performs}
use Rattle.backup_node.specs.Nodes.{IsLaid}
use Rattle.rdf_system.specs.declared.site.Site.{Site}
use Rattle.rdf_system.specs.NodeLines.{BackupDoes, FromSite, HasNode, site_at}
use Rattle.rdf_system.specs.States.{SiteMayServe}
use Rattle.rdf_system.proofs.CopyLaws.{lead_is, node_at, put_back_did}
use Rattle.rdf_system.proofs.SessionRuns.{node_of, node_serves}
use Rattle.rdf_system.proofs.SiteLaws.{copy_apart, copy_placed, laid_at, there_at}
use Rattle.rdf_system.proofs.system.System.fetched.Goals as goal

pub lend-lent-requires : goal.lend-lent-requires
lend-lent-requires g c = record { there = there_at g.D.Disk.tells g.D.Disk.files g.D.Disk.counts c.args.self.now c.requires.serves c.args.node (copy_placed c.args.self.now.layout c.args.node c.args.from c.requires.names).0 }

pub copied-answer-requires-clause-serves : goal.copied-answer-requires-clause-serves
copied-answer-requires-clause-serves g c = node_serves c.args.self.now c.args.node c.lend-lent.result c.requires.serves (copy_placed c.args.self.now.layout c.args.node c.args.from c.requires.names).0 c.lend-lent.ensures.was

pub copied-answer-requires-clause-lead : goal.copied-answer-requires-clause-lead
copied-answer-requires-clause-lead g c =
    let old = c.args.self.now in
    let lead = lead_is old c.lend-lent.new.self c.args.node c.lend-lent.ensures.rest c.args.from (copy_apart old.layout c.args.node c.args.from c.requires.names) c.place_of.result.now c.place_of.ensures in
    subst (λ (x : Site g.row.D.Denot g.D.Disk). SiteMayServe g.D.Disk.tells g.D.Disk.files g.D.Disk.counts x) (sym lead) (c.requires.serves.sites c.args.from)

pub copied-answer-requires-clause-same : goal.copied-answer-requires-clause-same
copied-answer-requires-clause-same g c =
    let old = c.args.self.now in
    let placed = copy_placed old.layout c.args.node c.args.from c.requires.names in
    let lead = lead_is old c.lend-lent.new.self c.args.node c.lend-lent.ensures.rest c.args.from (copy_apart old.layout c.args.node c.args.from c.requires.names) c.place_of.result.now c.place_of.ensures in (
      old.layout,
      ((node_of old c.args.node c.lend-lent.result c.requires.serves placed.0 c.lend-lent.ensures.was).laid, subst (λ (x : Site g.row.D.Denot g.D.Disk). HasNode (IsLaid old.layout) x) (sym lead) (laid_at g.D.Disk.tells g.D.Disk.files g.D.Disk.counts old c.requires.serves c.args.from placed.1)),
    )

pub returns-clause-does : goal.returns-clause-does
returns-clause-does g c =
    let old = c.args.self.now in
    let l = line.CopyAudit c.args.node c.args.from in
    let r = c.copied-answer.result in
    let named = (node_of old c.args.node c.lend-lent.result c.requires.serves (copy_placed old.layout c.args.node c.args.from c.requires.names).0 c.lend-lent.ensures.was).named in
    let lead = lead_is old c.lend-lent.new.self c.args.node c.lend-lent.ensures.rest c.args.from (copy_apart old.layout c.args.node c.args.from c.requires.names) c.place_of.result.now c.place_of.ensures in
    put_back_did old c.lend-lent.new.self c.args.node c.lend-lent.ensures.rest l r c.lend-lent.result c.copied-answer.new.own c.lend-lent.ensures.was c.nodes_stand.ensures
    (subst (λ (x : Site g.row.D.Denot g.D.Disk). BackupDoes g.D.Disk.tells g.D.Disk.files g.D.Disk.counts old.layout (Performs g.D.Disk.files (FromSite g.D.Disk.files x) l r) l r c.lend-lent.result c.copied-answer.new.own) lead (c.copied-answer.ensures.does old.layout c.args.node c.args.from named))
    c.put_back.new.self c.put_back.ensures

pub returns-clause-judged : goal.returns-clause-judged
returns-clause-judged g c =
    let old = c.args.self.now in
    let lead = lead_is old c.lend-lent.new.self c.args.node c.lend-lent.ensures.rest c.args.from (copy_apart old.layout c.args.node c.args.from c.requires.names) c.place_of.result.now c.place_of.ensures in
    node_at (λ n. HasNode (λ m. IsCopied c.args.from m c.copied-answer.result n) (site_at old c.args.from)) (site_at old c.args.node) c.lend-lent.result c.lend-lent.ensures.was
    (subst (λ (x : Site g.row.D.Denot g.D.Disk). HasNode (λ m. IsCopied c.args.from m c.copied-answer.result c.lend-lent.result) x) lead (c.copied-answer.ensures.judged c.args.from))
