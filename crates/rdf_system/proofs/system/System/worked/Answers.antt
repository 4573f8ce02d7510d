use Rattle.std.proofs.Common.{◌≡◌, sym, subst}
use Rattle.plan_lang.specs.declared.lines.Line.TheVariants as line
use Rattle.backup_node.specs.Kinds.{IsTakenOver}
use Rattle.rdf_system.specs.declared.site.Site.{Site}
use Rattle.rdf_system.specs.NodeLines.{HasNode}
use Rattle.rdf_system.specs.States.{SiteMayServe}
use Rattle.rdf_system.proofs.OnSite.{at_backup}
use Rattle.rdf_system.proofs.SiteLaws.{named_at, there_at}
use Rattle.rdf_system.proofs.system.System.worked.Goals as goal

pub taken_over-requires-clause-there : goal.taken_over-requires-clause-there
taken_over-requires-clause-there g c κs within = subst (λ (x : Site g.row.D.Denot g.D.Disk). HasNode (λ n. Unit {0}) x) (sym c.get_mut.ensures.value) (there_at g.D.Disk.tells g.D.Disk.files g.D.Disk.counts c.args.self.now c.requires.serves c.args.node c.requires.names)

pub taken_over-requires-clause-serves : goal.taken_over-requires-clause-serves
taken_over-requires-clause-serves g c κs within = subst (λ (x : Site g.row.D.Denot g.D.Disk). SiteMayServe g.D.Disk.tells g.D.Disk.files g.D.Disk.counts x) (sym c.get_mut.ensures.value) (c.requires.serves.sites c.args.node)

pub returns-clause-does : goal.returns-clause-does
returns-clause-does g c = at_backup (line.Takeover c.args.node) c.taken_over.result c.args.self.now c.args.node c.get_mut.result.now c.taken_over.new.site c.get_mut.ensures.value
    (c.taken_over.ensures.does c.args.self.now.layout c.args.node (subst (λ (x : Site g.row.D.Denot g.D.Disk). HasNode (λ n. n.name ≡ c.args.node) x) (sym c.get_mut.ensures.value) (named_at g.D.Disk.tells g.D.Disk.files g.D.Disk.counts c.args.self.now c.requires.serves c.args.node c.requires.names)))

pub returns-clause-judged : goal.returns-clause-judged
returns-clause-judged g c = subst (λ (x : Site g.row.D.Denot g.D.Disk). HasNode (IsTakenOver c.args.lost c.taken_over.result) x) c.get_mut.ensures.value c.taken_over.ensures.judged
