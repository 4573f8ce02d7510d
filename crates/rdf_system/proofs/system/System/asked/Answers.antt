use Rattle.std.proofs.Common.{◌≡◌, sym, subst}
use Rattle.std.specs.Option.{option_copied}
use Rattle.std.specs.Prelude.{MatchOption}
use Rattle.rdf_system.specs.declared.site.Site.{Site}
use Rattle.rdf_system.specs.NodeLines.{is_on_backup, site_at, HasNode}
use Rattle.rdf_system.specs.States.{IsSomewhere, SiteMayServe}
use Rattle.rdf_system.proofs.BackupLines.{named_on}
use Rattle.rdf_system.proofs.OnSite.{at_backup}
use Rattle.rdf_system.proofs.SiteLaws.{sized_at, somewhere}
use Rattle.rdf_system.proofs.Suiting.{suits}
use Rattle.rdf_system.proofs.system.System.asked.Goals as goal

pub line_at-requires-clause-own : goal.line_at-requires-clause-own
line_at-requires-clause-own g c = subst (λ (x : Site g.row.D.Denot g.D.Disk). MatchOption x.node ⊥ (λ n. is_on_backup n.name c.args.line.now)) (sym c.get_mut.ensures.value)
    (named_on c.args.self.now.layout c.args.node (site_at c.args.self.now c.args.node) c.args.line.now c.requires.placed (c.requires.serves.whole.sites c.args.node) c.requires.own)

pub line_at-requires-clause-laid : goal.line_at-requires-clause-laid
line_at-requires-clause-laid g c = subst (λ (x : Site g.row.D.Denot g.D.Disk). HasNode (λ n. c.args.self.now.layout.volumes ≡ n.volumes) x) (sym c.get_mut.ensures.value) (sized_at g.D.Disk.tells g.D.Disk.files g.D.Disk.counts c.args.self.now c.requires.serves c.args.node c.requires.placed)

pub line_at-requires-clause-serves : goal.line_at-requires-clause-serves
line_at-requires-clause-serves g c = subst (λ (x : Site g.row.D.Denot g.D.Disk). SiteMayServe g.D.Disk.tells g.D.Disk.files g.D.Disk.counts x) (sym c.get_mut.ensures.value) (c.requires.serves.sites c.args.node)

pub line_at-requires-clause-stood : goal.line_at-requires-clause-stood
line_at-requires-clause-stood g c = λ t. subst (λ (x : Site g.row.D.Denot g.D.Disk). IsSomewhere g.D.Disk.files c.args.self.now.layout x) (sym c.get_mut.ensures.value) (somewhere g.D.Disk.tells g.D.Disk.files g.D.Disk.counts c.args.self.now c.requires.serves c.args.node c.requires.placed (c.requires.stood t))

pub returns : goal.returns
returns g c = record {
  message = option_copied c.message_for-message.result;
  suits = λ t layout s is. suits (λ x. x.now) c.message_for-message.result c.part_is_part.ensures layout s c.args.self.now.layout c.args.node c.args.line.now is.laid c.requires.own (c.message_for-message.ensures.message layout s is.senders);
  at = at_backup c.args.line.now c.line_at.result c.args.self.now c.args.node c.get_mut.result.now c.line_at.new.site c.get_mut.ensures.value c.line_at.ensures;
}
