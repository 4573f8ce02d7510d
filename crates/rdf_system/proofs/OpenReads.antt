-- A read of an open session, which was answered, as what the system does as the session shows it.
use Rattle.std.proofs.Common.{◌≡◌, ◌⊎◌, inl, inr, Option, Some, Ok, IsTrue, refl, sym, ap, subst}
use Rattle.rdf_types.specs.declared.records.Node.{Node}
use Rattle.rdf_types.specs.declared.records.RecKey.{RecKey}
use Rattle.rdf_disk.specs.Files.{Disk}
use Rattle.rdf_disk.specs.Counts.{Counts}
use Rattle.rdf_disk.specs.declared.disk.Disk.{Ghosts}
use Rattle.plan_lang.specs.declared.lines.Line.{Line}
use Rattle.plan_lang.specs.declared.lines.Line.TheVariants as line
use Rattle.rdf_core.specs.declared.replies.Reply.{Reply}
use Rattle.rdf_core.specs.declared.replies.Reply.TheVariants.{Stopped}
use Rattle.rdf_core.specs.Layouts.{protects}
use Rattle.by_node.specs.Each.{at}
use Rattle.rdf_backup.specs.Sessions.{Open}
use Rattle.backup_node.specs.declared.node.BackupNode.{BackupNode}
use Rattle.backup_node.specs.Open.{in_open, ReadsIn}
use Rattle.backup_node.specs.Rising.{ReadEnds, ReadAt, FellRisen}
use Rattle.rdf_system.proofs.Judging.{phase_there, read_judged}
use Rattle.rdf_system.specs.declared.system.System.{System}
use Rattle.rdf_system.specs.Lines.{IsCaused, Follows, Keeps}
use Rattle.rdf_system.specs.NodeLines.{BackupDoes, with_site}
use Rattle.rdf_system.specs.Noting.{noted, noted_node}
use Rattle.rdf_system.specs.OpenLines.{DoesOpen, PerformsFed}
use Rattle.rdf_system.specs.Opened.{OpenView, shown, shown_in, IsOpenAt}
use Rattle.rdf_system.specs.Sessions.{IsPlacedAt}
use Rattle.rdf_system.proofs.OnSite.{Asked, Beside, here, turned, was_at, site_keeps}
use Rattle.rdf_system.proofs.OpenOwn.{site, site_did}
use Rattle.rdf_system.proofs.SessionReads.{Laws, asked_read, read_well, read_cut}
use Rattle.rdf_system.proofs.ShownSites.{shown_behind, site_shown}
use Rattle.rdf_system.proofs.SiteValues.{NodesStand}
use Rattle.rdf_system.specs.Stances.{bar_in, stances_of}
use Rattle.rdf_system.specs.declared.site.Site.{Site}

module _ {D : Type 0} {d : Ghosts D} {tells : Type 0} {files : D → Disk} {counts : D → Counts} (x : OpenView D d) (is_open : IsOpenAt tells files counts x) (new : Open D d) (stand : NodesStand d files) (others : tells → Beside files (shown x)) (laws : Laws) (key : RecKey) (reply : Reply) where
  abbrev name : Node
  name = x.node.name

  abbrev l : Line
  l = line.Read name key

  -- how the node does it
  abbrev Goes : BackupNode D d → BackupNode D d → Type 0
  Goes = ReadsIn files key x.session (Ok reply)

  abbrev After : System D d
  After = with_site (shown x) name (site x is_open new stand) (noted x.system.session reply)

  module _ (does : BackupDoes tells files counts x.system.layout Goes l (Ok reply) (in_open x.session x.node) (in_open new x.node)) where
    asked : Asked tells files counts (shown x) name Goes l (Ok reply) (site x is_open new stand)
    asked = asked_read name (site x is_open new stand) key is_open.serves is_open.placed is_open.open_is others laws (Ok reply) (site_did x is_open new stand Goes l (Ok reply) does)

    kept : Keeps tells files counts (IsCaused counts l (Ok reply) (shown x) After) l (Ok reply) (shown x) After
    kept = site_keeps reply asked (noted x.system.session reply) (subst (λ (o : Option Node). IsPlacedAt x.system.layout o) (sym (noted_node x.system.session reply)) is_open.serves.whole.session) refl
        (read_judged (stances_of (shown x)) (shown x).layout name is_open.placed (in_open x.session x.node) (in_open new x.node) (phase_there (shown x) name (in_open x.session x.node) (ap (λ (s : Site D d). s.node) (site_shown x.node x.system x.session))) key reply is_open.runs (ap bar_in is_open.open_is) does.kinds)

    goes : tells → PerformsFed files x.session l (Ok reply) (shown x) After
    goes t layout s rise some risen fed is = ended (subst (λ (n : Node). ReadEnds files layout s.primary.trail key n (at s.backups name) rise (Ok reply) (here asked).now) (here asked).of.named how)
      where
        how : ReadEnds files layout s.primary.trail key (here asked).was.name (at s.backups name) rise (Ok reply) (here asked).now
        how = (here asked).does.performs t layout s.primary.trail (at s.backups name) rise some fed (was_at asked layout s is)

        ended : ReadAt files layout s.primary.trail key (at s.backups name) reply (here asked).now ⊎ ((reply ≡ Stopped name) × IsTrue (protects layout key.vol) × FellRisen files layout s.primary.trail (at s.backups name) rise (here asked).now) →
            Follows files layout s (Some name) l rise reply After
        ended (inl r) = read_well name (site x is_open new stand) key is_open.serves is_open.placed is_open.open_is others laws (turned asked) t layout s is reply rise r
        ended (inr r) = read_cut name (site x is_open new stand) key is_open.serves is_open.placed is_open.open_is others laws (turned asked) t layout s is reply rise some r.0 r.1 r.2

    pub read_open : DoesOpen tells files counts l (Ok reply) x (record { session = new; node = x.node; system = record x.system { session = noted x.system.session reply } })
    read_open = record {
      performs = λ t. subst (λ (y : System D d). PerformsFed files x.session l (Ok reply) (shown x) y) behind_is (goes t);
      keeps = subst (λ (y : System D d). Keeps tells files counts (IsCaused counts l (Ok reply) (shown x) y) l (Ok reply) (shown x) y) behind_is kept;
    }
      where
        behind_is : After ≡ shown_in new x.node (record x.system { session = noted x.system.session reply })
        behind_is = shown_behind x.node x.system x.session new (noted x.system.session reply)
