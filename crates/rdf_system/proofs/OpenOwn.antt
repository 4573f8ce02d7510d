-- A delivery or a purge of an open session, which was answered, as what the system does as the session shows it.
use Rattle.std.proofs.Common.{◌≡◌, ℕ, true, List, Option, Result, Ok, refl, sym, subst}
use Rattle.rdf_types.specs.declared.layout.Layout.{Layout}
use Rattle.rdf_disk.specs.Files.{Disk}
use Rattle.rdf_disk.specs.Counts.{Counts}
use Rattle.rdf_disk.specs.declared.disk.Disk.{Ghosts}
use Rattle.plan_lang.specs.declared.lines.Line.{Line}
use Rattle.plan_lang.specs.Sessions.{fits_session}
use Rattle.rdf_core.specs.Allowed.{has_names}
use Rattle.node_faults.specs.declared.NodeFault.{NodeFault}
use Rattle.rdf_core.specs.declared.replies.Reply.{Reply}
use Rattle.by_node.specs.Each.{at}
use Rattle.rdf_core.specs.State.{State}
use Rattle.rdf_backup.specs.Sessions.{Open}
use Rattle.backup_node.specs.declared.node.BackupNode.{BackupNode}
use Rattle.backup_node.specs.Open.{in_open}
use Rattle.rdf_system.specs.declared.site.Site.{Site}
use Rattle.rdf_system.specs.declared.system.System.{System}
use Rattle.rdf_system.specs.Lines.{Does}
use Rattle.rdf_system.specs.NodeLines.{is_on_backup, LinePerforms, BackupDoes, SiteDoes, Suits, about, site_at}
use Rattle.rdf_system.specs.Noting.{behind}
use Rattle.rdf_system.specs.Opened.{OpenView, shown, shown_in, IsOpenAt}
use Rattle.rdf_system.specs.Sessions.{node_of}
use Rattle.rdf_system.specs.States.{IsAtState}
use Rattle.rdf_system.proofs.BackupLines.{line_answers}
use Rattle.rdf_system.proofs.OnLines.{Lifts, LiftsCut, PresentGo}
use Rattle.rdf_system.proofs.OnSite.{Beside}
use Rattle.rdf_system.proofs.ShownSites.{lent_site, site_shown, shown_behind}
use Rattle.rdf_system.proofs.SiteValues.{NodesStand, site_stands}

module _ {D : Type 0} {d : Ghosts D} {tells : Type 0} {files : D → Disk} {counts : D → Counts} (x : OpenView D d) (is_open : IsOpenAt tells files counts x) (new : Open D d) (stand : NodesStand d files) where
  -- the session's site behind the line
  abbrev pub site : Site D d
  site = lent_site x.node x.system new (site_at x.system x.node.name)

  -- what the node did as it is shown its site did
  pub site_did : (P : BackupNode D d → BackupNode D d → Type 0) (l : Line) (result : Result Reply NodeFault) → BackupDoes tells files counts x.system.layout P l result (in_open x.session x.node) (in_open new x.node) →
      SiteDoes tells files counts x.system.layout P l result (site_at (shown x) x.node.name) site
  site_did P l result does = subst (λ (s : Site D d). SiteDoes tells files counts x.system.layout P l result s site) (sym (site_shown x.node x.system x.session))
      (record { node = does; spare = refl; room = refl; stands = λ t. site_stands files stand site })

  pub own_answers : (message : Option (List ℕ)) → (tells → Beside files (shown x)) → Lifts → LiftsCut → PresentGo → (reply : Reply) (l : Line) → is_on_backup x.node.name l → has_names x.system.layout l ≡ true → fits_session (node_of x.system.session) l ≡ true →
      (tells → (layout : Layout) (s : State) → IsAtState files layout s (shown x) → Suits x.system.layout l message layout (about layout s l) (at s.backups x.node.name)) →
      BackupDoes tells files counts x.system.layout (LinePerforms files x.system.layout message l (Ok reply)) l (Ok reply) (in_open x.session x.node) (in_open new x.node) →
      Does tells files counts l (Ok reply) (shown x) (shown_in new x.node (record x.system { session = behind x.system.session l reply }))
  own_answers message others lifts cuts go_by reply l on names fits suits does =
      subst (λ (y : System D d). Does tells files counts l (Ok reply) (shown x) y) (shown_behind x.node x.system x.session new (behind x.system.session l reply))
      (line_answers x.node.name site message is_open.serves is_open.placed others lifts cuts go_by reply l on names fits suits (site_did (LinePerforms files x.system.layout message l (Ok reply)) l (Ok reply) does))
