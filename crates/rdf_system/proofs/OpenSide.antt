-- A line of an open session on the primary or on the sender's side of a backup, as what the system does as the session shows it.
use Rattle.std.proofs.Common.{◌≡◌, true, List, Result, refl, sym, ap, ◌∙◌, subst}
use Rattle.rdf_types.specs.declared.layout.Layout.{Layout}
use Rattle.rdf_types.specs.declared.records.Node.{Node}
use Rattle.rdf_disk.specs.Files.{Disk}
use Rattle.rdf_disk.specs.Counts.{Counts}
use Rattle.rdf_disk.specs.declared.disk.Disk.{Ghosts}
use Rattle.rdf_types.specs.declared.records.Record.{Record}
use Rattle.plan_lang.specs.declared.lines.Line.{Line}
use Rattle.plan_lang.specs.Sessions.{fits_session}
use Rattle.rdf_core.specs.declared.replies.Reply.{Reply}
use Rattle.rdf_core.specs.Allowed.{is_backup}
use Rattle.rdf_core.specs.GrowthLaws.{Grows}
use Rattle.by_node.specs.Each.{at}
use Rattle.rdf_backup.specs.Sessions.{IsFed}
use Rattle.primary_node.specs.Nodes.{MayServe as PrimaryMayServe}
use Rattle.backup_node.specs.declared.node.BackupNode.{BackupNode}
use Rattle.rdf_system.specs.declared.fault.StepFault.{StepFault}
use Rattle.rdf_system.specs.declared.session.SessionState.{SessionState}
use Rattle.rdf_system.specs.declared.site.Site.{Site}
use Rattle.rdf_system.specs.declared.system.System.{System}
use Rattle.rdf_system.specs.Lines.{Does}
use Rattle.rdf_system.specs.NodeLines.{site_at, HasNode, DoesBeside}
use Rattle.rdf_system.specs.OpenLines.{DoesOpen, FeedsOn, IsOpenLine, KeepsLent}
use Rattle.rdf_system.specs.Opened.{OpenView, shown, MayLend, IsOpenAt}
use Rattle.rdf_system.specs.Sessions.{node_of}
use Rattle.rdf_system.specs.States.{layout_of}
use Rattle.rdf_system.proofs.Feeding.{line_longer}
use Rattle.rdf_system.proofs.ShownSites.{up_at}
use Rattle.rdf_system.proofs.SiteValues.{SessionsGoOn, beside_shown}

module _ {D : Type 0} {d : Ghosts D} (old new : System D d) (rest : new ≡ record old { primary = new.primary; senders = new.senders }) where
  -- the sites stay
  site_stays : (name : Node) → site_at new name ≡ site_at old name
  site_stays name = ap (λ (s : System D d). site_at s name) rest

  layout_stays : layout_of new ≡ layout_of old
  layout_stays = ap (λ (s : System D d). layout_of s) rest

  -- the node is lent on
  pub lends_on : (tells : Type 0) (files : D → Disk) (counts : D → Counts) (n : BackupNode D d) → (PrimaryMayServe tells files counts old.primary → PrimaryMayServe tells files counts new.primary) → MayLend tells files counts n old → MayLend tells files counts n new
  lends_on tells files counts n serves h = record {
    primary = serves h.primary;
    away = ap (λ (s : Site D d). s.node) (site_stays n.name) ∙ h.away;
    others = λ name placed far. subst (λ (s : Site D d). HasNode (λ other. Unit {0}) s) (sym (site_stays name)) (h.others name (subst (λ (layout : Layout). is_backup layout name ≡ true) layout_stays placed) far);
  }

module _ {D : Type 0} {d : Ghosts D} {tells : Type 0} {files : D → Disk} {counts : D → Counts} (x : OpenView D d) {l : Line} {result : Result Reply StepFault} {new : System D d} (h : DoesBeside tells files counts (λ sys. sys ≡ shown x) l result x.system new) where
  -- the same session beside it
  abbrev pub beside : OpenView D d
  beside = record { session = x.session; node = x.node; system = new }

  pub keeps_lent : MayLend tells files counts x.node x.system → KeepsLent tells files counts x beside
  keeps_lent lends = record {
    lends = lends_on x.system new h.rest tells files counts x.node h.serves lends;
    lent = refl;
    laid = layout_stays x.system new h.rest;
    placed = ap (λ (s : System D d). node_of s.session) h.rest;
    comes = λ first come. come;
  }

  module _ (is_open : IsOpenAt tells files counts x) (open_line : IsOpenLine x.node x.system l) where
    did : Does tells files counts l result (shown x) (shown beside)
    did = beside_shown h x.session x.node refl is_open.serves open_line.names (subst (λ (ss : SessionState). fits_session (node_of ss) l ≡ true) (sym is_open.open_is) open_line.fits)

    pub does_open : DoesOpen tells files counts l result x beside
    does_open = record { performs = λ t layout s rise some risen fed is. did.performs t layout s rise some risen is; keeps = did.keeps }

    pub still_open : IsOpenAt tells files counts beside
    still_open = record {
      serves = did.serves;
      open_is = ap (λ (s : System D d). s.session) h.rest ∙ is_open.open_is;
      placed = subst (λ (layout : Layout). is_backup layout x.node.name ≡ true) (sym (layout_stays x.system new h.rest)) is_open.placed;
      runs = is_open.runs;
      since = is_open.since;
    }

    -- its updaters are fed on, with the trail of the state behind the line
    pub feeds_on : SessionsGoOn d files → (reply : Reply) → FeedsOn files l reply x beside
    feeds_on law reply layout s mid next is fed drifts step now =
        let g : Grows s.primary.trail next.primary.trail = line_longer layout s mid next x.node.name l reply open_line.fits open_line.unended drifts step in
        subst (λ (trail : List Record). IsFed trail x.session) (sym g.1) (law x.session x.node layout s.primary.trail g.0 (at s.backups x.node.name) (up_at x.node x.system files layout s x.session is) fed)
